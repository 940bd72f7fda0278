-- What is gathered of choosers: their plans joined in order, valid families alone, and the first of equal ones.
use Rattle.std.specs.Prelude.{◌≡◌, ◌⊎◌, cond, List, [], ◌∷◌, ◌++◌}
use Rattle.kasa_graph.specs.Lists.{Has}
use Rattle.kasa_rules.specs.declared.model.Model.{Model}
use Rattle.kasa_families.specs.declared.family.Family.{Family}
use Rattle.kasa_families.specs.Family.{IsFamily}
use Rattle.kasa_choose.specs.declared.kind.Kind.{Kind}
use Rattle.kasa_choose.specs.Kind.{is_left_out}

-- the plans of those boxes whose kind isn't left out, joined in order
abbrev pub joined_plans : {B : Type 0} → (B → Kind) → (B → Model → List Family) → List Kind → Model → List B → List Family
joined_plans kind plan without model [] = []
joined_plans kind plan without model (b ∷ boxes) =
    cond (is_left_out without (kind b)) [] (plan b model) ++ joined_plans kind plan without model boxes

-- the family is valid, and none of those before
abbrev pub IsNewFamily : Model → List Family → Family → Type 0
IsNewFamily model before f = IsFamily model.sig f × (¬ Has before f)

-- the families with this one behind them, where it is new
abbrev pub IsTakenOn : Model → List Family → Family → List Family → Type 0
IsTakenOn model before f after =
    (IsNewFamily model before f × (after ≡ before ++ f ∷ []))
    ⊎ ((¬ IsNewFamily model before f) × (after ≡ before))

-- the families before, and behind them those planned ones that are new, in order
abbrev pub AreFirst : Model → List Family → List Family → List Family → Type 0
AreFirst model before [] families = families ≡ before
AreFirst model before (f ∷ planned) families =
    (after : List Family) × IsTakenOn model before f after × AreFirst model after planned families

-- what boxes give for a model, where their kinds and their plans are known
abbrev pub IsGathered : {B : Type 0} → (B → Kind) → (B → Model → List Family) → List B → List Kind → Model → List Family → Type 0
IsGathered kind plan boxes without model families = AreFirst model [] (joined_plans kind plan without model boxes) families
