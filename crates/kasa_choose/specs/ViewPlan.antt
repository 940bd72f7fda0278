-- The plan of views: for each type, the sets of sites whose states and links are looked at together.
use Rattle.std.specs.Prelude.{◌≡◌, ◌≢◌, ℕ, ◌<◌, ⊤, ◌⊎◌, ◌↔◌, List, [], ◌∷◌, length, take, drop, IsSome, Some, slice_get}
use Rattle.kasa_graph.specs.declared.pattern.StateTest.{StateTest}
use Rattle.kasa_graph.specs.declared.pattern.StateTest.TheVariants.{Any}
use Rattle.kasa_graph.specs.declared.pattern.LinkTest.{LinkTest}
use Rattle.kasa_graph.specs.declared.pattern.LinkTest.TheVariants.{Any}
use Rattle.kasa_graph.specs.Lists.{Has}
use Rattle.kasa_graph.specs.Signature.{state_counts, HasSite}
use Rattle.kasa_graph.specs.Pattern.{agent_at, state_test, link_test}
use Rattle.kasa_rules.specs.declared.model.Model.{Model}
use Rattle.kasa_rules.specs.Rule.{RuleParts, written_state, written_link}
use Rattle.kasa_families.specs.declared.family.Family.{Family}
use Rattle.kasa_families.specs.declared.family.Family.TheVariants.{View}
use Rattle.kasa_families.specs.Family.{Ascends}

-- ---- which sites a rule speaks of

-- the test asks for something
abbrev pub AsksState : StateTest → Type 0
AsksState Any = ⊥
AsksState _ = ⊤

abbrev pub AsksLink : LinkTest → Type 0
AsksLink Any = ⊥
AsksLink _ = ⊤

-- the rule tests or writes the state or the link at this site of its left node n
abbrev pub Mentions : RuleParts → ℕ → ℕ → Type 0
Mentions r n s = AsksState (state_test r.left n s) ⊎ AsksLink (link_test r.left n s) ⊎ IsSome (written_state r n s) ⊎ IsSome (written_link r n s)

-- n is a left node of the rule, and has this type
abbrev pub IsLeftNode : RuleParts → ℕ → ℕ → Type 0
IsLeftNode r n a = agent_at r.left n ≡ Some a

-- some left node of this type mentions the site
abbrev pub IsMentioned : Model → ℕ → ℕ → Type 0
IsMentioned model a s = (r : RuleParts) × (n : ℕ) × Has model.rules r × IsLeftNode r n a × Mentions r n s

-- ---- which sets of sites are views

-- the ascending list of the numbers of which P holds
pub record IsListOf (P : ℕ → Type 0) (sites : List ℕ) : Type 0 where
  pub ascends : Ascends sites
  pub exact : (s : ℕ) → Has sites s ↔ P s

-- the sites that one left node of this type mentions
abbrev pub IsMentionedSet : Model → ℕ → List ℕ → Type 0
IsMentionedSet model a sites = (r : RuleParts) × (n : ℕ) × Has model.rules r × IsLeftNode r n a × IsListOf (Mentions r n) sites

-- the sites of the type that no left node mentions
abbrev pub IsUnmentionedSet : Model → ℕ → List ℕ → Type 0
IsUnmentionedSet model a sites = IsListOf (λ s. HasSite model.sig a s × (¬ IsMentioned model a s)) sites

-- the 16 least of them, or the others
abbrev pub IsPart : List ℕ → List ℕ → Type 0
IsPart whole sites = (sites ≡ take 16 whole) ⊎ (sites ≡ drop 16 whole)

-- such a set, or, where it has more than 16 sites, its 16 least or the others; but no empty one
abbrev pub IsSiteSet : Model → ℕ → List ℕ → Type 0
IsSiteSet model a sites = (whole : List ℕ) × (IsMentionedSet model a whole ⊎ IsUnmentionedSet model a whole) × IsPart whole sites × (sites ≢ [])

-- each site of the first is one of the second
abbrev pub IsWithin : List ℕ → List ℕ → Type 0
IsWithin sites others = (s : ℕ) → Has sites s → Has others s

-- the type has no sites, and neither has the view; or this is one of its sets, and not a part of a larger one
abbrev pub IsViewOf : Model → ℕ → List ℕ → Type 0
IsViewOf model a sites =
    ((state_counts model.sig a ≡ []) × (sites ≡ []))
    ⊎ (IsSiteSet model a sites × ((others : List ℕ) → IsSiteSet model a others → IsWithin sites others → IsWithin others sites))

-- ---- the plan

abbrev pub IsPlanned : Model → Family → Type 0
IsPlanned model (View a sites) = (a < length model.sig) × IsViewOf model a sites
IsPlanned model _ = ⊥

-- the first list is a prefix of the second, or smaller where they differ first
abbrev pub PrecedesList : List ℕ → List ℕ → Type 0
PrecedesList [] (y ∷ ys) = ⊤
PrecedesList (x ∷ xs) (y ∷ ys) = (x < y) ⊎ ((x ≡ y) × PrecedesList xs ys)
PrecedesList xs [] = ⊥

-- by type, and then by sites
abbrev pub Precedes : Family → Family → Type 0
Precedes (View a sites) (View b others) = (a < b) ⊎ ((a ≡ b) × PrecedesList sites others)
Precedes _ _ = ⊥

-- each precedes all that stand behind it
abbrev pub AreInOrder : List Family → Type 0
AreInOrder families = (i j : ℕ) (f g : Family) → i < j → slice_get families i ≡ Some f → slice_get families j ≡ Some g → Precedes f g

-- just the planned views, in order
pub record IsViewPlan (model : Model) (families : List Family) : Type 0 where
  pub ordered : AreInOrder families
  pub exact : (f : Family) → Has families f ↔ IsPlanned model f

-- there is a plan, and it has more than so many views
abbrev pub PlansMore : ℕ → Model → Type 0
PlansMore most model = (families : List Family) × IsViewPlan model families × (most < length families)
