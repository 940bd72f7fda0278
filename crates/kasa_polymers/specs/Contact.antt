-- The contact map: the bonds and the states that can be there.
use Rattle.std.specs.Prelude.{◌≡◌, ℕ, ◌⊎◌, List, Option, Some}
use Rattle.kasa_graph.specs.declared.mixture.Agent.{Agent}
use Rattle.kasa_graph.specs.Lists.{Has}
use Rattle.kasa_graph.specs.Mixture.{type_in, state_in, partner_in}
use Rattle.kasa_rules.specs.declared.model.Model.{Model}
use Rattle.kasa_rules.specs.declared.rule.End.{End}
use Rattle.kasa_rules.specs.declared.rule.End.TheVariants.{Left, Made}
use Rattle.kasa_rules.specs.declared.rule.Written.TheVariants.{To}
use Rattle.kasa_rules.specs.Rule.{RuleParts, written_state, made_state, end_type, end_link}
use Rattle.kasa_families.specs.Table.{Table}
use Rattle.kasa_pre.specs.Allowed.{IsAllowed}
use Rattle.kasa_polymers.specs.declared.map.Bond.{Bond}
use Rattle.kasa_polymers.specs.declared.map.StateSeen.{StateSeen}
use Rattle.kasa_polymers.specs.declared.map.ContactMap.{ContactMap}

-- the bond read from its other end
abbrev pub turned : Bond → Bond
turned bond = record { a = bond.b; x = bond.y; b = bond.a; y = bond.x }

-- the bond stands in a mixture
pub record HasBond (m : List (Option Agent)) (bond : Bond) : Type 0 where
  pub first : ℕ
  pub second : ℕ
  pub first_type : type_in m first ≡ Some bond.a
  pub partner : partner_in m first bond.x ≡ Some (second, bond.y)
  pub second_type : type_in m second ≡ Some bond.b

-- the state stands in a mixture
pub record HasStateSeen (m : List (Option Agent)) (seen : StateSeen) : Type 0 where
  pub cell : ℕ
  pub of_type : type_in m cell ≡ Some seen.a
  pub state : state_in m cell seen.x ≡ Some seen.u

-- the rule writes or creates the bond
pub record WritesBond (r : RuleParts) (bond : Bond) : Type 0 where
  pub first : End
  pub second : End
  pub first_type : end_type r first ≡ Some bond.a
  pub link : end_link r first bond.x ≡ Some (To second bond.y)
  pub second_type : end_type r second ≡ Some bond.b

-- the state that the rule writes or creates at an end
abbrev pub end_state : RuleParts → End → ℕ → Option ℕ
end_state r (Left n) s = written_state r n s
end_state r (Made k) s = made_state r k s

-- the rule writes or creates the state
pub record WritesState (r : RuleParts) (seen : StateSeen) : Type 0 where
  pub at : End
  pub of_type : end_type r at ≡ Some seen.a
  pub state : end_state r at seen.x ≡ Some seen.u

-- the complexes that the model declares
abbrev pub declared_complexes : Model → List (List (Option Agent))
declared_complexes model = model.inits

-- a declared complex with the property
abbrev pub SomeComplex : Model → (List (Option Agent) → Type 0) → Type 0
SomeComplex model P = (m : List (Option Agent)) × Has (declared_complexes model) m × P m

-- a rule of the model that isn't dead, since its left pattern is allowed, with the property
abbrev pub SomeLiveRule : Model → List Table → (RuleParts → Type 0) → Type 0
SomeLiveRule model tables P = (r : RuleParts) × Has model.rules r × IsAllowed model.sig tables r.left × P r

-- the bond is in the contact map: in a declared complex, or written or created by a rule that isn't dead
abbrev pub IsContactBond : Model → List Table → Bond → Type 0
IsContactBond model tables bond = SomeComplex model (λ m. HasBond m bond) ⊎ SomeLiveRule model tables (λ r. WritesBond r bond)

-- so is the state
abbrev pub IsContactState : Model → List Table → StateSeen → Type 0
IsContactState model tables seen = SomeComplex model (λ m. HasStateSeen m seen) ⊎ SomeLiveRule model tables (λ r. WritesState r seen)

-- the map has each bond and each state of a mixture
pub record IsMapped (map : ContactMap) (m : List (Option Agent)) : Type 0 where
  pub bonds : (bond : Bond) → HasBond m bond → Has map.bonds bond
  pub states : (seen : StateSeen) → HasStateSeen m seen → Has map.states seen
