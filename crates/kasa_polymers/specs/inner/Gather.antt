-- What one cell, or one end of a rule, adds to the contact map, and what loops over these have added so far.
use Rattle.std.specs.Prelude.{◌≡◌, ℕ, ◌<◌, ◌⊎◌, ◌↔◌, List, Option, Some, IsSome}
use Rattle.kasa_graph.specs.declared.mixture.Agent.{Agent}
use Rattle.kasa_graph.specs.Lists.{Has}
use Rattle.kasa_graph.specs.Pattern.{HasNodeSite}
use Rattle.kasa_graph.specs.Mixture.{type_in, state_in, partner_in}
use Rattle.kasa_rules.specs.declared.rule.End.{End}
use Rattle.kasa_rules.specs.declared.rule.End.TheVariants.{Left, Made}
use Rattle.kasa_rules.specs.declared.rule.Written.TheVariants.{To}
use Rattle.kasa_rules.specs.Rule.{RuleParts, made_site, end_type, end_link}
use Rattle.kasa_polymers.specs.declared.map.Bond.{Bond}
use Rattle.kasa_polymers.specs.declared.map.StateSeen.{StateSeen}
use Rattle.kasa_polymers.specs.declared.gather.Seen.{Seen}
use Rattle.kasa_polymers.specs.Contact.{end_state}

-- the elements with the property were added
abbrev pub Adds : {X : Type 0} → (X → Type 0) → List X → List X → Type 0
Adds {X} P old new = (x : X) → Has new x ↔ (Has old x ⊎ P x)

pub record AddsSeen (IsBond : Bond → Type 0) (IsState : StateSeen → Type 0) (old new : Seen) : Type 0 where
  pub bonds : Adds IsBond old.bonds.items new.bonds.items
  pub states : Adds IsState old.states.items new.states.items

-- some number below n has the property
abbrev pub Below : {X : Type 0} → (ℕ → X → Type 0) → ℕ → X → Type 0
Below P n x = (k : ℕ) × (k < n) × P k x

-- the bond and the state stand at a cell
abbrev pub IsBondOf : List (Option Agent) → ℕ → Bond → Type 0
IsBondOf m c p = (type_in m c ≡ Some p.a) × ((d : ℕ) × (partner_in m c p.x ≡ Some (d, p.y)) × (type_in m d ≡ Some p.b))

abbrev pub IsStateOf : List (Option Agent) → ℕ → StateSeen → Type 0
IsStateOf m c q = (type_in m c ≡ Some q.a) × (state_in m c q.x ≡ Some q.u)

-- and at a site of it
abbrev pub IsBondAt : List (Option Agent) → ℕ → ℕ → Bond → Type 0
IsBondAt m c s p = (p.x ≡ s) × IsBondOf m c p

abbrev pub IsStateAt : List (Option Agent) → ℕ → ℕ → StateSeen → Type 0
IsStateAt m c s q = (q.x ≡ s) × IsStateOf m c q

-- the bond and the state are written or created at an end
abbrev pub IsBondOfEnd : RuleParts → End → Bond → Type 0
IsBondOfEnd r e p = (end_type r e ≡ Some p.a) × ((f : End) × (end_link r e p.x ≡ Some (To f p.y)) × (end_type r f ≡ Some p.b))

abbrev pub IsStateOfEnd : RuleParts → End → StateSeen → Type 0
IsStateOfEnd r e q = (end_type r e ≡ Some q.a) × (end_state r e q.x ≡ Some q.u)

-- and at a site of it
abbrev pub IsBondAtEnd : RuleParts → End → ℕ → Bond → Type 0
IsBondAtEnd r e s p = (p.x ≡ s) × IsBondOfEnd r e p

abbrev pub IsStateAtEnd : RuleParts → End → ℕ → StateSeen → Type 0
IsStateAtEnd r e s q = (q.x ≡ s) × IsStateOfEnd r e q

-- the end has the site
abbrev pub HasEndSite : RuleParts → End → ℕ → Type 0
HasEndSite r (Left n) s = HasNodeSite r.left n s
HasEndSite r (Made k) s = IsSome (made_site r k s)
