-- Parallel families among the families, and what an agent's partners say of their rows.
use Rattle.std.specs.Prelude.{◌≡◌, ◌↔◌, ℕ, ⊤, Bool, true, false, List, Option, Some}
use Rattle.kasa_graph.specs.declared.mixture.Agent.{Agent}
use Rattle.kasa_graph.specs.Lists.{Has}
use Rattle.kasa_graph.specs.Mixture.{partner_in}
use Rattle.kasa_families.specs.declared.family.Family.{Family}
use Rattle.kasa_families.specs.declared.family.Family.TheVariants.{Parallel}
use Rattle.kasa_families.specs.declared.row.Local.{Local}
use Rattle.kasa_families.specs.declared.row.Row.{Row}
use Rattle.kasa_families.specs.declared.row.Row.TheVariants.{Locals, Same, Different}
use Rattle.kasa_families.specs.Shape.{Nth}

-- the family is a parallel family
abbrev pub IsParallel : Family → Type 0
IsParallel (Parallel a x u b y w) = ⊤
IsParallel _ = ⊥

-- the partners of the agent on a cell, at x and at u, are one agent
pub record HasOnePartner (m : List (Option Agent)) (x u c : ℕ) : Type 0 where
  pub partner : ℕ
  pub at_x : ℕ
  pub at_u : ℕ
  pub first : partner_in m c x ≡ Some (partner, at_x)
  pub second : partner_in m c u ≡ Some (partner, at_u)

-- they are one agent, or they aren't
abbrev pub HasOneOrNot : List (Option Agent) → ℕ → ℕ → Bool → ℕ → Type 0
HasOneOrNot m x u true c = HasOnePartner m x u c
HasOneOrNot m x u false c = ¬ HasOnePartner m x u c

-- the same of the agent on the first of some cells, for one of the lists of cells
abbrev pub SomeHasOneOrNot : List (Option Agent) → ℕ → ℕ → Bool → List (List ℕ) → Type 0
SomeHasOneOrNot m x u one found = (cells : List ℕ) × Has found cells × Nth cells 0 (HasOneOrNot m x u one)

-- the rows that these agents show: that the partners of one are one agent, and that those of one aren't
pub record AreRowsShown (m : List (Option Agent)) (x u : ℕ) (found : List (List ℕ)) (rows : List Row) : Type 0 where
  pub same : Has rows Same ↔ SomeHasOneOrNot m x u true found
  pub different : Has rows Different ↔ SomeHasOneOrNot m x u false found
  pub others : (locals : List Local) → ¬ Has rows (Locals locals)
