-- Species: the cells that are connected by partners.
use Rattle.std.specs.Prelude.{◌≡◌, ℕ, ◌≤◌, List, length, Option, Some}
use Rattle.kasa_graph.specs.declared.mixture.Agent.{Agent}
use Rattle.kasa_graph.specs.Lists.{Has, AllDifferent}
use Rattle.kasa_graph.specs.Mixture.{type_in, partner_in}

-- partners lead from one cell to another
pub data Connected (m : List (Option Agent)) (c : ℕ) : ℕ → Type 0 where
  here : Connected m c c
  next : {d : ℕ} (s e t : ℕ) → Connected m c d → partner_in m d s ≡ Some (e, t) → Connected m c e

-- no list of different cells of one species is longer than n
abbrev pub AllSpeciesWithin : List (Option Agent) → ℕ → Type 0
AllSpeciesWithin m n = (c a : ℕ) → type_in m c ≡ Some a → (cells : List ℕ) → AllDifferent cells → ((d : ℕ) → Has cells d → Connected m c d) → length cells ≤ n
