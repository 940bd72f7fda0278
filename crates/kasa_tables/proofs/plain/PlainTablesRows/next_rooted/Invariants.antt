use Rattle.std.proofs.Common.{ℕ, ◌<◌, ◌≤◌}
use Rattle.kasa_families.specs.First.{IsRooted}
use Rattle.kasa_tables.proofs.plain.PlainTablesRows.next_rooted.Given as goal

abbrev pub invariant-loop-k : goal.invariant-loop-k
invariant-loop-k l = (j : ℕ) → l.from ≤ j → j < l.k → ¬ IsRooted l.self l.agent j
