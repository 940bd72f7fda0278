use Rattle.std.proofs.Common.{ℕ, ◌<◌, ◌≤◌}
use Rattle.kasa_families.specs.Spot.{place_of}
use Rattle.kasa_tables.proofs.SearchLemmas.{SomeHere}
use Rattle.kasa_tables.proofs.search.next_agreeing.Given as goal

abbrev pub invariant-loop-i : goal.invariant-loop-i
invariant-loop-i l = (j : ℕ) → l.from ≤ j → j < l.i → ¬ SomeHere l.column l.g l.family (place_of l.g l.family l.spot) l.c j
