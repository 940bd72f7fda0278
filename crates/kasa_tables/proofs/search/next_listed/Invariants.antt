use Rattle.kasa_families.specs.First.{IsLeastFrom}
use Rattle.kasa_families.specs.Spot.{place_of}
use Rattle.kasa_tables.proofs.SearchLemmas.{ListedBefore}
use Rattle.kasa_tables.proofs.search.next_listed.Given as goal

abbrev pub invariant-loop-i : goal.invariant-loop-i
invariant-loop-i l = IsLeastFrom (ListedBefore l.column l.g l.family (place_of l.g l.family l.spot) l.c l.i) l.from l.next
