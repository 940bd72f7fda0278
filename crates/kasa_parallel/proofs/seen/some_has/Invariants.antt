use Rattle.kasa_families.specs.Shape.{Nth}
use Rattle.kasa_parallel.specs.Parallel.{HasOneOrNot}
use Rattle.kasa_parallel.proofs.StandLists.{NoneOfFirst}
use Rattle.kasa_parallel.proofs.seen.some_has.Given as goal

abbrev pub invariant-loop-cells : goal.invariant-loop-cells
invariant-loop-cells l = NoneOfFirst (λ cells. Nth cells 0 (HasOneOrNot l.init l.x l.u l.one)) l.found l.cells-index
