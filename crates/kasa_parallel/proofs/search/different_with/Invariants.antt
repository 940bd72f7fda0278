use Rattle.std.proofs.Common.{[], ◌∷◌}
use Rattle.kasa_columns.specs.Forward.{YieldsAt}
use Rattle.kasa_parallel.proofs.StandLists.{NoneOfFirst}
use Rattle.kasa_parallel.proofs.search.different_with.Given as goal

abbrev pub invariant-loop-third : goal.invariant-loop-third
invariant-loop-third g l = NoneOfFirst (λ third. YieldsAt l.search.sig l.search.tables l.search.rule l.v (l.first ∷ l.second ∷ third ∷ []) []) l.thirds l.third-index
