use Rattle.std.proofs.Common.{[], ◌∷◌}
use Rattle.kasa_graph.specs.Lists.{Has}
use Rattle.kasa_pre.specs.declared.Stand.{Stand}
use Rattle.kasa_columns.specs.Forward.{YieldsAt}
use Rattle.kasa_parallel.proofs.StandLists.{NoneOfFirst}
use Rattle.kasa_parallel.proofs.search.different_from.Given as goal

abbrev pub invariant-loop-second : goal.invariant-loop-second
invariant-loop-second g l = NoneOfFirst (λ second. (third : Stand) × Has l.thirds.items third × YieldsAt l.search.sig l.search.tables l.search.rule l.v (l.first ∷ second ∷ third ∷ []) []) l.second-items l.second-index
