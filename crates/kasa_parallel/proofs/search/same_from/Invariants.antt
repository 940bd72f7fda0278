use Rattle.std.proofs.Common.{[], ◌∷◌}
use Rattle.kasa_columns.specs.Forward.{YieldsAt}
use Rattle.kasa_parallel.specs.Partners.{IsPartner}
use Rattle.kasa_parallel.proofs.StandLists.{NoneOfFirst}
use Rattle.kasa_parallel.proofs.search.same_from.Given as goal

abbrev pub invariant-loop-second : goal.invariant-loop-second
invariant-loop-second g l = NoneOfFirst (λ second. IsPartner l.search.rule l.first l.search.u l.search.b l.search.w second × YieldsAt l.search.sig l.search.tables l.search.rule l.v (l.first ∷ second ∷ []) []) l.second-items l.second-index
