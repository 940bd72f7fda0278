use Rattle.kasa_parallel.specs.Partners.{YieldsWith}
use Rattle.kasa_parallel.proofs.StandLists.{NoneOfFirst}
use Rattle.kasa_parallel.proofs.search.from_any.Given as goal

abbrev pub invariant-loop-first : goal.invariant-loop-first
invariant-loop-first g l = NoneOfFirst (λ first. YieldsWith l.search.sig l.search.tables l.search.rule l.v first) l.firsts l.first-index
