-- the sites before this one
use Rattle.kasa_polymers.specs.inner.Gather.{AddsSeen, Below, IsBondAt, IsStateAt}
use Rattle.kasa_polymers.proofs.gather.see_agent.Given as goal

abbrev pub invariant-loop-number : goal.invariant-loop-number
invariant-loop-number l = record { added : AddsSeen (Below (IsBondAt l.complex l.cell) l.number) (Below (IsStateAt l.complex l.cell) l.number) l.initial.seen l.seen }
