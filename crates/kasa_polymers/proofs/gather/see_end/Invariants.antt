-- the sites before this one
use Rattle.kasa_polymers.specs.inner.Gather.{AddsSeen, Below, IsBondAtEnd, IsStateAtEnd}
use Rattle.kasa_polymers.proofs.gather.see_end.Given as goal

abbrev pub invariant-loop-number : goal.invariant-loop-number
invariant-loop-number l = record { added : AddsSeen (Below (IsBondAtEnd l.rule l.end) l.number) (Below (IsStateAtEnd l.rule l.end) l.number) l.initial.seen l.seen }
