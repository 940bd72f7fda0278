-- the cells before this one
use Rattle.kasa_polymers.specs.inner.Gather.{AddsSeen, Below, IsBondOf, IsStateOf}
use Rattle.kasa_polymers.proofs.gather.see_complex.Given as goal

abbrev pub invariant-loop-cell : goal.invariant-loop-cell
invariant-loop-cell l = record { added : AddsSeen (Below (IsBondOf l.complex) l.cell) (Below (IsStateOf l.complex) l.cell) l.initial.seen l.seen }
