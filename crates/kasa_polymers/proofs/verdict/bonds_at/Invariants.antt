use Rattle.std.proofs.Common.{take}
use Rattle.kasa_polymers.specs.inner.Steps.{AreAt}
use Rattle.kasa_polymers.proofs.verdict.bonds_at.Given as goal

abbrev pub invariant-loop-number : goal.invariant-loop-number
invariant-loop-number l = record { at : AreAt l.points (take l.number-index l.numbers) l.bonds.items }
