use Rattle.std.proofs.Common.{refl}
use Rattle.kasa_compile.specs.declared.said.Pair.{Pair}
use Rattle.kasa_compile.specs.Causes.{mismatch, mismatches}
use Rattle.kasa_compile.proofs.PairLemmas.{none_more, first_here}
use Rattle.kasa_compile.proofs.rights.mismatch.Goals as goal

pub loop-pair-init : goal.loop-pair-init
unfolding mismatches
loop-pair-init c = refl

pub loop-pair-preserved : goal.loop-pair-preserved
unfolding mismatches
loop-pair-preserved c = none_more (λ (p : Pair). mismatch p.left p.right) c.args.pairs.now c.loop-pair.pair-index c.pair-item.result c.pair-item.result c.loop-pair.invariant c.loop-pair-test.true c.pair-item.is c.in_default.ensures

pub returns-in-Some : goal.returns-in-Some
unfolding mismatches
returns-in-Some c = first_here (λ (p : Pair). mismatch p.left p.right) c.args.pairs.now c.loop-pair.pair-index c.pair-item.result c.pair-item.result c.in-Some.at c.loop-pair.invariant c.loop-pair-test.true c.pair-item.is c.in-Some.ensures
