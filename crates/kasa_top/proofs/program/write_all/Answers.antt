use Rattle.std.proofs.Common.{arith}
use Rattle.kasa_top.proofs.Written.{written_more}
use Rattle.kasa_top.proofs.program.write_all.Goals as goal

pub loop-at-preserved : goal.loop-at-preserved
loop-at-preserved g c = record {
  written = written_more _ _ _ c.args.text.now c.loop-at.at c.in_ok-n.n c.loop-at.invariant.written c.in_ok-n.ensures.taken;
  within = c.in_ok-n.ensures.within;
  later = omega arith;
}
