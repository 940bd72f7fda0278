use Rattle.std.proofs.Common.{arith}
use Rattle.kasa_tabfile.proofs.WrittenLemmas.{written_none, written_more, written_all}
use Rattle.kasa_tabfile.proofs.write.write_each.Goals as goal

pub loop-f-init : goal.loop-f-init
loop-f-init g c = written_none _

pub loop-f-preserved : goal.loop-f-preserved
loop-f-preserved g c = written_more _ _ _ _ _ c.loop-f.invariant c.in_ok-write_table.ensures

pub returns : goal.returns
returns g c = let count = c.families-f-end.ensures.count in written_all (g.R.Rows.tables c.args.rows.now) c.loop-f.f c.args.out.now.items _ (omega arith) c.loop-f.invariant
