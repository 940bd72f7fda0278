use Rattle.std.proofs.Common.{refl, arith}
use Rattle.std.proofs.lemmas.Option.{slice_get_read}
use Rattle.kasa_polymers.proofs.MapLemmas.{at_true, at_false}
use Rattle.kasa_report.proofs.DeadLemmas.{counted_skip, counted_more, counted_all}
use Rattle.kasa_report.proofs.sample.count_dead.Goals as goal
use Rattle.kasa_report.proofs.sample.count_dead.Goals.{then-is_dead, else-is_dead}

pub is_dead-requires-clause-over : goal.is_dead-requires-clause-over
is_dead-requires-clause-over g c = c.requires.over c.index-rules-k.result (c.loop-k.k, slice_get_read c.args.rules.now _ c.loop-k.k c.index-rules-k.result refl c.loop-k-test.true c.index-rules-k.is)

pub loop-k-preserved : goal.loop-k-preserved
loop-k-preserved g c =
    let rules = c.args.rules.now in
    let r = c.index-rules-k.result in
    let at = slice_get_read rules _ c.loop-k.k r refl c.loop-k-test.true c.index-rules-k.is in
    let few = c.loop-k.invariant.few in
    elim c.if-is_dead.branch [
      | then-is_dead w ↦ rw w.count-is (record {
        counted = counted_more c.args.sig.now (g.R.Rows.tables c.args.rows.now) rules c.loop-k.k r at c.loop-k.count c.loop-k.invariant.counted (at_true c.is_dead.result _ c.is_dead.ensures.dead w.if-is_dead.true);
        few = omega arith;
      })
      | else-is_dead w ↦ rw w.count-is (record {
        counted = counted_skip c.args.sig.now (g.R.Rows.tables c.args.rows.now) rules c.loop-k.k r at c.loop-k.count c.loop-k.invariant.counted (λ dead. dead (at_false c.is_dead.result _ c.is_dead.ensures.alive w.if-is_dead.false));
        few = omega arith;
      })
    ]

pub returns : goal.returns
returns g c = counted_all c.args.sig.now (g.R.Rows.tables c.args.rows.now) c.args.rules.now c.loop-k.k c.loop-k.count (omega arith) c.loop-k.invariant.counted
