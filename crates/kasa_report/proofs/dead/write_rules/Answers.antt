use Rattle.std.proofs.Common.{refl, arith}
use Rattle.std.proofs.lemmas.Option.{slice_get_read}
use Rattle.kasa_polymers.proofs.MapLemmas.{at_true, at_false}
use Rattle.kasa_report.proofs.DeadLemmas.{dead_none, dead_skip, dead_more, dead_all}
use Rattle.kasa_report.proofs.dead.write_rules.Goals as goal
use Rattle.kasa_report.proofs.dead.write_rules.Goals.{then-is_dead+in_ok-write_rule, else-is_dead}

pub loop-k-init : goal.loop-k-init
loop-k-init g c = dead_none _ _ _

pub is_dead-requires-clause-over : goal.is_dead-requires-clause-over
is_dead-requires-clause-over g c = c.requires.over c.index-rules-k.result (c.loop-k.k, slice_get_read c.args.rules.now _ c.loop-k.k c.index-rules-k.result refl c.loop-k-test.true c.index-rules-k.is)

pub loop-k-preserved : goal.loop-k-preserved
loop-k-preserved g c =
    let rules = c.args.rules.now in
    let r = c.index-rules-k.result in
    let at = slice_get_read rules _ c.loop-k.k r refl c.loop-k-test.true c.index-rules-k.is in
    elim c.if-is_dead.branch [
      | then-is_dead+in_ok-write_rule w ↦ rw w.out-is (dead_more c.args.sig.now (g.R.Rows.tables c.args.rows.now) rules c.loop-k.k r at c.args.out.now.items c.loop-k.out.items c.loop-k.invariant _ (at_true c.is_dead.result _ c.is_dead.ensures.dead w.if-is_dead.true) w.in_ok-write_rule.ensures)
      | else-is_dead w ↦ rw w.out-is (dead_skip c.args.sig.now (g.R.Rows.tables c.args.rows.now) rules c.loop-k.k r at c.args.out.now.items c.loop-k.out.items c.loop-k.invariant (λ dead. dead (at_false c.is_dead.result _ c.is_dead.ensures.alive w.if-is_dead.false)))
    ]

pub returns : goal.returns
returns g c = dead_all c.args.sig.now (g.R.Rows.tables c.args.rows.now) c.args.rules.now c.loop-k.k c.args.out.now.items _ (omega arith) c.loop-k.invariant
