use Rattle.std.proofs.Common.{length, ap, sym, ◌∙◌}
use Rattle.kasa_rules.specs.declared.model.Model.{Model}
use Rattle.kasa_report.specs.Section.{line}
use Rattle.kasa_report.proofs.CountLemmas.{behind, sample_is}
use Rattle.kasa_report.proofs.sample.sample_report.Goals as goal

pub count_dead-dead-requires-clause-over : goal.count_dead-dead-requires-clause-over
count_dead-dead-requires-clause-over g c = λ r has. c.model.invariant.0.rules has.0 r (rw c.as_slice-2.ensures at has.1)

pub returns : goal.returns
unfolding line
returns g c =
    sample_is c.args.size c.args.model.now (g.R.Rows.tables c.args.rows.now) c.model.inside.sig c.as_slice-2.result.now (ap (λ (m : Model). m.sig) c.model.view_is) (c.as_slice-2.ensures ∙ ap (λ (m : Model). m.rules) c.model.view_is)
    c.in_ok-verdict.verdict c.in_ok-verdict.ensures.verdict c.types.result (length c.as_slice.result.now) c.families.result c.count_rows.result c.count_dead-dead.result c.types.ensures.count
    (ap length (c.as_slice.ensures ∙ sym c.as_slice-2.ensures)) c.families.ensures.count c.count_rows.ensures c.count_dead-dead.ensures
    _ _ _ _ _ _ _ _ c.new-out.ensures.items c.in_ok-write_count.ensures c.in_ok-write_count-2.ensures c.in_ok-write_count-3.ensures c.in_ok-write_count-4.ensures c.in_ok-write_count-5.ensures c.in_ok-write_count-6.ensures
    (behind _ _ _ _ _ _ _ c.in_ok-extend_from_slice.ensures.items c.in_ok-write_verdict.ensures c.in_ok-push.ensures.items)
