use Rattle.std.proofs.Common.{ap, ◌∙◌}
use Rattle.kasa_rules.specs.declared.model.Model.{Model}
use Rattle.kasa_report.proofs.ReportLemmas.{check_is}
use Rattle.kasa_report.proofs.check.check_report.Goals as goal

pub write_dead-requires-clause-over : goal.write_dead-requires-clause-over
write_dead-requires-clause-over g c = λ r has. c.model.invariant.0.rules has.0 r (rw c.as_slice.ensures at has.1)

pub returns : goal.returns
returns g c =
    check_is c.args.model.now (g.R.Rows.tables c.args.rows.now) c.model.inside.sig c.as_slice.result.now (ap (λ (m : Model). m.sig) c.model.view_is) (c.as_slice.ensures ∙ ap (λ (m : Model). m.rules) c.model.view_is)
    c.new-out.result.items c.write_line.new.out.items c.write_lemmas.new.out.items _ c.new-out.ensures.items c.in_ok-write_line.ensures c.in_ok-write_lemmas.ensures c.in_ok-write_dead.ensures
