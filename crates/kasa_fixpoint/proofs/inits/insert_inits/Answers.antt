use Rattle.std.proofs.Common.{◌<◌, ◌∙◌, ap, refl, arith, length}
use Rattle.std.proofs.lemmas.Option.{slice_get_read, slice_get_within}
use Rattle.kasa_rules.specs.declared.model.Model.{Model}
use Rattle.kasa_fixpoint.proofs.StepLemmas.{IsStep-then}
use Rattle.kasa_fixpoint.proofs.LoopLemmas.{covers_next}
use Rattle.kasa_fixpoint.proofs.inits.insert_inits.Goals as goal

pub loop-init-preserved : goal.loop-init-preserved
loop-init-preserved c =
    let items = c.as_slice-init-items.ensures ∙ ap (λ (m : Model). m.inits) c.model.view_is in
    let at = rw items at (slice_get_read c.as_slice-init-items.result.now _ c.loop-init.init-index c.init-item.result refl c.loop-init-test.true c.init-item.is) in
    record {
      step = IsStep-then c.args.model.now c.args.tables.now c.loop-init.tables c.insert_init.new.tables c.loop-init.invariant.step c.in_ok-insert_init.ensures.step;
      initial = covers_next c.args.model.now c.loop-init.tables c.insert_init.new.tables c.in_ok-insert_init.ensures.step c.args.model.now.inits c.loop-init.init-index c.init-item.result at c.loop-init.invariant.initial c.in_ok-insert_init.ensures.initial;
    }

pub returns-clause-initial : goal.returns-clause-initial
returns-clause-initial c m has =
    let items = c.as_slice-init-items.ensures ∙ ap (λ (m : Model). m.inits) c.model.view_is in
    let within = slice_get_within c.args.model.now.inits has.0 m has.1 in
    let count = ap length items in
    let all : has.0 < c.loop-init.init-index = omega arith in
    c.loop-init.invariant.initial has.0 all m has.1
