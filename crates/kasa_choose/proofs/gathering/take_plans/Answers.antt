use Rattle.std.proofs.Common.{arith, [], ◌∙◌, sym, ap}
use Rattle.std.proofs.lemmas.Grind.{common_steps}
use Rattle.kasa_choose.specs.Kind.{is_left_out}
use Rattle.kasa_choose.specs.Gathered.{joined_plans}
use Rattle.kasa_choose.proofs.PlanLemmas.{empty_list}
use Rattle.kasa_choose.proofs.Firsts.{leads_box, leads_end, too_many_boxes}
use Rattle.kasa_choose.proofs.gathering.take_plans.Goals as goal

pub returns-in_err-families-clause-many : goal.returns-in_err-families-clause-many
returns-in_err-families-clause-many g c e =
    too_many_boxes c.args.model.now
    (λ b. (goal.Chooser-dyn g (b.vtable, b.value)).kind b.value) (λ b. (goal.Chooser-dyn g (b.vtable, b.value)).plan b.value)
    c.args.without.now [] c.args.choosers.items c.loop-choosers.choosers.items c.remove-chooser.result c.remove-chooser.new.self.items c.loop-choosers.families (grind (arith, common_steps))
    c.remove-chooser.ensures.value c.remove-chooser.ensures.items c.loop-choosers.invariant.leads
    (ap (is_left_out c.args.without.now) (sym c.kind_of.ensures) ∙ sym c.is_left_out.ensures ∙ c.if-not-is_left_out.true)
    (c.in_err-families.ensures.many (grind (arith, common_steps)))

pub loop-choosers-preserved-then-not-is_left_out : goal.loop-choosers-preserved-then-not-is_left_out
loop-choosers-preserved-then-not-is_left_out g c = record {
  leads = leads_box c.args.model.now
      (λ b. (goal.Chooser-dyn g (b.vtable, b.value)).kind b.value) (λ b. (goal.Chooser-dyn g (b.vtable, b.value)).plan b.value)
      c.args.without.now [] c.args.choosers.items c.loop-choosers.choosers.items c.remove-chooser.result c.remove-chooser.new.self.items c.loop-choosers.families c.in_ok-families.families (grind (arith, common_steps))
      c.remove-chooser.ensures.value c.remove-chooser.ensures.items c.loop-choosers.invariant.leads
      (ap (is_left_out c.args.without.now) (sym c.kind_of.ensures) ∙ sym c.is_left_out.ensures ∙ c.if-not-is_left_out.true)
      c.in_ok-families.ensures.first;
  few = c.in_ok-families.ensures.few;
}

pub returns-clause-gathered : goal.returns-clause-gathered
returns-clause-gathered g c =
    leads_end c.args.model.now [] _ c.loop-choosers.families _ c.loop-choosers.invariant.leads
    (ap (λ boxes. joined_plans (λ b. (goal.Chooser-dyn g (b.vtable, b.value)).kind b.value) (λ b. (goal.Chooser-dyn g (b.vtable, b.value)).plan b.value) c.args.without.now c.args.model.now boxes)
    (empty_list c.loop-choosers.choosers.items (grind (arith, common_steps))))
