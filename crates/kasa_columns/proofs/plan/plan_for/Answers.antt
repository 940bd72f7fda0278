use Rattle.kasa_columns.proofs.PlanLemmas.{leaves_if}
use Rattle.kasa_columns.proofs.plan.plan_for.Goals as goal

pub returns : goal.returns
returns c = record {
  asked = c.in_ok-asked.ensures;
  effects = c.in_ok-effects.ensures;
  idle = leaves_if c.args.rule.now c.args.stands.now c.args.columns.now c.in_ok-effects.effects.items c.are_none-is_idle.result c.in_ok-effects.ensures (rw c.as_slice.ensures.value at c.are_none-is_idle.ensures);
}
