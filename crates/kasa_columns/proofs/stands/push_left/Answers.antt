use Rattle.std.proofs.Common.{refl, ap, length, arith}
use Rattle.kasa_pre.specs.declared.Stand.TheVariants.{Left}
use Rattle.kasa_columns.specs.Stands.{IsLeftOf}
use Rattle.kasa_columns.proofs.Pushing.{adds_one, adds_none, upto_none, upto_next, upto_all}
use Rattle.kasa_columns.proofs.StandLemmas.{left_within}
use Rattle.kasa_columns.proofs.stands.push_left.Goals.{then-is_kept+in_ok-push, else-is_kept}
use Rattle.kasa_columns.proofs.stands.push_left.Goals as goal

pub loop-n-init : goal.loop-n-init
loop-n-init c = upto_none (IsLeftOf c.args.rule.now c.args.agent) _

pub loop-n-preserved : goal.loop-n-preserved
loop-n-preserved c = elim c.if-is_kept.branch [
  | then-is_kept+in_ok-push w ↦
      rw (w.found-is, w.in_ok-push.ensures.items)
      (upto_next (IsLeftOf c.args.rule.now c.args.agent) _ c.loop-n.n c.loop-n.found.items c.loop-n.invariant _ (adds_one (IsLeftOf c.args.rule.now c.args.agent) c.loop-n.found.items c.loop-n.n (Left c.loop-n.n) (refl, c.is_kept.ensures.0 w.if-is_kept.true) (λ stand q. q.0)))
  | else-is_kept w ↦
      rw w.found-is
      (upto_next (IsLeftOf c.args.rule.now c.args.agent) _ c.loop-n.n c.loop-n.found.items c.loop-n.invariant _ (adds_none (IsLeftOf c.args.rule.now c.args.agent) c.loop-n.found.items c.loop-n.n (λ stand q. let kept = c.is_kept.ensures.1 q.1 in let isnt = w.if-is_kept.false in absurd cc)))
]

pub returns : goal.returns
returns c =
    upto_all (IsLeftOf c.args.rule.now c.args.agent) _ c.loop-n.n c.loop-n.found.items
    (λ k stand q. let within = left_within c.args.rule.now k c.args.agent q.1 in let end = ap length c.left.ensures.pattern in let count = c.nodes-n-end.ensures.count in let past = c.loop-n-test.false in omega arith)
    c.loop-n.invariant
