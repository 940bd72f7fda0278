use Rattle.std.proofs.Common.{refl, arith}
use Rattle.kasa_pre.specs.declared.Stand.TheVariants.{Made}
use Rattle.kasa_columns.specs.Stands.{IsMadeOf}
use Rattle.kasa_columns.proofs.Pushing.{adds_one, adds_none, upto_none, upto_next, upto_all}
use Rattle.kasa_columns.proofs.StandLemmas.{made_within}
use Rattle.kasa_columns.proofs.stands.push_made.Goals.{then-is_of+in_ok-push, else-is_of}
use Rattle.kasa_columns.proofs.stands.push_made.Goals as goal

pub loop-k-init : goal.loop-k-init
loop-k-init c = upto_none (IsMadeOf c.args.rule.now c.args.agent) _

pub loop-k-preserved : goal.loop-k-preserved
loop-k-preserved c = elim c.if-is_of.branch [
  | then-is_of+in_ok-push w ↦
      rw (w.found-is, w.in_ok-push.ensures.items)
      (upto_next (IsMadeOf c.args.rule.now c.args.agent) _ c.loop-k.k c.loop-k.found.items c.loop-k.invariant _ (adds_one (IsMadeOf c.args.rule.now c.args.agent) c.loop-k.found.items c.loop-k.k (Made c.loop-k.k) (refl, c.is_of.ensures.0 w.if-is_of.true) (λ stand q. q.0)))
  | else-is_of w ↦
      rw w.found-is
      (upto_next (IsMadeOf c.args.rule.now c.args.agent) _ c.loop-k.k c.loop-k.found.items c.loop-k.invariant _ (adds_none (IsMadeOf c.args.rule.now c.args.agent) c.loop-k.found.items c.loop-k.k (λ stand q. let made = c.is_of.ensures.1 q.1 in let isnt = w.if-is_of.false in absurd cc)))
]

pub returns : goal.returns
returns c =
    upto_all (IsMadeOf c.args.rule.now c.args.agent) _ c.loop-k.k c.loop-k.found.items
    (λ k stand q. let within = made_within c.args.rule.now k c.args.agent q.1 in let count = c.made-k-end.ensures.count in let past = c.loop-k-test.false in omega arith)
    c.loop-k.invariant
