use Rattle.std.proofs.Common.{ap, length, arith}
use Rattle.kasa_columns.proofs.StandSites.{one_partner, no_partner, all_partners}
use Rattle.kasa_columns.proofs.fired.touched_partners.Goals.{then-is_touched_partner+in_ok-push, else-is_touched_partner}
use Rattle.kasa_columns.proofs.fired.touched_partners.Goals as goal

pub loop-n-preserved : goal.loop-n-preserved
loop-n-preserved c = elim c.if-is_touched_partner.branch [
  | then-is_touched_partner+in_ok-push w ↦
      rw (w.found-is, w.in_ok-push.ensures.items)
      (one_partner c.args.rule.now c.args.column c.args.agent c.args.«at» c.loop-n.found.items c.loop-n.n c.loop-n.invariant (c.is_touched_partner.ensures.0 w.if-is_touched_partner.true))
  | else-is_touched_partner w ↦
      rw w.found-is
      (no_partner c.args.rule.now c.args.column c.args.agent c.args.«at» c.loop-n.found.items c.loop-n.n c.loop-n.invariant (λ touch. let yes = c.is_touched_partner.ensures.1 touch in let no = w.if-is_touched_partner.false in absurd cc))
]

pub returns : goal.returns
returns c = all_partners c.args.rule.now c.args.column c.args.agent c.args.«at» c.loop-n.found.items c.loop-n.n c.loop-n.invariant (omega (arith, ap length c.left.ensures.pattern))
