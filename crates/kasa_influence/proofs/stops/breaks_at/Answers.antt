use Rattle.std.proofs.lemmas.Result.{IfOk-weaker}
use Rattle.kasa_influence.proofs.BrokenLemmas.{IsOne-target}
use Rattle.kasa_influence.proofs.stops.breaks_at.Goals as goal

pub can_stand-requires-clause-one : goal.can_stand-requires-clause-one
can_stand-requires-clause-one g c = rw (← c.target.view_is) at (IsOne-target c.args.ask.now.sig c.args.target.now c.requires.target)

pub returns-then-not-is_broken : goal.returns-then-not-is_broken
returns-then-not-is_broken g c = (λ yes. absurd cc, λ broken. absurd (let yes = c.is_broken.ensures.1 broken.0 in let no = c.if-not-is_broken.true in cc))

pub returns : goal.returns
returns g c =
    rw (← c.target.view_is)
    (IfOk-weaker c.can_stand.result _ _ (λ b tells. (λ yes. (rw (← c.target.view_is) at (c.is_broken.ensures.0 c.if-not-is_broken.false), tells.0 yes), λ both. tells.1 both.1)) c.can_stand.ensures)
