use Rattle.std.proofs.Common.{arith}
use Rattle.kasa_influence.proofs.MakesLemmas.{StandExists-fits, StandsExist-one, one_outside, follows-none, follows-some}
use Rattle.kasa_influence.proofs.makes.can_follow.Goals as goal

pub pre-requires-clause-exist : goal.pre-requires-clause-exist
pre-requires-clause-exist g c =
    rw (← c.ask.view_is) at (StandsExist-one c.args.ask.now.rule c.args.stand.now (StandExists-fits c.args.ask.now.sig c.args.ask.now.rule c.args.v.now c.requires.one c.args.stand.now c.requires.fits))

pub pre-requires-clause-few : goal.pre-requires-clause-few
pre-requires-clause-few g c = let few = c.ask.invariant.few in let outside = one_outside c.args.v.now c.args.stand.now c.requires.one.one in omega arith

pub returns-in-None : goal.returns-in-None
returns-in-None g c =
    follows-none c.args.ask.now c.args.v.now c.args.stand.now c.args.freed.now c.in_ok-pre.field-0 (rw (← c.ask.view_is) (c.in_ok-pre.ensures.allowed _)) c.in-None.is

pub returns-in-Some : goal.returns-in-Some
returns-in-Some g c =
    follows-some c.args.ask.now c.args.v.now c.args.stand.now c.args.freed.now c.in_ok-pre.field-0 (rw (← c.ask.view_is) (c.in_ok-pre.ensures.allowed _)) c.in-Some.g c.in-Some.is c.allowed.result (rw (← c.ask.view_is) c.allowed.ensures.allowed)
