use Rattle.std.proofs.Common.{arith, below_more, inr}
use Rattle.kasa_influence.specs.inner.Stops.{TakesAt}
use Rattle.kasa_influence.proofs.OneLemmas.{HasNodeSite-below, below_tested}
use Rattle.kasa_influence.proofs.stops.takes.Goals as goal

pub takes_at-requires-clause-exists : goal.takes_at-requires-clause-exists
takes_at-requires-clause-exists g c = HasNodeSite-below c.args.ask.now.sig c.args.v.now c.requires.one c.agent.result c.loop-site.site c.agent.ensures (rw (← c.ask.view_is) (let count = c.sites-site-end.ensures.counts in omega arith))

pub loop-site-preserved : goal.loop-site-preserved
loop-site-preserved g c =
    below_more (λ s. ¬ TakesAt c.args.ask.now c.args.v.now c.args.g.now c.args.place s) c.loop-site.site c.loop-site.invariant (λ takes. let yes = c.in_ok-takes_at.ensures.1 takes in let no = c.if-branch.false in absurd cc)

pub returns : goal.returns
returns g c = (
  λ yes. absurd cc,
  λ takes.
      let within = below_tested c.args.ask.now.sig c.args.v.now c.requires.one c.agent.result takes.0 c.agent.ensures (inr (λ any. rw any at takes.1.0)) in
      absurd (c.loop-site.invariant takes.0 (let past = c.loop-site-test.false in let count = c.sites-site-end.ensures.counts in let h = rw (← c.ask.view_is) at within in omega arith) takes.1),
)
