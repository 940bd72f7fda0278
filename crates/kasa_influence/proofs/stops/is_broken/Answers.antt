use Rattle.std.proofs.Common.{◌≡◌, ap, sym, ◌∙◌, arith, below_more, refl, inl}
use Rattle.std.specs.Prelude.{Some}
use Rattle.kasa_graph.specs.Pattern.{agent_at}
use Rattle.kasa_graph.proofs.SiteLemmas.{HasNodeSite-over}
use Rattle.kasa_influence.specs.inner.Stops.{Aimed, BreaksAt}
use Rattle.kasa_influence.proofs.BrokenLemmas.{IsOne-target, site_alone, site_there, broken_at, not_broken, node_within}
use Rattle.kasa_influence.proofs.OneLemmas.{the_type}
use Rattle.kasa_influence.proofs.stops.is_broken.Goals as goal

pub is_deleted-requires : goal.is_deleted-requires
is_deleted-requires g c =
    let a = the_type c.args.ask.now.sig c.args.target.now.alone (IsOne-target c.args.ask.now.sig c.args.target.now c.requires.target) in
    let typed : agent_at c.args.ask.now.rule.left c.args.n ≡ Some a.0 = c.requires.typed ∙ a.1 in
    rw (← c.ask.view_is) at (node_within c.args.ask.now.sig c.args.ask.now.rule.left c.args.n a.0 typed)

pub returns-then-is_deleted : goal.returns-then-is_deleted
returns-then-is_deleted g c = rw (← c.ask.view_is) (λ yes. inl (c.is_deleted.ensures.0 c.if-is_deleted.true), λ broken. refl)

pub breaks-requires-clause-here : goal.breaks-requires-clause-here
breaks-requires-clause-here g c =
    let typed : agent_at c.args.ask.now.rule.left c.args.n ≡ Some c.agent.result = c.requires.typed ∙ ap (λ (t : Aimed). agent_at t.alone 0) (sym c.target.view_is) ∙ c.agent.ensures in
    HasNodeSite-over c.ask.inside.sig.now c.ask.inside.rule.now.left c.ask.invariant.over.left c.args.n c.agent.result c.loop-site.site (rw (← c.ask.view_is) at typed) (let count = c.sites-site-end.ensures.counts in omega arith)

pub breaks-requires-clause-there : goal.breaks-requires-clause-there
breaks-requires-clause-there g c =
    site_there c.ask.inside.sig.now c.args.target.now (rw (← c.ask.view_is) at c.requires.target) c.agent.result c.loop-site.site (ap (λ (t : Aimed). agent_at t.alone 0) (sym c.target.view_is) ∙ c.agent.ensures) (let count = c.sites-site-end.ensures.counts in omega arith)

pub breaks-requires-clause-alone : goal.breaks-requires-clause-alone
breaks-requires-clause-alone g c =
    site_alone c.ask.inside.sig.now c.args.target.now (rw (← c.ask.view_is) at c.requires.target) c.agent.result c.loop-site.site (ap (λ (t : Aimed). agent_at t.alone 0) (sym c.target.view_is) ∙ c.agent.ensures) (let count = c.sites-site-end.ensures.counts in omega arith)

pub breaks-requires-clause-unnamed : goal.breaks-requires-clause-unnamed
breaks-requires-clause-unnamed g c = (IsOne-target c.args.ask.now.sig c.args.target.now c.requires.target).unnamed c.loop-site.site

pub returns-then-breaks : goal.returns-then-breaks
returns-then-breaks g c =
    let found : BreaksAt c.args.ask.now.rule c.args.target.now c.args.n c.loop-site.site = rw (← c.ask.view_is) (c.breaks.ensures.0 c.if-breaks.true) in
    (λ yes. broken_at c.args.ask.now.sig c.args.target.now c.requires.target c.args.ask.now.rule c.args.n c.loop-site.site found, λ broken. refl)

pub loop-site-preserved : goal.loop-site-preserved
loop-site-preserved g c =
    below_more (λ s. ¬ BreaksAt c.args.ask.now.rule c.args.target.now c.args.n s) c.loop-site.site c.loop-site.invariant (rw (← c.ask.view_is) (λ breaks. let yes = c.breaks.ensures.1 breaks in let no = c.if-breaks.false in absurd cc))

pub returns : goal.returns
returns g c = (
  λ yes. absurd cc,
  λ broken. absurd (not_broken c.args.ask.now.sig c.args.target.now c.requires.target c.args.ask.now.rule c.args.n c.agent.result c.loop-site.site (ap (λ (t : Aimed). agent_at t.alone 0) (sym c.target.view_is) ∙ c.agent.ensures)
      (rw (← c.ask.view_is) (let count = c.sites-site-end.ensures.counts in omega arith))
      (rw (← c.ask.view_is) (λ deleted. let yes = c.is_deleted.ensures.1 deleted in let no = c.if-is_deleted.false in absurd cc))
      c.loop-site.invariant broken),
)
