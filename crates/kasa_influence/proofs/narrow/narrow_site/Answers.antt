use Rattle.std.proofs.Common.{◌∙◌}
use Rattle.kasa_graph.specs.Pattern.{state_test, link_test, StateImplies, LinkImplies}
use Rattle.kasa_graph.proofs.TestLemmas.{agent_at-same}
use Rattle.kasa_pre.specs.Narrow.{IsNarrowed}
use Rattle.kasa_pre.proofs.NarrowLemmas.{Narrows-both}
use Rattle.kasa_influence.proofs.OneLemmas.{HasNodeSite-moved}
use Rattle.kasa_influence.proofs.narrow.narrow_site.Goals as goal

pub narrow-requires-clause-exists : goal.narrow-requires-clause-exists
narrow-requires-clause-exists c = HasNodeSite-moved c.args.sig.now c.args.v.now c.requires.one c.args.g.now c.args.place c.requires.over c.requires.typed c.args.site c.requires.exists

pub narrow-requires-2-clause-exists : goal.narrow-requires-2-clause-exists
narrow-requires-2-clause-exists c =
    let first : IsNarrowed c.args.sig.now c.args.g.now _ c.narrow.new.g = rw c.if-not-narrow.false at c.narrow.ensures in
    HasNodeSite-moved c.args.sig.now c.args.v.now c.requires.one c.narrow.new.g c.args.place first.valid (agent_at-same c.args.g.now c.narrow.new.g first.implies.types c.args.place ∙ c.requires.typed) c.args.site c.requires.exists

pub returns-then-not-narrow : goal.returns-then-not-narrow
returns-then-not-narrow c = λ h valid implied asks. (rw (c.if-not-narrow.true, c.state.ensures) at c.narrow.ensures) h valid implied asks.0

pub returns : goal.returns
returns c = Narrows-both c.args.sig.now c.args.g.now
    (λ h. StateImplies (state_test h c.args.place c.args.site) (state_test c.args.v.now 0 c.args.site))
    (λ h. LinkImplies h (link_test h c.args.place c.args.site) (link_test c.args.v.now 0 c.args.site))
    c.narrow.new.g c.narrow-2.new.g c.narrow-2.result (rw (c.if-not-narrow.false, c.state.ensures) at c.narrow.ensures) (rw c.link.ensures at c.narrow-2.ensures)
