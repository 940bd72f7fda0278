use Rattle.std.proofs.Common.{◌≡◌, ◌<◌, length, refl, ap, ◌∙◌, arith}
use Rattle.std.specs.Prelude.{true, false, Some, slice_get}
use Rattle.std.proofs.lemmas.Option.{slice_get_read}
use Rattle.kasa_graph.specs.Signature.{HasSite}
use Rattle.kasa_graph.proofs.SiteLemmas.{HasNodeSite-over}
use Rattle.kasa_pre.specs.Asked.{NodeBefore}
use Rattle.kasa_pre.proofs.NarrowLemmas.{IsNarrowed-next, HasNone-next}
use Rattle.kasa_pre.proofs.AskedLoops.{NodeSiteBefore, sites-all, site-one}
use Rattle.kasa_pre.proofs.narrow.narrow_node.Goals as goal

pub narrow_site-requires-clause-exists : goal.narrow_site-requires-clause-exists
narrow_site-requires-clause-exists c =
    let has : HasSite c.args.asked.now.sig.now c.agent.result c.loop-site.site = let count = c.sites-site-end.ensures.counts in omega arith in
    HasNodeSite-over c.args.asked.now.sig.now c.args.asked.now.v.now c.requires.asked.over c.args.node c.agent.result c.loop-site.site c.agent.ensures has

pub returns-then-not-narrow_site : goal.returns-then-not-narrow_site
returns-then-not-narrow_site c =
    let within : c.args.node < length c.args.asked.now.stands.now = let count = c.requires.asked.stand.count in let below = c.requires.exists in omega arith in
    let at : slice_get c.args.asked.now.stands.now c.args.node ≡ Some c.index-asked-node.result = slice_get_read c.args.asked.now.stands.now _ c.args.node c.index-asked-node.result refl within (rw c.node.view_is at c.index-asked-node.is) in
    HasNone-next c.args.asked.now.sig.now c.args.g.now (NodeSiteBefore c.args.asked.now.rule.now c.args.asked.now.v.now c.args.asked.now.stands.now c.args.asked.now.freed.now c.args.node) (NodeBefore c.args.asked.now.rule.now c.args.asked.now.v.now c.args.asked.now.stands.now c.args.asked.now.freed.now c.args.node) c.loop-site.site c.loop-site.g c.loop-site.invariant
    (site-one c.args.asked.now.sig.now c.args.asked.now.rule.now c.args.asked.now.v.now c.args.asked.now.stands.now c.args.asked.now.places.now c.requires.asked c.args.asked.now.freed.now c.args.node c.loop-site.site _ false c.loop-site.g c.narrow_site.new.g (at ∙ ap Some c.index-asked-node.is) (rw c.if-not-narrow_site.true at c.narrow_site.ensures))
    (λ h implied all s stand is. all stand is s)

pub loop-site-preserved : goal.loop-site-preserved
loop-site-preserved c =
    let within : c.args.node < length c.args.asked.now.stands.now = let count = c.requires.asked.stand.count in let below = c.requires.exists in omega arith in
    let at : slice_get c.args.asked.now.stands.now c.args.node ≡ Some c.index-asked-node.result = slice_get_read c.args.asked.now.stands.now _ c.args.node c.index-asked-node.result refl within (rw c.node.view_is at c.index-asked-node.is) in
    IsNarrowed-next c.args.asked.now.sig.now c.args.g.now (NodeSiteBefore c.args.asked.now.rule.now c.args.asked.now.v.now c.args.asked.now.stands.now c.args.asked.now.freed.now c.args.node) c.loop-site.site c.loop-site.g c.narrow_site.new.g c.loop-site.invariant
    (site-one c.args.asked.now.sig.now c.args.asked.now.rule.now c.args.asked.now.v.now c.args.asked.now.stands.now c.args.asked.now.places.now c.requires.asked c.args.asked.now.freed.now c.args.node c.loop-site.site _ true c.loop-site.g c.narrow_site.new.g (at ∙ ap Some c.index-asked-node.is) (rw c.if-not-narrow_site.false at c.narrow_site.ensures))

pub returns : goal.returns
returns c = sites-all c.args.asked.now.sig.now c.args.asked.now.rule.now c.args.asked.now.v.now c.args.asked.now.stands.now c.args.asked.now.places.now c.requires.asked c.args.asked.now.freed.now c.args.node c.agent.result c.loop-site.site c.args.g.now c.loop-site.g c.agent.ensures (let count = c.sites-site-end.ensures.counts in omega arith) c.loop-site.invariant
