use Rattle.std.proofs.Common.{◌≡◌, ◌∙◌, refl, sym, []}
use Rattle.std.proofs.lemmas.Option.{slice_get_read, same_Some}
use Rattle.kasa_compile.proofs.UnjoinedLemmas.{agent_added, agent_set, has_site, site_set}
use Rattle.kasa_compile.proofs.complex.add_agent.Goals as goal

pub loop-site-init : goal.loop-site-init
loop-site-init c = λ a is.
    let same : c.index-agents-number.result ≡ a = same_Some _ _ (sym (slice_get_read c.args.agents.now _ c.args.number c.index-agents-number.result refl c.requires.within c.index-agents-number.is) ∙ is) in
    agent_added c.args.sig.now c.args.agents.now c.args.number c.args.mixture.now a [] c.requires.said is c.add.new.self c.requires.before (rw same at c.in_ok-cell.ensures.ok.1)

pub set_given-requires : goal.set_given-requires
set_given-requires c =
    let is = slice_get_read c.args.agents.now _ c.args.number c.index-agents-number.result refl c.requires.within c.index-agents-number.is in
    let at = slice_get_read c.sites_of-site-items.result.now _ c.loop-site.site-index c.site-item.result refl c.loop-site-test.true c.site-item.is in
    has_site c.args.sig.now c.args.agents.now c.args.number c.loop-site.mixture c.index-agents-number.result c.sites_of-site-items.result.now c.requires.said is c.loop-site.site-index c.in_ok-cell.cell c.site-item.result
    c.sites_of-site-items.ensures at (c.in_ok-cell.ensures.ok.0 ∙ c.requires.before.cells) (c.loop-site.invariant c.index-agents-number.result is)

pub loop-site-preserved : goal.loop-site-preserved
loop-site-preserved c = λ a is.
    let same : c.index-agents-number.result ≡ a = same_Some _ _ (sym (slice_get_read c.args.agents.now _ c.args.number c.index-agents-number.result refl c.requires.within c.index-agents-number.is) ∙ is) in
    let at = slice_get_read c.sites_of-site-items.result.now _ c.loop-site.site-index c.site-item.result refl c.loop-site-test.true c.site-item.is in
    site_set c.args.sig.now c.args.agents.now c.args.number c.loop-site.mixture a c.sites_of-site-items.result.now c.requires.said is c.loop-site.site-index c.in_ok-cell.cell c.site-item.result
    (rw same at c.sites_of-site-items.ensures) at (c.in_ok-cell.ensures.ok.0 ∙ c.requires.before.cells) (c.loop-site.invariant a is) c.set_given.new.mixture c.set_given.ensures

pub returns : goal.returns
returns c =
    let is = slice_get_read c.args.agents.now _ c.args.number c.index-agents-number.result refl c.requires.within c.index-agents-number.is in
    agent_set c.args.sig.now c.args.agents.now c.args.number c.loop-site.mixture c.index-agents-number.result c.sites_of-site-items.result.now c.requires.said is c.loop-site.site-index
    c.sites_of-site-items.ensures c.loop-site-test.false (c.loop-site.invariant c.index-agents-number.result is)
