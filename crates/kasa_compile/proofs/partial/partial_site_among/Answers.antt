use Rattle.std.proofs.Common.{◌≡◌, true, refl, sym, ◌∙◌}
use Rattle.std.specs.Prelude.{◌||◌, slice_index_or}
use Rattle.kasa_syntax.specs.declared.agents.SiteText.{SiteText}
use Rattle.kasa_compile.specs.Partial.{partial_site, leaves_state, leaves_link}
use Rattle.kasa_compile.proofs.PairLemmas.{first_here}
use Rattle.kasa_compile.proofs.TwiceLemmas.{blank_site}
use Rattle.kasa_compile.proofs.partial.partial_site_among.Goals as goal

pub returns-then-is_partial : goal.returns-then-is_partial
returns-then-is_partial c =
    let site : SiteText = slice_index_or c.args.sites.now c.loop-site.site-index blank_site in
    let open_here : (leaves_state site.state || leaves_link site.link) ≡ true = sym c.is_partial.ensures ∙ c.if-is_partial.true in
    first_here partial_site c.args.sites.now c.loop-site.site-index site blank_site site.name.start c.loop-site.invariant c.loop-site-test.true refl (rw open_here refl)
