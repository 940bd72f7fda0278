use Rattle.std.proofs.Common.{refl}
use Rattle.kasa_syntax.specs.declared.agents.SiteText.{SiteText}
use Rattle.kasa_compile.specs.Names.{in_brackets, unknown_partner_type}
use Rattle.kasa_compile.proofs.PairLemmas.{none_more, first_here}
use Rattle.kasa_compile.proofs.names.unknown_partner_type.Goals as goal

pub loop-site-preserved : goal.loop-site-preserved
loop-site-preserved c = none_more (λ (s : SiteText). in_brackets (unknown_partner_type c.args.text.now c.args.sig.now) s.link) c.args.sites.now c.loop-site.site-index _ _ c.loop-site.invariant c.loop-site-test.true refl c.in_default.ensures

pub returns-in-Some : goal.returns-in-Some
returns-in-Some c = first_here (λ (s : SiteText). in_brackets (unknown_partner_type c.args.text.now c.args.sig.now) s.link) c.args.sites.now c.loop-site.site-index _ _ c.in-Some.at c.loop-site.invariant c.loop-site-test.true refl c.in-Some.ensures
