use Rattle.std.proofs.Common.{refl}
use Rattle.kasa_compile.specs.Names.{unknown_sites_at}
use Rattle.kasa_compile.proofs.PairLemmas.{none_more, first_here}
use Rattle.kasa_compile.proofs.names.unknown_site_among.Goals as goal

pub loop-site-preserved : goal.loop-site-preserved
loop-site-preserved c = none_more (unknown_sites_at c.args.text.now c.args.sig.now c.args.agent) c.args.sites.now c.loop-site.site-index _ _ c.loop-site.invariant c.loop-site-test.true refl c.in_default.ensures

pub returns-in-Some : goal.returns-in-Some
returns-in-Some c = first_here (unknown_sites_at c.args.text.now c.args.sig.now c.args.agent) c.args.sites.now c.loop-site.site-index _ _ c.in-Some.at c.loop-site.invariant c.loop-site-test.true refl c.in-Some.ensures
