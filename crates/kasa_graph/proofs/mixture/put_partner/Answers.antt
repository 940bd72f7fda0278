use Rattle.std.proofs.Common.{refl, sym, ◌∙◌}
use Rattle.kasa_graph.specs.Mixture.{with_partner}
use Rattle.kasa_graph.proofs.CellLemmas.{with_agent_site-same}
use Rattle.kasa_graph.proofs.mixture.put_partner.Goals as goal

pub returns-in-Some : goal.returns-in-Some
unfolding with_partner
returns-in-Some c = c.put_site.ensures ∙ with_agent_site-same c.args.cells.now c.args.c c.args.s c.in-Some.site _ _ (sym c.in-Some.ensures) refl
