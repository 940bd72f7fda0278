use Rattle.std.proofs.Common.{refl, sym, ◌∙◌}
use Rattle.kasa_graph.specs.Mixture.{with_agent_state}
use Rattle.kasa_graph.proofs.CellLemmas.{with_agent_site-same}
use Rattle.kasa_graph.proofs.mixture.put_state.Goals as goal

pub returns-in-Some : goal.returns-in-Some
unfolding with_agent_state
returns-in-Some c = c.put_site.ensures ∙ with_agent_site-same c.args.cells.now c.args.c c.args.s c.in-Some.site _ _ (sym c.in-Some.ensures) refl
