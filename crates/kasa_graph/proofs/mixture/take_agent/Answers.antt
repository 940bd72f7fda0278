use Rattle.std.proofs.Common.{sym, ◌∙◌, refl}
use Rattle.std.proofs.lemmas.Option.{slice_get_read}
use Rattle.kasa_lists.proofs.Updates.{slice_set-update}
use Rattle.kasa_graph.proofs.CellLemmas.{agent_in-at}
use Rattle.kasa_graph.proofs.mixture.take_agent.Goals as goal

pub returns-clause-taken : goal.returns-clause-taken
returns-clause-taken c = c.take.ensures.value ∙ sym c.index-cells-c.is ∙ sym (agent_in-at c.args.cells.now c.args.c c.index-cells-c.result (slice_get_read c.args.cells.now _ c.args.c c.index-cells-c.result refl c.requires c.index-cells-c.is))

pub returns-clause-emptied : goal.returns-clause-emptied
returns-clause-emptied c = slice_set-update c.args.cells.now c.args.c c.index-cells-c.result c.take.new.self (λ _. _) (slice_get_read c.args.cells.now _ c.args.c c.index-cells-c.result refl c.requires c.index-cells-c.is) (sym c.take.ensures.after)
