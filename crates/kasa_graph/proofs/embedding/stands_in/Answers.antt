use Rattle.kasa_graph.proofs.FitLemmas.{Has-list_any, list_any-Has}
use Rattle.kasa_graph.proofs.embedding.stands_in.Goals as goal

pub returns : goal.returns
returns c = rw c.contains.ensures.value (Has-list_any c.args.ids.now c.args.cell, list_any-Has c.args.ids.now c.args.cell)
