use Rattle.kasa_graph.proofs.FitLemmas.{MeetsLink-Bound, bound_of_meets}
use Rattle.kasa_graph.proofs.embedding.meets_link.Goals as goal

pub returns-in-Bound : goal.returns-in-Bound
returns-in-Bound c = rw (c.in-Bound.is, c.is_some.ensures) (MeetsLink-Bound c.args.m.now c.args.ids.now c.args.at, bound_of_meets c.args.m.now c.args.ids.now c.args.at)
