use Rattle.kasa_graph.specs.Signature.{state_counts}
use Rattle.kasa_lists.proofs.Maps.{length-map}
use Rattle.kasa_graph.proofs.signature.Signature.sites.Goals as goal

pub returns-in-None-clause-counts : goal.returns-in-None-clause-counts
unfolding state_counts
returns-in-None-clause-counts c = rw c.in-None.ensures.sites

pub returns-in-Some-clause-counts : goal.returns-in-Some-clause-counts
unfolding state_counts
returns-in-Some-clause-counts c =
    rw (c.in-Some.ensures.sites, length-map, length-map) (c.len.ensures.len)
