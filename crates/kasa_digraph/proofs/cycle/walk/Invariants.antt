use Rattle.std.specs.Prelude.{slice_index}
use Rattle.kasa_digraph.specs.Graph.{successors}
use Rattle.kasa_digraph.specs.inner.Cycle.{IsFollowed}
use Rattle.kasa_digraph.proofs.cycle.walk.Given as goal

abbrev pub invariant-steps : goal.invariant-steps
invariant-steps l = record { followed : IsFollowed (successors l.graph) l.distances l.s l.walk.items l.at }

abbrev pub decreases-steps : goal.decreases-steps
decreases-steps l = slice_index l.distances l.at
