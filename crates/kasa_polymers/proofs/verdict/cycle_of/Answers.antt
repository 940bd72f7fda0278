use Rattle.std.proofs.Common.{length, arith}
use Rattle.kasa_digraph.specs.Graph.{successors, IsClosedWalk}
use Rattle.kasa_polymers.proofs.NumberLemmas.{walk_within}
use Rattle.kasa_polymers.proofs.verdict.cycle_of.Goals as goal

pub bonds_at-requires : goal.bonds_at-requires
bonds_at-requires c = λ j h.
    let walk : IsClosedWalk (successors c.args.steps.now) c.as_slice.result.now = rw c.as_slice.ensures.value (rw c.in-Some.is at c.in_ok-first_cycle.ensures.some).closed in
    let below = walk_within (successors c.args.steps.now) (length c.args.steps.now) c.requires.graph c.as_slice.result.now walk j h in
    let size = c.requires.size in omega arith
