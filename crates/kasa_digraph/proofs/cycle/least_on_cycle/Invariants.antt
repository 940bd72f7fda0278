use Rattle.std.proofs.Common.{◌<◌, ℕ}
use Rattle.kasa_digraph.specs.Graph.{successors, Leads}
use Rattle.kasa_digraph.proofs.cycle.least_on_cycle.Given as goal

abbrev pub invariant-loop-p : goal.invariant-loop-p
invariant-loop-p l = record { none : (x : ℕ) → x < l.p → ¬ (Leads (successors l.graph) x x) }
