use Rattle.std.proofs.Common.{◌≡◌, length}
use Rattle.kasa_digraph.specs.Graph.{successors}
use Rattle.kasa_polymers.proofs.PointLemmas.{AreByType}
use Rattle.kasa_polymers.proofs.steps.points_by_type.Given as goal

abbrev pub invariant-loop-number : goal.invariant-loop-number
invariant-loop-number l = record {
  size : length l.lists.items ≡ l.types;
  listed : AreByType l.points l.number (successors l.lists.items);
}
