use Rattle.std.proofs.Common.{◌≡◌, ◌<◌, ◌≤◌, ℕ, length, map, take}
use Rattle.std.specs.Prelude.{Some, slice_get}
use Rattle.kasa_graph.specs.declared.pattern.Node.{Node}
use Rattle.kasa_rules.specs.Draft.{keep_node}
use Rattle.kasa_rules.proofs.draft.kept_nodes.Given as goal

abbrev pub invariant-loop-n : goal.invariant-loop-n
invariant-loop-n l = record {
  so_far : l.actions.items ≡ map keep_node (take l.n l.left);
  few_sites : (k : ℕ) (x : Node) → k < l.n → slice_get l.left k ≡ Some x → length x.sites ≤ 32;
}
