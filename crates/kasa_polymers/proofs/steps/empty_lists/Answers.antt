use Rattle.std.proofs.Common.{◌+◌, ℕ, List, length, ap, ◌∙◌}
use Rattle.std.proofs.lemmas.List.{length_push}
use Rattle.kasa_digraph.specs.Graph.{has, successors}
use Rattle.kasa_digraph.proofs.Flooding.{successors_push}
use Rattle.kasa_polymers.proofs.steps.empty_lists.Goals as goal

pub loop-list-preserved : goal.loop-list-preserved
loop-list-preserved c = record {
  size = ap length c.in_ok-push.ensures.items ∙ length_push c.loop-list.lists.items c.new.result ∙ ap (λ (n : ℕ). n + 1) c.loop-list.invariant.size;
  none = λ a j. ap (λ (g : List _). has (successors g a) j) c.in_ok-push.ensures.items
      ∙ ap (λ (xs : List ℕ). has xs j) (successors_push c.loop-list.lists.items c.new.result a c.new.ensures.items) ∙ c.loop-list.invariant.none a j;
}
