use Rattle.std.proofs.Common.{◌≡◌, List, Bool, ℕ, false, length, replicate, sym, subst, rules}
use Rattle.kasa_digraph.specs.Graph.{successors}
use Rattle.kasa_digraph.specs.inner.Search.{IsSearch}
use Rattle.kasa_digraph.proofs.Searching.{search_begins}
use Rattle.kasa_digraph.proofs.search.finish_order.Goals as goal

pub loop-task-init : goal.loop-task-init
loop-task-init c =
    let seen : c.in_ok-seen.seen.items ≡ replicate (length c.args.graph.now) false = search rules in
    let begins = search_begins (successors c.args.graph.now) (length c.args.graph.now) c.in_ok-tasks.tasks.items c.in_ok-tasks.ensures.leaves c.in_ok-tasks.ensures.all c.in_ok-tasks.ensures.within in
    record {
      search = subst (λ (bs : List Bool). IsSearch (successors c.args.graph.now) (length c.args.graph.now) bs c.in_ok-tasks.tasks.items c.new-order.result.items) (sym seen)
          (subst (λ (xs : List ℕ). IsSearch (successors c.args.graph.now) (length c.args.graph.now) (replicate (length c.args.graph.now) false) c.in_ok-tasks.tasks.items xs) (sym c.new-order.ensures.items) begins);
    }
