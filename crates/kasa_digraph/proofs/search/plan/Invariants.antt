use Rattle.std.proofs.Common.{◌≡◌, ◌∷◌, take}
use Rattle.kasa_digraph.specs.declared.search.Task.TheVariants.{Leave}
use Rattle.kasa_digraph.specs.inner.Search.{with_visits}
use Rattle.kasa_digraph.proofs.search.plan.Given as goal

abbrev pub invariant-loop-q : goal.invariant-loop-q
invariant-loop-q l = record {
  tasks : l.tasks.items ≡ with_visits (take l.q-index l.next) (Leave l.p ∷ l.fn.tasks.items);
}
