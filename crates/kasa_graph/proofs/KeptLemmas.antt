-- What every pattern keeps after a change that leaves the types of its nodes.
use Rattle.std.proofs.Common.{◌≡◌, ◌≤◌, sym, ap, ◌∙◌, List, length}
use Rattle.kasa_graph.specs.declared.pattern.Node.{Node}
use Rattle.kasa_graph.specs.Pattern.{types_of, IsPattern}
use Rattle.kasa_graph.proofs.TestLemmas.{length-types}

pub kept-of : (g h k : List Node) → h ≡ k → IsPattern k → types_of k ≡ types_of g → length g ≤ 1000 → IsPattern h × (length h ≤ 1000)
kept-of g h k e ok same few =
    let count : length k ≡ length g = length-types k ∙ ap length same ∙ sym (length-types g) in
    rw e (ok, rw count few)
