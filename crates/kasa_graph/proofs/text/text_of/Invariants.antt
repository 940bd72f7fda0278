use Rattle.std.proofs.Common.{◌≡◌, take}
use Rattle.kasa_lists.specs.Lists.{map_from}
use Rattle.kasa_graph.specs.PatternText.{comma_joined, node_text, first_ends}
use Rattle.kasa_graph.proofs.text.text_of.Given as goal

abbrev pub invariant-loop-node : goal.invariant-loop-node
invariant-loop-node l =
    (l.text.items ≡ comma_joined (map_from 0 (node_text l.sig l.pattern) (take l.node l.pattern))) × (l.firsts.keys ≡ first_ends 0 (take l.node l.pattern))
