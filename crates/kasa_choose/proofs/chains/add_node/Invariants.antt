use Rattle.std.proofs.Common.{◌≡◌}
use Rattle.std.specs.List.{flat_map}
use Rattle.kasa_graph.specs.Pattern.{link_test}
use Rattle.kasa_choose.specs.Kept.{keep_all}
use Rattle.kasa_choose.specs.Views.{numbers}
use Rattle.kasa_choose.specs.Chains.{over_first}
use Rattle.kasa_choose.proofs.chains.add_node.Given as goal

abbrev pub invariant-loop-number : goal.invariant-loop-number
invariant-loop-number l = l.planned ≡ keep_all l.fn.planned (flat_map (λ x. over_first l.sig l.rule l.node x (link_test l.rule.left l.node x)) (numbers l.number))
