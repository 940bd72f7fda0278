use Rattle.std.proofs.Common.{◌≡◌}
use Rattle.std.specs.List.{flat_map}
use Rattle.kasa_choose.specs.Kept.{keep_all}
use Rattle.kasa_choose.specs.Views.{numbers}
use Rattle.kasa_choose.specs.Chains.{chains_of_node}
use Rattle.kasa_choose.proofs.chains.add_rule.Given as goal

abbrev pub invariant-loop-number : goal.invariant-loop-number
invariant-loop-number l = l.planned ≡ keep_all l.fn.planned (flat_map (chains_of_node l.sig l.rule) (numbers l.number))
