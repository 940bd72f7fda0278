use Rattle.std.proofs.Common.{◌≡◌, [], length}
use Rattle.std.specs.List.{flat_map}
use Rattle.kasa_graph.specs.Signature.{state_counts}
use Rattle.kasa_choose.specs.Kept.{keep_all}
use Rattle.kasa_choose.specs.Views.{numbers}
use Rattle.kasa_choose.specs.Parallel.{over_type, partners}
use Rattle.kasa_choose.proofs.parallel.all_parallel.Given as goal

abbrev pub invariant-loop-number : goal.invariant-loop-number
invariant-loop-number l = l.planned ≡ keep_all [] (flat_map (λ a. over_type (partners l.model a) a (length (state_counts l.model.sig a))) (numbers l.number))
