use Rattle.std.proofs.Common.{◌≡◌, length}
use Rattle.std.specs.List.{flat_map}
use Rattle.kasa_graph.specs.Signature.{state_counts}
use Rattle.kasa_choose.specs.Kept.{keep_all}
use Rattle.kasa_choose.specs.Views.{numbers}
use Rattle.kasa_choose.specs.Own.{partners_among}
use Rattle.kasa_choose.specs.Parallel.{over_site}
use Rattle.kasa_choose.proofs.parallel.add_type.Given as goal

abbrev pub invariant-loop-number : goal.invariant-loop-number
invariant-loop-number l = l.planned ≡ keep_all l.fn.planned (flat_map (over_site (partners_among l.own) l.agent (length (state_counts l.sig l.agent))) (numbers l.number))
