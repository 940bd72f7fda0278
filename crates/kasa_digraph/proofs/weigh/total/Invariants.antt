use Rattle.std.proofs.Common.{◌≡◌, ◌+◌, ◌^◌, take, sum, min}
use Rattle.kasa_digraph.proofs.weigh.total.Given as goal

abbrev pub invariant-loop-value : goal.invariant-loop-value
invariant-loop-value l = record {
  total : l.total ≡ min (1 + sum (take l.value-index l.values)) (2 ^ 64);
}
