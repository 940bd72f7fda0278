use Rattle.std.proofs.Common.{◌≡◌, ◌<◌, ◌^◌, drop}
use Rattle.kasa_tabfile.specs.Word.{value_from, value}
use Rattle.kasa_tabfile.proofs.word.value_of.Given as goal

abbrev pub invariant-loop-b : goal.invariant-loop-b
invariant-loop-b l = record {
  same : value_from l.value (drop l.b-index l.digits) ≡ value l.digits;
  small : l.value < 10 ^ l.b-index;
}
