use Rattle.std.proofs.Common.{◌≡◌, ◌+◌, ◌≤◌, take, count_by, ◌==◌, not}
use Rattle.std.specs.List.{suffix_len}
use Rattle.kasa_syntax.proofs.place.place_of.Given as goal

abbrev pub invariant-loop-b : goal.invariant-loop-b
invariant-loop-b l = record {
  line : l.line ≡ 1 + count_by (λ b. b == 10) (take l.b-index l.b-items);
  column : l.column ≡ 1 + suffix_len (λ b. not (b == 10)) (take l.b-index l.b-items);
  line_fits : l.line ≤ 1 + l.b-index;
  column_fits : l.column ≤ 1 + l.b-index;
}
