use Rattle.std.proofs.Common.{◌≡◌, ℕ, ◌<◌, ◌≤◌, ◌++◌}
use Rattle.std.specs.Prelude.{slice_get}
use Rattle.kasa_families.specs.declared.row.Local.{Local}
use Rattle.kasa_tables.specs.Post.{post_at, has_at, number_if}
use Rattle.kasa_tables.proofs.columns.push_each.Given as goal

abbrev pub invariant-loop-k : goal.invariant-loop-k
invariant-loop-k l = record {
  done : (c : ℕ) (q : Local) → c < l.k → post_at l.columns c q ≡ post_at l.fn.columns c q ++ number_if (has_at c q l.locals) l.number;
  left : (c : ℕ) → l.k ≤ c → slice_get l.columns c ≡ slice_get l.fn.columns c;
}
