use Rattle.std.proofs.Common.{◌≡◌, ℕ, ◌<◌, Some}
use Rattle.std.specs.Prelude.{slice_get}
use Rattle.kasa_families.specs.declared.row.Local.{Local}
use Rattle.kasa_tables.specs.Post.{post_at, ready_at}
use Rattle.kasa_tables.proofs.columns.reserve_each.Given as goal

abbrev pub invariant-loop-k : goal.invariant-loop-k
invariant-loop-k l = record {
  ready : (c : ℕ) (local : Local) → c < l.k → slice_get l.locals c ≡ Some local → ready_at l.columns c ≡ Some local;
  same : (c : ℕ) (q : Local) → post_at l.columns c q ≡ post_at l.fn.columns c q;
}
