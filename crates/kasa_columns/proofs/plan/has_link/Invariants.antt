use Rattle.std.proofs.Common.{◌≡◌, ◌≢◌, ℕ, ◌<◌}
use Rattle.std.specs.Prelude.{Some, slice_get}
use Rattle.kasa_families.specs.declared.row.LocalLink.{LocalLink}
use Rattle.kasa_columns.proofs.plan.has_link.Given as goal

abbrev pub invariant-loop-other : goal.invariant-loop-other
invariant-loop-other l = (k : ℕ) → k < l.other-index → (x : LocalLink) → slice_get l.links k ≡ Some x → x ≢ l.link
