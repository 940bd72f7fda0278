use Rattle.std.proofs.Common.{◌≡◌, ℕ, ◌<◌}
use Rattle.std.specs.Prelude.{Some, slice_get}
use Rattle.kasa_pre.specs.declared.FreedBy.{FreedBy}
use Rattle.kasa_pre.proofs.narrow.is_freed.Given as goal

abbrev pub invariant-loop-f : goal.invariant-loop-f
invariant-loop-f l = (k : ℕ) (f : FreedBy) → k < l.f-index → slice_get l.freed k ≡ Some f → f.node ≡ l.node → f.site ≡ l.site → ⊥
