use Rattle.std.proofs.Common.{◌≡◌, ℕ, ◌<◌}
use Rattle.std.specs.Prelude.{Some, slice_get}
use Rattle.kasa_pre.specs.declared.FreedBy.{FreedBy}
use Rattle.kasa_columns.proofs.fired.frees_too.Given as goal

abbrev pub invariant-loop-f : goal.invariant-loop-f
invariant-loop-f l = (k : ℕ) (g : FreedBy) → k < l.f-index → slice_get l.freed k ≡ Some g → g.from ≡ l.source.from → g.«at» ≡ l.source.«at» → ⊥
