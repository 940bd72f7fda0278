use Rattle.std.proofs.Common.{◌≡◌, ◌-◌, ◌+◌, ℕ, ◌<◌, [], ◌∷◌, ◌++◌}
use Rattle.std.specs.Prelude.{Some, slice_get}
use Rattle.kasa_pre.specs.declared.FreedBy.{FreedBy}
use Rattle.kasa_influence.specs.inner.Makes.{MakesFrom}
use Rattle.kasa_influence.proofs.makes.+makes_from.Given as goal

abbrev pub decreases-makes_from : goal.decreases-makes_from
decreases-makes_from g l = 32 - l.site

abbrev pub invariant-loop-source : goal.invariant-loop-source
invariant-loop-source g l = (k : ℕ) → k < l.source-index → (f : FreedBy) → slice_get l.source-items k ≡ Some f → ¬ MakesFrom l.ask l.v l.stand (l.site + 1) (l.freed ++ f ∷ [])
