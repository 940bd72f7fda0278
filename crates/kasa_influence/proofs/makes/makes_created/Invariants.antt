use Rattle.std.proofs.Common.{ℕ, ◌<◌}
use Rattle.kasa_influence.specs.inner.Makes.{MakesCreated}
use Rattle.kasa_influence.proofs.makes.makes_created.Given as goal

abbrev pub invariant-loop-k : goal.invariant-loop-k
invariant-loop-k g l = (j : ℕ) → j < l.k → ¬ MakesCreated l.ask l.v j
