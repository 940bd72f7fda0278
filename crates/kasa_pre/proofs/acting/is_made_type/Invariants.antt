use Rattle.std.proofs.Common.{◌≡◌, ℕ, ◌<◌}
use Rattle.std.specs.Prelude.{Some}
use Rattle.kasa_rules.specs.Rule.{made_type}
use Rattle.kasa_pre.proofs.acting.is_made_type.Given as goal

abbrev pub invariant-loop-k : goal.invariant-loop-k
invariant-loop-k l = (j : ℕ) → j < l.k → made_type l.rule j ≡ Some l.agent → ⊥
