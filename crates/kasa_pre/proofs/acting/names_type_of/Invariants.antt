use Rattle.std.proofs.Common.{◌≡◌, ℕ, ◌<◌}
use Rattle.std.specs.Prelude.{Some, slice_get}
use Rattle.kasa_families.specs.Family.{family_types}
use Rattle.kasa_pre.specs.Acts.{Names}
use Rattle.kasa_pre.proofs.acting.names_type_of.Given as goal

abbrev pub invariant-loop-n : goal.invariant-loop-n
invariant-loop-n l = (k a : ℕ) → k < l.n → slice_get (family_types l.family) k ≡ Some a → Names l.rule a → ⊥
