use Rattle.std.proofs.Common.{◌≡◌, ℕ, ◌+◌, ◌<◌}
use Rattle.kasa_families.specs.declared.rows.Origin.TheVariants.{Rule}
use Rattle.kasa_families.specs.declared.rows.Missing.{Missing}
use Rattle.kasa_check.specs.Lacked.{IsLacked}
use Rattle.kasa_check.proofs.rules.first_of_rules.Given as goal

abbrev pub invariant-loop-k : goal.invariant-loop-k
invariant-loop-k g l = (other : Missing) (n : ℕ) → other.origin ≡ Rule n → n < l.k + 1 → ¬ IsLacked l.model (g.R.Rows.tables l.rows) other
