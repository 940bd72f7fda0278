use Rattle.std.proofs.Common.{◌≡◌, ℕ, ◌+◌, ◌<◌}
use Rattle.kasa_families.specs.declared.rows.Origin.TheVariants.{Init}
use Rattle.kasa_families.specs.declared.rows.Missing.{Missing}
use Rattle.kasa_check.specs.Lacked.{IsLacked}
use Rattle.kasa_check.proofs.inits.first_of_inits.Given as goal

abbrev pub invariant-loop-k : goal.invariant-loop-k
invariant-loop-k g l = (other : Missing) (n : ℕ) → other.origin ≡ Init n → n < l.k + 1 → ¬ IsLacked l.model (g.R.Rows.tables l.rows) other
