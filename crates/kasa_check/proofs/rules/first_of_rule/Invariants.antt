use Rattle.std.proofs.Common.{◌≡◌, ◌<◌}
use Rattle.kasa_families.specs.declared.rows.Origin.TheVariants.{Rule}
use Rattle.kasa_families.specs.declared.rows.Missing.{Missing}
use Rattle.kasa_check.specs.Lacked.{IsLacked}
use Rattle.kasa_check.proofs.rules.first_of_rule.Given as goal

abbrev pub invariant-loop-f : goal.invariant-loop-f
invariant-loop-f g l = (other : Missing) → other.origin ≡ Rule l.number → other.family < l.f → ¬ IsLacked l.model (g.R.Rows.tables l.rows) other
