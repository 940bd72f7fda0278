use Rattle.std.proofs.Common.{◌≡◌, ◌<◌}
use Rattle.kasa_families.specs.declared.rows.Origin.TheVariants.{Init}
use Rattle.kasa_families.specs.declared.rows.Missing.{Missing}
use Rattle.kasa_check.specs.Lacked.{IsLacked}
use Rattle.kasa_check.proofs.inits.first_of_init.Given as goal

abbrev pub invariant-loop-f : goal.invariant-loop-f
invariant-loop-f g l = (other : Missing) → other.origin ≡ Init l.number → other.family < l.f → ¬ IsLacked l.model (g.R.Rows.tables l.rows) other
