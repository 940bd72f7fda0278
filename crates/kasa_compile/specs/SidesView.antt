-- What agents on the right of a rule are, as ends of bonds.
use Rattle.std.specs.Prelude.{ℕ, ◌<◌, length}
use Rattle.kasa_rules.specs.declared.rule.End.{End}
use Rattle.kasa_rules.specs.declared.rule.End.TheVariants as «end»
use Rattle.kasa_compile.specs.declared.sides.Origin.{Origin}
use Rattle.kasa_compile.specs.declared.sides.Origin.TheVariants.{Left, Made}
use Rattle.kasa_compile.specs.Sides.{SidesParts}
use Rattle.kasa_compile.specs.Rule.{end_at}

-- the number is the same
abbrev pub end_of : Origin → End
end_of (Left n) = «end».Left n
end_of (Made j) = «end».Made j

-- the number of an end has 16 bits
abbrev pub IsShortEnd : End → Type 0
IsShortEnd («end».Left n) = n < 65536
IsShortEnd («end».Made j) = j < 65536

abbrev pub HasShortEnds : SidesParts → Type 0
HasShortEnds x = (k : ℕ) → k < length x.ends → IsShortEnd (end_at x.ends k)
