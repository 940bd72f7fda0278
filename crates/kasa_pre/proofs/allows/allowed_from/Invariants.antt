use Rattle.std.proofs.Common.{ℕ, ◌<◌, ◌-◌, length}
use Rattle.kasa_families.specs.First.{IsRooted}
use Rattle.kasa_pre.specs.Spots.{IsNumberAllowedFrom}
use Rattle.kasa_pre.proofs.allows.allowed_from.Given as goal

abbrev pub invariant-loop-f : goal.invariant-loop-f
invariant-loop-f g l = (j : ℕ) → j < l.from → IsRooted (g.R.Rows.tables l.rows) l.agent j → IsNumberAllowedFrom l.sig (g.R.Rows.tables l.rows) l.g l.node j

abbrev pub decreases-loop-f : goal.decreases-loop-f
decreases-loop-f g l = length (g.R.Rows.tables l.rows) - l.from
