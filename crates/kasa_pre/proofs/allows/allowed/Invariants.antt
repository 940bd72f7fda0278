use Rattle.std.proofs.Common.{ℕ, ◌<◌}
use Rattle.kasa_pre.specs.Spots.{AreAllowedFrom}
use Rattle.kasa_pre.proofs.allows.allowed.Given as goal

abbrev pub invariant-loop-node : goal.invariant-loop-node
invariant-loop-node g l = (k : ℕ) → k < l.node → AreAllowedFrom l.sig (g.R.Rows.tables l.rows) l.g k
