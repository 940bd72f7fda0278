use Rattle.std.proofs.Common.{ℕ, ◌<◌}
use Rattle.kasa_embed.specs.Connected.{AreBound}
use Rattle.kasa_embed.proofs.route.route_to.Given as goal

abbrev pub invariant-loop-middle : goal.invariant-loop-middle
invariant-loop-middle l = (k : ℕ) → 0 < k → k < l.middle → AreBound l.pattern 0 k → ¬ AreBound l.pattern k l.node
