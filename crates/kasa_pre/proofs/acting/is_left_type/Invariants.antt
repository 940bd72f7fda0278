use Rattle.std.proofs.Common.{◌≡◌, ℕ, ◌<◌}
use Rattle.std.specs.Prelude.{Some}
use Rattle.kasa_graph.specs.Pattern.{agent_at}
use Rattle.kasa_pre.proofs.acting.is_left_type.Given as goal

abbrev pub invariant-loop-n : goal.invariant-loop-n
invariant-loop-n l = (k : ℕ) → k < l.n → agent_at l.rule.left k ≡ Some l.agent → ⊥
