use Rattle.std.proofs.Common.{◌≡◌, ℕ, ◌<◌, true}
use Rattle.kasa_graph.specs.Pattern.{link_test}
use Rattle.kasa_rules.specs.Rule.{touched}
use Rattle.kasa_pre.specs.Acts.{LeavesOpen}
use Rattle.kasa_pre.proofs.acting.touches_open_at.Given as goal

abbrev pub invariant-loop-s : goal.invariant-loop-s
invariant-loop-s l = (k : ℕ) → k < l.s → touched l.rule l.node k ≡ true → LeavesOpen (link_test l.rule.left l.node k) → ⊥
