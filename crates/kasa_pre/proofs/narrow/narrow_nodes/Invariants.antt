use Rattle.std.proofs.Common.{ℕ, ◌<◌}
use Rattle.kasa_pre.specs.Narrow.{IsNarrowed}
use Rattle.kasa_pre.specs.Asked.{NodeBefore}
use Rattle.kasa_pre.proofs.narrow.narrow_nodes.Given as goal

abbrev pub invariant-loop-node : goal.invariant-loop-node
invariant-loop-node l = IsNarrowed l.fn.asked.sig.now l.fn.g (λ h. (i : ℕ) → i < l.node → NodeBefore l.fn.asked.rule.now l.fn.asked.v.now l.fn.asked.stands.now l.fn.asked.freed.now i h) l.g
