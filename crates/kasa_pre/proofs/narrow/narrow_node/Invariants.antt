use Rattle.std.proofs.Common.{ℕ, ◌<◌}
use Rattle.kasa_pre.specs.Narrow.{IsNarrowed}
use Rattle.kasa_pre.proofs.AskedLoops.{NodeSiteBefore}
use Rattle.kasa_pre.proofs.narrow.narrow_node.Given as goal

abbrev pub invariant-loop-site : goal.invariant-loop-site
invariant-loop-site l = IsNarrowed l.asked.sig.now l.fn.g (λ h. (s : ℕ) → s < l.site → NodeSiteBefore l.asked.rule.now l.asked.v.now l.asked.stands.now l.asked.freed.now l.node s h) l.g
