use Rattle.std.proofs.Common.{◌≡◌, drop}
use Rattle.kasa_compile.specs.Labels.{behind, standing}
use Rattle.kasa_compile.proofs.limits.agent_behind.Given as goal

abbrev pub invariant-loop-item : goal.invariant-loop-item
invariant-loop-item l = behind l.most (standing l.side l.items) ≡ behind l.more (standing l.side (drop l.item-index l.items))
