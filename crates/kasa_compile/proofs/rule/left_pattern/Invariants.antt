use Rattle.std.proofs.Common.{ℕ, ◌<◌}
use Rattle.kasa_compile.specs.declared.said.SiteSaid.{SiteSaid as Site}
use Rattle.kasa_compile.specs.Building.{Says, IsAsking, IsAsked}
use Rattle.kasa_compile.proofs.rule.left_pattern.Given as goal

abbrev pub invariant-loop-n : goal.invariant-loop-n
invariant-loop-n l = record {
  asking : IsAsking l.sig l.agents l.left;
  asked : (k j : ℕ) (s : Site) → k < l.n → Says l.agents k j s → IsAsked l.agents l.left k s.site;
}
