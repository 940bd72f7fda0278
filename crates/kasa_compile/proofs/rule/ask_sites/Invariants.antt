use Rattle.std.proofs.Common.{ℕ, ◌<◌}
use Rattle.kasa_compile.specs.declared.said.SiteSaid.{SiteSaid as Site}
use Rattle.kasa_compile.specs.Building.{Says, IsAsked, IsFurther}
use Rattle.kasa_compile.proofs.rule.ask_sites.Given as goal

abbrev pub invariant-loop-i : goal.invariant-loop-i
invariant-loop-i l = record {
  further : IsFurther l.agents l.initial.left l.left;
  asked : (j : ℕ) (s : Site) → j < l.i → Says l.agents l.n j s → IsAsked l.agents l.left l.n s.site;
}
