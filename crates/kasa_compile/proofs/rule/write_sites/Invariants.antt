use Rattle.std.proofs.Common.{ℕ, ◌<◌, List}
use Rattle.kasa_graph.specs.Signature.{TypeEntry}
use Rattle.kasa_rules.specs.Rule.{IsDraftOver}
use Rattle.kasa_compile.specs.declared.said.SiteSaid.{SiteSaid as Site}
use Rattle.kasa_compile.specs.Rule.{end_at}
use Rattle.kasa_compile.specs.Building.{Says, CanWrite, IsLater, IsDone, AreAwaiting}
use Rattle.kasa_compile.proofs.rule.write_sites.Given as goal

abbrev pub invariant-loop-i : goal.invariant-loop-i
invariant-loop-i l = record {
  over : (sig : List TypeEntry) → IsDraftOver sig l.initial.draft → IsDraftOver sig l.draft;
  later : (sig : List TypeEntry) → CanWrite sig l.sides l.left l.initial.draft → IsLater sig l.sides l.left l.initial.draft l.draft;
  waits : AreAwaiting l.sides l.left l.draft l.k l.i;
  done : (sig : List TypeEntry) → CanWrite sig l.sides l.left l.initial.draft → (j : ℕ) (s : Site) → j < l.i → Says l.sides.right l.k j s → IsDone sig l.sides l.left l.draft (end_at l.sides.ends l.k) s.site;
}
