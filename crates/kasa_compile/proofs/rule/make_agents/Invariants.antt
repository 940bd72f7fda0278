use Rattle.std.proofs.Common.{◌≡◌, ℕ, List, [], length, take}
use Rattle.kasa_graph.specs.declared.pattern.Node.{Node}
use Rattle.kasa_rules.specs.Rule.{IsDraftOver}
use Rattle.kasa_compile.specs.Building.{IsBare}
use Rattle.kasa_compile.proofs.rule.make_agents.Given as goal

abbrev pub invariant-loop-j : goal.invariant-loop-j
invariant-loop-j l = record {
  over : IsDraftOver l.sig l.initial.draft → IsDraftOver l.sig l.draft;
  count : length l.draft.made ≡ l.j;
  bare : (name : List ℕ) (g : List Node) → IsBare l.sig l.sides name g [] l.initial.draft → IsBare l.sig l.sides name g (take l.j l.sides.made) l.draft;
}
