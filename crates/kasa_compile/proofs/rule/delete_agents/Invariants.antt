use Rattle.std.proofs.Common.{◌≡◌, ℕ, List}
use Rattle.kasa_graph.specs.declared.pattern.Node.{Node}
use Rattle.kasa_graph.specs.Signature.{TypeEntry}
use Rattle.kasa_rules.specs.Rule.{IsDraftOver}
use Rattle.kasa_compile.specs.Building.{IsFresh}
use Rattle.kasa_compile.proofs.rule.delete_agents.Given as goal

abbrev pub invariant-loop-n : goal.invariant-loop-n
invariant-loop-n l = record {
  over : (sig : List TypeEntry) → IsDraftOver sig l.initial.draft → IsDraftOver sig l.draft;
  made : l.draft.made ≡ l.initial.draft.made;
  fresh : (name : List ℕ) (g : List Node) → IsFresh l.sides name g 0 l.initial.draft → IsFresh l.sides name g l.n l.draft;
}
