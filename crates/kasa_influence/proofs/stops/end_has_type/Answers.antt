use Rattle.std.proofs.Common.{◌≡◌, ◌<◌, ℕ, length, ap, arith}
use Rattle.std.specs.Prelude.{Some}
use Rattle.std.proofs.lemmas.Option.{slice_get_within}
use Rattle.kasa_lists.proofs.Options.{some_map}
use Rattle.kasa_rules.specs.declared.rule.MadeAgent.{MadeAgent}
use Rattle.kasa_rules.specs.Rule.{RuleParts, made_type}
use Rattle.kasa_graph.proofs.ShapeLemmas.{node_of_agent}
use Rattle.kasa_influence.proofs.stops.end_has_type.Goals as goal

made_within : (r : RuleParts) (k a : ℕ) → made_type r k ≡ Some a → k < length r.made
unfolding made_type
made_within r k a typed = let x = some_map (λ (x : MadeAgent). x.agent) _ a typed in slice_get_within r.made k x.0 x.1

pub returns-then-n-nodes : goal.returns-then-n-nodes
returns-then-n-nodes c = rw c.in-Left.is (
  λ yes. absurd cc,
  λ typed. absurd (let node = node_of_agent c.args.rule.now.left c.in-Left.n c.args.agent typed in let within = slice_get_within c.args.rule.now.left c.in-Left.n node.0 node.1 in omega (arith, ap length c.left.ensures.pattern)),
)

pub returns-then-k-made : goal.returns-then-k-made
returns-then-k-made c = rw c.in-Made.is (
  λ yes. absurd cc,
  λ typed. absurd (let within = made_within c.args.rule.now c.in-Made.k c.args.agent typed in omega arith),
)
