use Rattle.std.proofs.Common.{◌≡◌, ℕ, ◌+◌, ◌<◌, ◌≤◌, inl, inr, List, length, arith}
use Rattle.std.proofs.lemmas.Option.{slice_get_within}
use Rattle.kasa_graph.specs.declared.pattern.Node.{Node}
use Rattle.kasa_graph.proofs.ListLemmas.{below_or}
use Rattle.kasa_compile.specs.declared.said.SiteSaid.{SiteSaid as Site}
use Rattle.kasa_compile.specs.declared.said.AgentSaid.{AgentSaid as Said}
use Rattle.kasa_compile.specs.Building.{Says, IsAsked, IsFurther}
use Rattle.kasa_compile.proofs.AskedLemmas.{IsAsking-blank, IsAsking-further, further_asked, states_said, links_said, IsPatternOver-said}
use Rattle.kasa_compile.proofs.rule.left_pattern.Goals as goal

pub loop-n-init : goal.loop-n-init
loop-n-init c = record {
  asking = rw c.in_ok-left.ensures (IsAsking-blank c.args.sig.now c.args.agents.now);
  asked = λ k j s none. absurd (omega arith);
}

next_asked : (agents : List Said) (g h : List Node) (n : ℕ) → IsFurther agents g h → ((k j : ℕ) (s : Site) → k < n → Says agents k j s → IsAsked agents g k s.site) → ((j : ℕ) (s : Site) → Says agents n j s → IsAsked agents h n s.site) → (k j : ℕ) (s : Site) → k < n + 1 → Says agents k j s → IsAsked agents h k s.site
next_asked agents g h n step before here k j s below says = elim (below_or k n) [
  | inl less ↦ further_asked agents g h k s step (before k j s less says)
  | inr far ↦ let e = far.1 in let same : k ≡ n = omega arith in let at : Says agents n j s = rw (← same) says in rw same (here j s at)
]

pub loop-n-preserved : goal.loop-n-preserved
loop-n-preserved c = record {
  asking = IsAsking-further c.args.sig.now c.args.agents.now c.loop-n.left c.ask_sites.new.left c.loop-n.invariant.asking c.ask_sites.ensures.further;
  asked = next_asked c.args.agents.now c.loop-n.left c.ask_sites.new.left c.loop-n.n c.ask_sites.ensures.further c.loop-n.invariant.asked c.ask_sites.ensures.asked;
}

all_asked : (agents : List Said) (g : List Node) (n : ℕ) → length agents ≤ n → ((k j : ℕ) (s : Site) → k < n → Says agents k j s → IsAsked agents g k s.site) → (k j : ℕ) (s : Site) → Says agents k j s → IsAsked agents g k s.site
all_asked agents g n all before k j s says = let within = slice_get_within agents k says.agent says.is_agent in before k j s (omega arith) says

pub returns-clause-over : goal.returns-clause-over
returns-clause-over c = IsPatternOver-said c.args.sig.now c.args.agents.now c.loop-n.left c.requires.said c.loop-n.invariant.asking (all_asked c.args.agents.now c.loop-n.left c.loop-n.n c.loop-n-test.false c.loop-n.invariant.asked)

pub returns-clause-types : goal.returns-clause-types
returns-clause-types c = c.loop-n.invariant.asking.types

pub returns-clause-states : goal.returns-clause-states
returns-clause-states c = states_said c.args.sig.now c.args.agents.now c.loop-n.left c.requires.said c.loop-n.invariant.asking (all_asked c.args.agents.now c.loop-n.left c.loop-n.n c.loop-n-test.false c.loop-n.invariant.asked)

pub returns-clause-links : goal.returns-clause-links
returns-clause-links c = links_said c.args.sig.now c.args.agents.now c.loop-n.left c.requires.said c.loop-n.invariant.asking (all_asked c.args.agents.now c.loop-n.left c.loop-n.n c.loop-n-test.false c.loop-n.invariant.asked)
