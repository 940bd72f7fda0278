-- What a rule writes against a node, from what it writes at each site.
use Rattle.std.proofs.Common.{◌≡◌, ◌≢◌, ℕ, ◌<◌, ◌≤◌, inl, inr, List, length, sym, ◌∙◌, arith}
use Rattle.std.specs.Prelude.{Some}
use Rattle.std.proofs.lemmas.Option.{slice_get_within}
use Rattle.kasa_graph.specs.declared.pattern.Node.{Node}
use Rattle.kasa_graph.specs.declared.pattern.StateTest.TheVariants as state
use Rattle.kasa_graph.specs.Signature.{TypeEntry, state_counts}
use Rattle.kasa_graph.specs.Pattern.{agent_at, HasNodeSite}
use Rattle.kasa_graph.proofs.ShapeLemmas.{agent_at-node, node_of_agent}
use Rattle.kasa_graph.proofs.SiteLemmas.{HasNodeSite-over}
use Rattle.kasa_rules.specs.declared.rule.Fate.TheVariants.{Deleted}
use Rattle.kasa_rules.specs.Rule.{RuleParts, fate_at}
use Rattle.kasa_influence.specs.Loss.{IsBroken}
use Rattle.kasa_influence.specs.inner.Ask.{IsOne}
use Rattle.kasa_influence.specs.inner.Stops.{Aimed, IsTarget, BreaksAt}
use Rattle.kasa_influence.proofs.AloneLemmas.{agent_at-alone}
use Rattle.kasa_influence.proofs.LoneLemmas.{IsOne-alone}
use Rattle.kasa_influence.proofs.OneLemmas.{below_tested, HasNodeSite-below}

module _ (sig : List TypeEntry) (t : Aimed) (target : IsTarget sig t) where
  pub IsOne-target : IsOne sig t.alone
  IsOne-target = rw target.by_itself (IsOne-alone sig t.left target.valid t.node target.there target.at_node)

  pub same_type : agent_at t.left t.node ≡ agent_at t.alone 0
  same_type = agent_at-node t.left t.node target.there target.at_node ∙ rw target.by_itself (sym (agent_at-alone t.left t.node target.there target.at_node))

  -- sites of the node, here and there
  pub site_alone : (a s : ℕ) → agent_at t.alone 0 ≡ Some a → s < length (state_counts sig a) → HasNodeSite t.alone 0 s
  site_alone a s typed within = HasNodeSite-below sig t.alone IsOne-target a s typed within

  pub site_there : (a s : ℕ) → agent_at t.alone 0 ≡ Some a → s < length (state_counts sig a) → HasNodeSite t.left t.node s
  site_there a s typed within = HasNodeSite-over sig t.left target.valid t.node a s (same_type ∙ typed) within

  -- the node is broken by what is written at a site, and by no other
  pub broken_at : (r : RuleParts) (n s : ℕ) → BreaksAt r t n s → IsBroken r t.left t.node t.alone n
  broken_at r n s (inl (u, w, tested, written, other)) = inr (inl (s, u, w, tested, written, other))
  broken_at r n s (inr (w, asks, written, miss)) = inr (inr (s, w, asks, written, miss))

  pub not_broken : (r : RuleParts) (n a k : ℕ) → agent_at t.alone 0 ≡ Some a → length (state_counts sig a) ≤ k → fate_at r n ≢ Some Deleted → ((s : ℕ) → s < k → ¬ BreaksAt r t n s) → ¬ IsBroken r t.left t.node t.alone n
  not_broken r n a k typed past kept none (inl deleted) = kept deleted
  not_broken r n a k typed past kept none (inr (inl (s, u, w, tested, written, other))) =
      let within = below_tested sig t.alone IsOne-target a s typed (inl (λ any. let e : state.Is w ≡ state.Any = sym tested ∙ any in cc)) in
      none s (omega arith) (inl (u, w, tested, written, other))
  not_broken r n a k typed past kept none (inr (inr (s, w, asks, written, miss))) =
      let within = below_tested sig t.alone IsOne-target a s typed (inr asks) in
      none s (omega arith) (inr (w, asks, written, miss))

module _ (sig : List TypeEntry) (g : List Node) (n a : ℕ) (typed : agent_at g n ≡ Some a) where
  pub node_within : n < length g
  node_within = let node = node_of_agent g n a typed in slice_get_within g n node.0 node.1
