-- One node by itself, and where it can stand.
use Rattle.std.proofs.Common.{◌≡◌, ◌≢◌, ℕ, ◌<◌, ◌≤◌, ◌⊎◌, inl, inr, List, [], ◌∷◌, length, refl, sym, ◌∙◌, arith}
use Rattle.std.specs.Prelude.{Some, slice_get}
use Rattle.kasa_graph.specs.declared.pattern.Node.{Node}
use Rattle.kasa_graph.specs.declared.pattern.StateTest.TheVariants as state
use Rattle.kasa_graph.specs.declared.pattern.LinkTest.TheVariants as link
use Rattle.kasa_graph.specs.Signature.{TypeEntry, state_counts}
use Rattle.kasa_graph.specs.Pattern.{agent_at, state_test, link_test, HasNodeSite, IsPatternOver}
use Rattle.kasa_graph.proofs.ShapeLemmas.{agent_at-node, node_of_agent, site_or_any}
use Rattle.kasa_graph.proofs.SiteLemmas.{HasNodeSite-over, HasSite-over, type_of_node_site}
use Rattle.kasa_influence.specs.inner.Ask.{IsOne}
use Rattle.kasa_influence.specs.inner.Stops.{SiteStands, StandsAt}

module _ (sig : List TypeEntry) (v : List Node) (one : IsOne sig v) where
  -- the node
  pub the_node : (node : Node) × (slice_get v 0 ≡ Some node)
  the_node = first v one.one
    where
      first : (v : List Node) → length v ≡ 1 → (node : Node) × (slice_get v 0 ≡ Some node)
      first [] e = absurd cc
      first (node ∷ v) e = (node, refl)

  pub the_type : (a : ℕ) × (agent_at v 0 ≡ Some a)
  the_type = (the_node.0.agent, agent_at-node v 0 the_node.0 the_node.1)

  pub type_known : (a : ℕ) → agent_at v 0 ≡ Some a → a < length sig
  type_known a typed = let node = node_of_agent v 0 a typed in rw (← node.2) (one.valid.types 0 node.0 node.1)

  module _ (g : List Node) (p : ℕ) (over : IsPatternOver sig g) (typed : agent_at g p ≡ agent_at v 0) where
    -- a node of its type has its sites
    pub HasNodeSite-moved : (s : ℕ) → HasNodeSite v 0 s → HasNodeSite g p s
    HasNodeSite-moved s has =
        let a = type_of_node_site v 0 s has in
        HasNodeSite-over sig g over p a.0 s (typed ∙ a.1) (HasSite-over sig v one.valid 0 a.0 s a.1 has)

    pub HasNodeSite-back : (s : ℕ) → HasNodeSite g p s → HasNodeSite v 0 s
    HasNodeSite-back s has =
        let a = type_of_node_site g p s has in
        HasNodeSite-over sig v one.valid 0 a.0 s (sym typed ∙ a.1) (HasSite-over sig g over p a.0 s a.1 has)

  -- the sites of its type are all of its sites
  pub HasNodeSite-below : (a s : ℕ) → agent_at v 0 ≡ Some a → s < length (state_counts sig a) → HasNodeSite v 0 s
  HasNodeSite-below a s typed within = HasNodeSite-over sig v one.valid 0 a s typed within

  -- and it asks for nothing at others
  site_or_untested : (a s : ℕ) → agent_at v 0 ≡ Some a → (s < length (state_counts sig a)) ⊎ ((state_test v 0 s ≡ state.Any) × (link_test v 0 s ≡ link.Any))
  site_or_untested a s typed = elim (site_or_any v 0 s) [
    | inl x ↦ inl (HasSite-over sig v one.valid 0 a s typed (rw x.1 refl))
    | inr none ↦ inr none
  ]

  pub below_tested : (a s : ℕ) → agent_at v 0 ≡ Some a → (state_test v 0 s ≢ state.Any) ⊎ (link_test v 0 s ≢ link.Any) → s < length (state_counts sig a)
  below_tested a s typed tested =
      elim (site_or_untested a s typed) [
        | inl within ↦ within
        | inr none ↦ absurd (elim tested [ inl some ↦ some none.0 | inr some ↦ some none.1 ])
      ]

  pub StandsAt-all : (a p n : ℕ) (g : List Node) → agent_at v 0 ≡ Some a → length (state_counts sig a) ≤ n → ((s : ℕ) → s < n → SiteStands v p s g) → StandsAt v p g
  StandsAt-all a p n g typed past all s =
      elim (site_or_untested a s typed) [
        | inl within ↦ all s (omega arith)
        | inr none ↦ rw (none.0, none.1) (tt, tt)
      ]
