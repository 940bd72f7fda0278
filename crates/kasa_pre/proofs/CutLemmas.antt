-- Laws of the pattern that is cut out of a mixture: it is valid, and implies each test that is met.
use Rattle.std.proofs.Common.{◌≡◌, ◌≢◌, ℕ, ◌<◌, inl, inr, List, [], ◌∷◌, refl, sym, ap, ◌∙◌, length, map}
use Rattle.std.specs.Prelude.{Option, Some, None, slice_get, option_map, option_and_then}
use Rattle.std.specs.Option.{option_map_or}
use Rattle.std.proofs.lemmas.Option.{slice_get_within, some_pair_parts}
use Rattle.kasa_graph.specs.declared.pattern.Node.{Node}
use Rattle.kasa_graph.specs.declared.pattern.SiteTests.{SiteTests}
use Rattle.kasa_graph.specs.declared.mixture.Agent.{Agent}
use Rattle.kasa_graph.specs.declared.mixture.AgentSite.{AgentSite}
use Rattle.kasa_graph.specs.Signature.{TypeEntry}
use Rattle.kasa_graph.specs.declared.pattern.StateTest.{StateTest}
use Rattle.kasa_graph.specs.declared.pattern.StateTest.TheVariants as state
use Rattle.kasa_graph.specs.declared.pattern.LinkTest.{LinkTest}
use Rattle.kasa_graph.specs.declared.pattern.LinkTest.TheVariants.{Any, Free, Bound, Partner, To}
use Rattle.kasa_graph.specs.Lists.{AllDifferent}
use Rattle.kasa_graph.specs.Signature.{state_counts}
use Rattle.kasa_graph.specs.Pattern.{state_test, link_test, StateImplies, IsPatternOver}
use Rattle.kasa_graph.specs.Mixture.{agent_in, type_in, site_in, state_in, partner_in, IsMixtureOver}
use Rattle.kasa_graph.specs.Embedding.{MeetsState, MeetsLink}
use Rattle.kasa_rules.specs.Firing.{node_on}
use Rattle.kasa_graph.proofs.ListLemmas.{some_then, some_at}
use Rattle.kasa_rules.proofs.FiringLemmas.{node_on-at, node_on-found}
use Rattle.kasa_pre.specs.Place.{ImpliesAt}
use Rattle.kasa_rules.proofs.FiredLemmas.{agent_of_type, site_of_partner, type_of_partner, type_within}
use Rattle.kasa_graph.proofs.ShapeLemmas.{site_or_any, node_of_site}
use Rattle.kasa_pre.proofs.ShapeLemmas.{count_of_site}
use Rattle.kasa_pre.proofs.Cut.{cut, cut_state, cut_partner, cut_link, cut_site, cut_agent, cut_node, no_node, slice_get-cut, site_at-cut, cut_type, cut_states, cut_links, length-cut}

module _ (m : List (Option Agent)) (cells : List ℕ) where
  pub state_test-cut : (n c s : ℕ) → slice_get cells n ≡ Some c → state_test (cut m cells) n s ≡ cut_state (state_in m c s)
  unfolding state_test state_in
  state_test-cut n c s e = rw (site_at-cut m cells n c s e) (by_site (site_in m c s))
    where
      by_site : (o : Option AgentSite) → option_map_or (λ (x : SiteTests). x.state) (option_map (cut_site m cells) o) state.Any ≡ cut_state (option_and_then (λ (x : AgentSite). x.state) o)
      by_site None = refl
      by_site (Some x) = refl

  pub link_test-cut : (n c s : ℕ) (x : AgentSite) → slice_get cells n ≡ Some c → site_in m c s ≡ Some x → link_test (cut m cells) n s ≡ cut_link m cells (partner_in m c s)
  unfolding link_test partner_in
  link_test-cut n c s x e is = rw (site_at-cut m cells n c s e, is) refl

  -- a bond within the cells is named
  pub bond_in_cut : AllDifferent cells → (n c s d t k : ℕ) → slice_get cells n ≡ Some c → partner_in m c s ≡ Some (d, t) → slice_get cells k ≡ Some d → link_test (cut m cells) n s ≡ To k t
  bond_in_cut different n c s d t k here bound there =
      let x = site_of_partner m c s d t bound in
      link_test-cut n c s x.0 here x.1 ∙ rw (bound, node_on-at cells d k different there) refl

  -- the cell of a node of the cut
  cell_of_node : (n : ℕ) (node : Node) → slice_get (cut m cells) n ≡ Some node → (c : ℕ) × (slice_get cells n ≡ Some c) × (node ≡ cut_node m cells c)
  cell_of_node n node e =
      let c = some_at cells n (rw (← length-cut m cells) (slice_get_within (cut m cells) n node e)) in
      let is : Some node ≡ Some (cut_node m cells c.0) = sym e ∙ slice_get-cut m cells n c.0 c.1 in
      (c.0, c.1, cc)

  cell_of_state : (n s u : ℕ) → state_test (cut m cells) n s ≡ state.Is u → (c : ℕ) × (slice_get cells n ≡ Some c) × (state_in m c s ≡ Some u)
  cell_of_state n s u e =
      elim (site_or_any (cut m cells) n s) [
        | inl x ↦
            let node = node_of_site (cut m cells) n s x.0 x.1 in
            let c = cell_of_node n node.0 node.1 in
            (c.0, c.1, rw e at (cut_states m cells n c.0 s c.1))
        | inr none ↦ let any = none.0 in absurd cc
      ]

  -- the cell of a node with a link test
  cell_of_link : (n s : ℕ) (test : LinkTest) → link_test (cut m cells) n s ≡ test → test ≢ Any → (c : ℕ) × (slice_get cells n ≡ Some c) × MeetsLink m cells (partner_in m c s) test
  cell_of_link n s test e some =
      elim (site_or_any (cut m cells) n s) [
        | inl x ↦
            let node = node_of_site (cut m cells) n s x.0 x.1 in
            let c = cell_of_node n node.0 node.1 in
            (c.0, c.1, rw e at (cut_links m cells n c.0 s c.1))
        | inr none ↦ absurd (some (sym e ∙ none.1))
      ]

module _ (sig : List TypeEntry) (m : List (Option Agent)) (over : IsMixtureOver sig m) (cells : List ℕ) (different : AllDifferent cells) (alive : (n c : ℕ) → slice_get cells n ≡ Some c → (a : ℕ) × (type_in m c ≡ Some a)) where
  -- the node and the agent of a cell
  agent_of_node : (n : ℕ) (node : Node) → slice_get (cut m cells) n ≡ Some node → (c : ℕ) × (a : Agent) × (slice_get cells n ≡ Some c) × (agent_in m c ≡ Some a) × (node ≡ cut_agent m cells a)
  agent_of_node n node e =
      let c = cell_of_node m cells n node e in
      let b = alive n c.0 c.1 in
      let a = agent_of_type m c.0 b.0 b.1 in
      (c.0, a.0, c.1, a.1, c.2 ∙ ap (λ (o : Option Agent). option_map_or (cut_agent m cells) o no_node) a.1)

  states-cut : (sites : List AgentSite) → map (λ (x : SiteTests). x.states) (map (cut_site m cells) sites) ≡ map (λ (x : AgentSite). x.states) sites
  states-cut [] = refl
  states-cut (x ∷ sites) = ap (λ (ks : List ℕ). x.states ∷ ks) (states-cut sites)

  -- the cut is a valid pattern
  pub IsPatternOver-cut : IsPatternOver sig (cut m cells)
  unfolding state_in
  IsPatternOver-cut = record {
    linked = record {
      both_ways = λ n s k t e.
          let c = cell_of_link m cells n s (To k t) e (λ f. cc) in
          bond_in_cut m cells different k c.2.0 t c.0 s n c.2.2 (over.linked.both_ways c.0 s c.2.0 t c.2.1) c.1;
      apart = λ n s e.
          let c = cell_of_link m cells n s (To n s) e (λ f. cc) in
          let same : Some c.2.0 ≡ Some c.0 = sym c.2.2 ∙ c.1 in
          let cell : c.2.0 ≡ c.0 = cc in
          over.linked.apart c.0 s (c.2.1 ∙ ap (λ (d : ℕ). let o : Option (ℕ × ℕ) = Some (d, s) in o) cell);
    };
    types = λ n node e. let a = agent_of_node n node e in rw a.4 (over.types a.0 a.1 a.3);
    sites = λ n node e. let a = agent_of_node n node e in rw a.4 (states-cut a.1.sites ∙ over.sites a.0 a.1 a.3);
    states = λ n s u a typed e.
        let c = cell_of_state m cells n s u e in
        let x = some_then (λ (y : AgentSite). y.state) (site_in m c.0 s) u c.2 in
        let b = alive n c.0 c.1 in
        let same : Some b.0 ≡ Some a = sym (cut_type m cells n c.0 b.0 c.1 b.1) ∙ typed in
        let agent : b.0 ≡ a = cc in
        (x.0.states, count_of_site sig m over c.0 s a x.0 x.1 (b.1 ∙ ap Some agent), (over.states c.0 s x.0 x.1).within u x.2);
    partners = λ n s b y e.
        let c = cell_of_link m cells n s (Partner b y) e (λ f. cc) in
        let back = over.linked.both_ways c.0 s c.2.0 y c.2.1 in
        let x = site_of_partner m c.2.0 y c.0 s back in
        slice_get_within (state_counts sig b) y x.0.states (count_of_site sig m over c.2.0 y b x.0 x.1 c.2.2);
  }

  state_implied : (o : Option ℕ) (b : StateTest) → MeetsState o b → StateImplies (cut_state o) b
  state_implied o state.Any p = tt
  state_implied (Some u) (state.Is w) p = cc
  state_implied None (state.Is w) p = absurd cc

  -- the cut implies a state test that is met
  pub StateImplies-cut : (n c s : ℕ) (b : StateTest) → slice_get cells n ≡ Some c → MeetsState (state_in m c s) b → StateImplies (state_test (cut m cells) n s) b
  StateImplies-cut n c s b e met = rw (state_test-cut m cells n c s e) (state_implied (state_in m c s) b met)

  -- the cut implies a link test that is met where the nodes of `To` lie on other cells, and have the given places in the cut
  module _ (others : List ℕ) (place : ℕ → Option ℕ) (placed : (j d : ℕ) → slice_get others j ≡ Some d → d < length m → (p : ℕ) × (place j ≡ Some p) × (slice_get cells p ≡ Some d)) where
    partner_implied : (d t : ℕ) (b : LinkTest) → (a : ℕ) → type_in m d ≡ Some a → (n : Option ℕ) → node_on cells d ≡ n → MeetsLink m others (Some (d, t)) b → ImpliesAt (cut m cells) place (cut_partner n (type_in m d) t) b
    partner_implied d t Any a e n f met = tt
    partner_implied d t Free a e n f met = absurd cc
    partner_implied d t Bound a e (Some n) f met = tt
    partner_implied d t Bound a e None f met = rw e tt
    partner_implied d t (Partner b y) a e (Some k) f met =
        let same = some_pair_parts d met.0 t y met.1 in
        (cut_type m cells k d b (node_on-found cells d k f) (ap (type_in m) same.0 ∙ met.2), same.1)
    partner_implied d t (Partner b y) a e None f met =
        let same = some_pair_parts d met.0 t y met.1 in
        rw (same.0, met.2) (refl, same.1)
    partner_implied d t (To j y) a e n f met =
        let same = some_pair_parts d met.0 t y met.1 in
        let p = placed j d (met.2 ∙ ap Some (sym same.0)) (type_within m d a e) in
        let named : n ≡ Some p.0 = sym f ∙ node_on-at cells d p.0 different p.2 in
        (p.0, p.1, ap (λ (o : Option ℕ). cut_partner o (type_in m d) t) named ∙ ap (λ (u : ℕ). To p.0 u) same.1)

    link_implied : (o : Option (ℕ × ℕ)) → ((d t : ℕ) → o ≡ Some (d, t) → (a : ℕ) × (type_in m d ≡ Some a)) → (b : LinkTest) → MeetsLink m others o b → ImpliesAt (cut m cells) place (cut_link m cells o) b
    link_implied None typed Any met = tt
    link_implied None typed Free met = tt
    link_implied None typed Bound met = absurd (let e = met.2 in cc)
    link_implied None typed (Partner b y) met = absurd (let e = met.1 in cc)
    link_implied None typed (To j y) met = absurd (let e = met.1 in cc)
    link_implied (Some p) typed b met =
        let a = typed p.0 p.1 refl in
        partner_implied p.0 p.1 b a.0 a.1 (node_on cells p.0) refl met

    pub ImpliesAt-cut : (n c s : ℕ) (x : AgentSite) (b : LinkTest) → slice_get cells n ≡ Some c → site_in m c s ≡ Some x → MeetsLink m others (partner_in m c s) b → ImpliesAt (cut m cells) place (link_test (cut m cells) n s) b
    ImpliesAt-cut n c s x b e is met =
        rw (link_test-cut m cells n c s x e is) (link_implied (partner_in m c s) (λ d t bound. type_of_partner m d t c s (over.linked.both_ways c s d t bound)) b met)
