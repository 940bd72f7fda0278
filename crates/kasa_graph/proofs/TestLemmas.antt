-- What a pattern tests at each site: after a change at one site, and at nodes without tests.
use Rattle.std.proofs.Common.{◌≡◌, ◌≢◌, ℕ, zero, suc, inl, inr, List, [], ◌∷◌, refl, sym, ap, ◌∙◌, map, length, ◌<◌, arith}
use Rattle.std.specs.Prelude.{Option, Some, None, IsSome, slice_get, option_map, option_and_then}
use Rattle.std.specs.Option.{option_map_or}
use Rattle.std.proofs.lemmas.List.{length-map}
use Rattle.std.proofs.lemmas.Option.{slice_get-map}
use Rattle.kasa_graph.specs.declared.pattern.StateTest.{StateTest}
use Rattle.kasa_graph.specs.declared.pattern.StateTest.TheVariants as state
use Rattle.kasa_graph.specs.declared.pattern.LinkTest.{LinkTest}
use Rattle.kasa_graph.specs.declared.pattern.LinkTest.TheVariants.{Any, To}
use Rattle.kasa_graph.specs.declared.pattern.SiteTests.{SiteTests}
use Rattle.kasa_graph.specs.declared.pattern.Node.{Node}
use Rattle.kasa_graph.specs.Signature.{TypeEntry}
use Rattle.kasa_graph.specs.Signature.{state_counts, HasSite}
use Rattle.kasa_graph.specs.Pattern.{blank_site, blank_node, agent_at, site_at, link_test, state_test, types_of, with_site, with_link, with_state, with_bond, HasNodeSite}
use Rattle.kasa_lists.proofs.Numbers.{same_both_or_not}
use Rattle.kasa_graph.proofs.PatternLemmas.{site_at-with_site_same, site_at-with_site_other, link_test-with_link_same, link_test-with_link_other, HasNodeSite-with_link}

-- ---- types

pub agent_at-types : (g : List Node) (n : ℕ) → agent_at g n ≡ slice_get (types_of g) n
unfolding agent_at
agent_at-types g n = sym (slice_get-map (λ (node : Node). node.agent) g n)

pub length-types : (g : List Node) → length g ≡ length (types_of g)
length-types g = sym (length-map g (λ (node : Node). node.agent))

pub agent_at-same : (g h : List Node) → types_of h ≡ types_of g → (n : ℕ) → agent_at h n ≡ agent_at g n
agent_at-same g h same n = agent_at-types h n ∙ ap (λ (ts : List ℕ). slice_get ts n) same ∙ sym (agent_at-types g n)

pub types_of-with_site : (g : List Node) (n s : ℕ) (f : SiteTests → SiteTests) → types_of (with_site g n s f) ≡ types_of g
types_of-with_site [] n s f = refl
types_of-with_site (node ∷ g) zero s f = refl
types_of-with_site (node ∷ g) (suc n) s f = ap (λ (ts : List ℕ). node.agent ∷ ts) (types_of-with_site g n s f)

pub types_of-with_state : (g : List Node) (n s : ℕ) (t : StateTest) → types_of (with_state g n s t) ≡ types_of g
unfolding with_state
types_of-with_state g n s t = types_of-with_site g n s (λ x. record x { state = t })

pub types_of-with_link : (g : List Node) (n s : ℕ) (t : LinkTest) → types_of (with_link g n s t) ≡ types_of g
unfolding with_link
types_of-with_link g n s t = types_of-with_site g n s (λ x. record x { link = t })

pub types_of-with_bond : (g : List Node) (n s m t : ℕ) → types_of (with_bond g n s m t) ≡ types_of g
types_of-with_bond g n s m t = types_of-with_link _ m t (To n s) ∙ types_of-with_link g n s (To m t)

-- ---- a change of a state test

link_keeps_state : (o : Option SiteTests) (t : LinkTest) (p : Option SiteTests) → p ≡ option_map (λ (x : SiteTests). record x { link = t }) o → option_map_or (λ (x : SiteTests). x.state) p state.Any ≡ option_map_or (λ (x : SiteTests). x.state) o state.Any
link_keeps_state None t p e = rw e
link_keeps_state (Some x) t p e = rw e

pub state_test-with_link : (g : List Node) (n s : ℕ) (t : LinkTest) (k u : ℕ) → state_test (with_link g n s t) k u ≡ state_test g k u
unfolding state_test with_link
state_test-with_link g n s t k u =
    elim (same_both_or_not n s k u) [
      | inl e ↦ rw (← e.0, ← e.1) (link_keeps_state (site_at g n s) t _ (site_at-with_site_same g n s (λ x. record x { link = t })))
      | inr ne ↦ rw (site_at-with_site_other g n s k u (λ x. record x { link = t }) ne)
    ]

state_of_changed : (o : Option SiteTests) (t : StateTest) → IsSome o → (p : Option SiteTests) → p ≡ option_map (λ (x : SiteTests). record x { state = t }) o → (x : SiteTests) × (p ≡ Some x) × (x.state ≡ t)
state_of_changed None t some p e = absurd cc
state_of_changed (Some x) t some p e = (record x { state = t }, e, refl)

pub state_test-with_state_same : (g : List Node) (n s : ℕ) (t : StateTest) → HasNodeSite g n s → state_test (with_state g n s t) n s ≡ t
unfolding state_test with_state
state_test-with_state_same g n s t has =
    let changed = state_of_changed (site_at g n s) t has _ (site_at-with_site_same g n s (λ x. record x { state = t })) in
    rw changed.1 changed.2

pub state_test-with_state_other : (g : List Node) (n s k u : ℕ) (t : StateTest) → (n ≡ k → s ≢ u) → state_test (with_state g n s t) k u ≡ state_test g k u
unfolding state_test with_state
state_test-with_state_other g n s k u t ne = rw (site_at-with_site_other g n s k u (λ x. record x { state = t }) ne)

pub HasNodeSite-with_state : (g : List Node) (n s k u : ℕ) (t : StateTest) → HasNodeSite g k u → HasNodeSite (with_state g n s t) k u
unfolding with_state
HasNodeSite-with_state g n s k u t has =
    elim (same_both_or_not n s k u) [
      | inl e ↦ let there : HasNodeSite g n s = rw (e.0, e.1) has in
          let changed = state_of_changed (site_at g n s) t there _ (site_at-with_site_same g n s (λ x. record x { state = t })) in
          rw (← e.0, ← e.1) (rw changed.1 refl)
      | inr ne ↦ rw (site_at-with_site_other g n s k u (λ x. record x { state = t }) ne) has
    ]

-- ---- bonds

pub HasNodeSite-with_bond : (g : List Node) (n s m t k u : ℕ) → HasNodeSite g k u → HasNodeSite (with_bond g n s m t) k u
HasNodeSite-with_bond g n s m t k u has = HasNodeSite-with_link _ m t k u (To n s) (HasNodeSite-with_link g n s k u (To m t) has)

pub state_test-with_bond : (g : List Node) (n s m t k u : ℕ) → state_test (with_bond g n s m t) k u ≡ state_test g k u
state_test-with_bond g n s m t k u = state_test-with_link _ m t (To n s) k u ∙ state_test-with_link g n s (To m t) k u

pub link_test-with_bond_other : (g : List Node) (n s m t k u : ℕ) → (n ≡ k → s ≢ u) → (m ≡ k → t ≢ u) → link_test (with_bond g n s m t) k u ≡ link_test g k u
link_test-with_bond_other g n s m t k u first second = link_test-with_link_other _ m t k u (To n s) second ∙ link_test-with_link_other g n s k u (To m t) first

pub link_test-with_bond_first : (g : List Node) (n s m t : ℕ) → HasNodeSite g n s → (n ≡ m → s ≢ t) → link_test (with_bond g n s m t) n s ≡ To m t
link_test-with_bond_first g n s m t has differ = link_test-with_link_other _ m t n s (To n s) (λ e f. differ (sym e) (sym f)) ∙ link_test-with_link_same g n s (To m t) has

pub link_test-with_bond_second : (g : List Node) (n s m t : ℕ) → HasNodeSite g m t → link_test (with_bond g n s m t) m t ≡ To n s
link_test-with_bond_second g n s m t has = link_test-with_link_same _ m t (To n s) (HasNodeSite-with_link g n s m t (To m t) has)

-- ---- nodes without tests

module _ (sig : List TypeEntry) (types : List ℕ) where
  site_at-blank : (n s : ℕ) → site_at (map (blank_node sig) types) n s ≡ option_map blank_site (option_and_then (λ (a : ℕ). slice_get (state_counts sig a) s) (slice_get types n))
  unfolding site_at blank_node
  site_at-blank n s = rw (slice_get-map (blank_node sig) types n) (by_type (slice_get types n))
    where
      by_type : (o : Option ℕ) → option_and_then (λ (node : Node). slice_get node.sites s) (option_map (blank_node sig) o) ≡ option_map blank_site (option_and_then (λ (a : ℕ). slice_get (state_counts sig a) s) o)
      by_type None = refl
      by_type (Some a) = slice_get-map blank_site (state_counts sig a) s

  pub state_test-blank : (n s : ℕ) → state_test (map (blank_node sig) types) n s ≡ state.Any
  unfolding state_test
  state_test-blank n s = rw (site_at-blank n s) (none (option_and_then (λ (a : ℕ). slice_get (state_counts sig a) s) (slice_get types n)))
    where
      none : (o : Option ℕ) → option_map_or (λ (x : SiteTests). x.state) (option_map blank_site o) state.Any ≡ state.Any
      none None = refl
      none (Some k) = refl

  pub link_test-blank : (n s : ℕ) → link_test (map (blank_node sig) types) n s ≡ Any
  unfolding link_test
  link_test-blank n s = rw (site_at-blank n s) (none (option_and_then (λ (a : ℕ). slice_get (state_counts sig a) s) (slice_get types n)))
    where
      none : (o : Option ℕ) → option_map_or (λ (x : SiteTests). x.link) (option_map blank_site o) Any ≡ Any
      none None = refl
      none (Some k) = refl

  pub HasNodeSite-blank : (n s a : ℕ) → slice_get types n ≡ Some a → HasSite sig a s → HasNodeSite (map (blank_node sig) types) n s
  HasNodeSite-blank n s a is has = rw (site_at-blank n s, is) (some_mapped (state_counts sig a) s has)
    where
      some_mapped : (ks : List ℕ) (i : ℕ) → i < length ks → IsSome (option_map blank_site (slice_get ks i))
      some_mapped [] i h = absurd (omega arith)
      some_mapped (k ∷ ks) zero h = refl
      some_mapped (k ∷ ks) (suc i) h = some_mapped ks i (omega arith)

  pub types_of-blank : types_of (map (blank_node sig) types) ≡ types
  unfolding blank_node
  types_of-blank = all types
    where
      all : (ts : List ℕ) → map (λ (node : Node). node.agent) (map (blank_node sig) ts) ≡ ts
      all [] = refl
      all (t ∷ ts) = ap (λ (rest : List ℕ). t ∷ rest) (all ts)
