-- A pattern over a signature is one still after a new node and after other tests that exist in the signature.
use Rattle.std.proofs.Common.{◌≡◌, ◌≢◌, ◌∙◌, ◌<◌, ℕ, zero, suc, ◌⊎◌, inl, inr, List, [], ◌∷◌, ◌++◌, length, map, refl, sym, ap}
use Rattle.std.specs.Prelude.{Some, slice_get}
use Rattle.std.specs.Option.{option_map_or}
use Rattle.kasa_graph.specs.declared.pattern.StateTest.{StateTest}
use Rattle.kasa_graph.specs.declared.pattern.StateTest.TheVariants as state
use Rattle.kasa_graph.specs.declared.pattern.LinkTest.{LinkTest}
use Rattle.kasa_graph.specs.declared.pattern.LinkTest.TheVariants.{Any, Free, Bound, Partner, To}
use Rattle.kasa_graph.specs.declared.pattern.SiteTests.{SiteTests}
use Rattle.kasa_graph.specs.declared.pattern.Node.{Node}
use Rattle.kasa_graph.specs.declared.refine.Test.{Test}
use Rattle.kasa_graph.specs.declared.refine.Test.TheVariants.{State, Link}
use Rattle.kasa_graph.specs.Meet.{with_test}
use Rattle.kasa_graph.specs.Signature.{TypeEntry, state_counts, HasSite, HasState}
use Rattle.kasa_graph.specs.Pattern.{types_of, blank_site, blank_node, agent_at, site_at, state_test, link_test, with_state, with_link, with_bond, HasNodeSite, IsNoBond, IsPattern, IsPatternOver}
use Rattle.kasa_graph.proofs.ShapeLemmas.{IsShaped, IsShaped-with_state, IsShaped-with_link, IsShaped-with_bond, counts-blank, IsShaped-blank, agent_at-node, node_of_agent}
use Rattle.kasa_lists.proofs.Numbers.{same_both_or_not}
use Rattle.kasa_lists.proofs.Elements.{at_push}
use Rattle.kasa_graph.proofs.PatternLemmas.{IsPattern-[], link_test-push_blank, link_test-with_state, link_test-with_link, link_test-with_bond, IsPattern-same_links, IsPattern-with_link, IsPattern-with_bond, HasNodeSite-with_link}
use Rattle.kasa_graph.proofs.TestLemmas.{agent_at-same, agent_at-types, types_of-blank, state_test-blank, link_test-blank, types_of-with_state, types_of-with_link, types_of-with_bond, state_test-with_link, state_test-with_state_same, state_test-with_state_other, state_test-with_bond, link_test-with_bond_first, link_test-with_bond_second}

-- ---- types of nodes

-- where no node gets another type, the types stay the signature's
module _ (sig : List TypeEntry) (g h : List Node) (known : (n : ℕ) (node : Node) → slice_get g n ≡ Some node → node.agent < length sig) (same : types_of h ≡ types_of g) where
  types_stay : (n : ℕ) (node : Node) → slice_get h n ≡ Some node → node.agent < length sig
  types_stay n node e =
      let old = node_of_agent g n node.agent (sym (agent_at-same g h same n) ∙ agent_at-node h n node e) in
      rw (← old.2) (known n old.0 old.1)

-- ---- patterns without tests

-- each of the types is one of the signature's
abbrev pub AreKnown : List TypeEntry → List ℕ → Type 0
AreKnown sig types = (n a : ℕ) → slice_get types n ≡ Some a → a < length sig

pub AreKnown-[] : (sig : List TypeEntry) → AreKnown sig []
AreKnown-[] sig n a e = absurd cc

pub AreKnown-cons : (sig : List TypeEntry) (a : ℕ) (types : List ℕ) → a < length sig → AreKnown sig types → AreKnown sig (a ∷ types)
AreKnown-cons sig a types known rest zero b e = let same : a ≡ b = cc in rw (← same) known
AreKnown-cons sig a types known rest (suc n) b e = rest n b e

pub IsPatternOver-blank : (sig : List TypeEntry) (types : List ℕ) → AreKnown sig types → IsPatternOver sig (map (blank_node sig) types)
IsPatternOver-blank sig types known = record {
  linked = record { both_ways = λ n s m t e. absurd (let h = link_test-blank sig types n s in cc); apart = λ n s e. let h = link_test-blank sig types n s in cc };
  types = λ n node e. known n node.agent (ap (λ (ts : List ℕ). slice_get ts n) (sym (types_of-blank sig types)) ∙ sym (agent_at-types (map (blank_node sig) types) n) ∙ agent_at-node (map (blank_node sig) types) n node e);
  sites = IsShaped-blank sig types;
  states = λ n s u a is e. absurd (let h = state_test-blank sig types n s in cc);
  partners = λ n s b y e. absurd (let h = link_test-blank sig types n s in cc);
}

-- ---- the calls of `Pattern`

pub IsPatternOver-[] : (sig : List TypeEntry) → IsPatternOver sig []
unfolding state_test link_test site_at agent_at
IsPatternOver-[] sig = record {
  linked = IsPattern-[];
  types = λ n node at. absurd cc;
  sites = λ n node at. absurd cc;
  states = λ n s u a typed is. absurd cc;
  partners = λ n s b y is. absurd cc;
}

no_states : (counts : List ℕ) (s : ℕ) → option_map_or (λ (x : SiteTests). x.state) (slice_get (map blank_site counts) s) state.Any ≡ state.Any
no_states [] s = refl
no_states (k ∷ counts) zero = refl
no_states (k ∷ counts) (suc s) = no_states counts s

-- a test of a state is one of the nodes before
old_state : (sig : List TypeEntry) (a : ℕ) (g : List Node) (n s u b : ℕ) → agent_at (g ++ blank_node sig a ∷ []) n ≡ Some b → state_test (g ++ blank_node sig a ∷ []) n s ≡ state.Is u →
    (agent_at g n ≡ Some b) × (state_test g n s ≡ state.Is u)
unfolding state_test site_at agent_at blank_node
old_state sig a [] zero s u b typed is = let none = no_states (state_counts sig a) s in absurd cc
old_state sig a [] (suc n) s u b typed is = absurd cc
old_state sig a (node ∷ g) zero s u b typed is = (typed, is)
old_state sig a (node ∷ g) (suc n) s u b typed is = old_state sig a g n s u b typed is

pub IsPatternOver-add_node : (sig : List TypeEntry) (a : ℕ) (g : List Node) → IsPatternOver sig g → a < length sig → IsPatternOver sig (g ++ blank_node sig a ∷ [])
unfolding blank_node
IsPatternOver-add_node sig a g over known = record {
  linked = IsPattern-same_links g (g ++ blank_node sig a ∷ []) (link_test-push_blank sig a g) over.linked;
  types = λ n node at. elim (at_push g (blank_node sig a) node n at) [ inl e ↦ over.types n node e | inr e ↦ rw (← e.1) known ];
  sites = λ n node at. elim (at_push g (blank_node sig a) node n at) [ inl e ↦ over.sites n node e | inr e ↦ rw (← e.1) (counts-blank (state_counts sig a)) ];
  states = λ n s u b typed is. let old = old_state sig a g n s u b typed is in over.states n s u b old.0 old.1;
  partners = λ n s b y is. over.partners n s b y (sym (link_test-push_blank sig a g n s) ∙ is);
}

pub IsPatternOver-with_state : (sig : List TypeEntry) (g : List Node) (n s : ℕ) (test : StateTest) → IsPatternOver sig g → HasNodeSite g n s →
    ((u a : ℕ) → test ≡ state.Is u → agent_at g n ≡ Some a → HasState sig a s u) → IsPatternOver sig (with_state g n s test)
IsPatternOver-with_state sig g n s test over has exists = record {
  linked = IsPattern-same_links g (with_state g n s test) (link_test-with_state g n s test) over.linked;
  types = types_stay sig g (with_state g n s test) over.types (types_of-with_state g n s test);
  sites = IsShaped-with_state sig g n s test over.sites;
  states = λ k v u a typed is. state_there k v u a (sym (agent_at-same g (with_state g n s test) (types_of-with_state g n s test) k) ∙ typed) is (same_both_or_not n s k v);
  partners = λ k v b y is. over.partners k v b y (sym (link_test-with_state g n s test k v) ∙ is);
}
  where
    state_there : (k v u a : ℕ) → agent_at g k ≡ Some a → state_test (with_state g n s test) k v ≡ state.Is u → (n ≡ k) × (s ≡ v) ⊎ (n ≡ k → s ≢ v) → HasState sig a v u
    state_there k v u a typed is (inl e) = rw (← e.1) (exists u a (sym (state_test-with_state_same g n s test has) ∙ rw (← e.0, ← e.1) at is) (rw (← e.0) at typed))
    state_there k v u a typed is (inr ne) = over.states k v u a typed (sym (state_test-with_state_other g n s k v test ne) ∙ is)

pub IsPatternOver-with_link : (sig : List TypeEntry) (g : List Node) (n s : ℕ) (test : LinkTest) → IsPatternOver sig g → HasNodeSite g n s → IsNoBond (link_test g n s) → IsNoBond test →
    ((b y : ℕ) → test ≡ Partner b y → HasSite sig b y) → IsPatternOver sig (with_link g n s test)
IsPatternOver-with_link sig g n s test over has old new exists = record {
  linked = IsPattern-with_link g n s test over.linked has old new;
  types = types_stay sig g (with_link g n s test) over.types (types_of-with_link g n s test);
  sites = IsShaped-with_link sig g n s test over.sites;
  states = λ k v u a typed is. over.states k v u a (sym (agent_at-same g (with_link g n s test) (types_of-with_link g n s test) k) ∙ typed) (sym (state_test-with_link g n s test k v) ∙ is);
  partners = λ k v b y is. elim (link_test-with_link g n s k v test has) [ inl here ↦ exists b y (sym here.2 ∙ is) | inr out ↦ over.partners k v b y (sym out.1 ∙ is) ];
}

pub IsPatternOver-with_bond : (sig : List TypeEntry) (g : List Node) (n s m t : ℕ) → IsPatternOver sig g → HasNodeSite g n s → HasNodeSite g m t → (n ≡ m → s ≢ t) →
    IsNoBond (link_test g n s) → IsNoBond (link_test g m t) → IsPatternOver sig (with_bond g n s m t)
IsPatternOver-with_bond sig g n s m t over first second differ open_first open_second = record {
  linked = IsPattern-with_bond g n s m t first second differ over.linked open_first open_second;
  types = types_stay sig g (with_bond g n s m t) over.types (types_of-with_bond g n s m t);
  sites = IsShaped-with_bond sig g n s m t over.sites;
  states = λ k v u a typed is. over.states k v u a (sym (agent_at-same g (with_bond g n s m t) (types_of-with_bond g n s m t) k) ∙ typed) (sym (state_test-with_bond g n s m t k v) ∙ is);
  partners = λ k v b y is. partner k v b y is (link_test-with_bond g n s m t first second differ k v);
}
  where
    no_partner : (i j b y : ℕ) → To i j ≡ Partner b y → ⊥
    no_partner i j b y e = cc

    partner : (k v b y : ℕ) → link_test (with_bond g n s m t) k v ≡ Partner b y → ((n ≡ k) × (s ≡ v)) ⊎ (((m ≡ k) × (t ≡ v)) ⊎ (link_test (with_bond g n s m t) k v ≡ link_test g k v)) → HasSite sig b y
    partner k v b y is (inl e) = absurd (no_partner m t b y (sym (link_test-with_bond_first g n s m t first differ) ∙ rw (← e.0, ← e.1) at is))
    partner k v b y is (inr (inl e)) = absurd (no_partner n s b y (sym (link_test-with_bond_second g n s m t second) ∙ rw (← e.0, ← e.1) at is))
    partner k v b y is (inr (inr e)) = over.partners k v b y (sym e ∙ is)

-- ---- any test, where bonds stay mutual

-- all that a pattern over a signature has, but that its bonds are mutual
record HasKnownParts (sig : List TypeEntry) (g : List Node) : Type 0 where
  pub types : (n : ℕ) (node : Node) → slice_get g n ≡ Some node → node.agent < length sig
  pub sites : IsShaped sig g
  pub states : (n s u a : ℕ) → agent_at g n ≡ Some a → state_test g n s ≡ state.Is u → HasState sig a s u
  pub partners : (n s b y : ℕ) → link_test g n s ≡ Partner b y → HasSite sig b y

HasKnownParts-with_link : (sig : List TypeEntry) (g : List Node) (n s : ℕ) (test : LinkTest) → HasKnownParts sig g → HasNodeSite g n s → ((b y : ℕ) → test ≡ Partner b y → HasSite sig b y) → HasKnownParts sig (with_link g n s test)
HasKnownParts-with_link sig g n s test known has exists = record {
  types = types_stay sig g (with_link g n s test) known.types (types_of-with_link g n s test);
  sites = IsShaped-with_link sig g n s test known.sites;
  states = λ k v u a typed is. known.states k v u a (sym (agent_at-same g (with_link g n s test) (types_of-with_link g n s test) k) ∙ typed) (sym (state_test-with_link g n s test k v) ∙ is);
  partners = λ k v b y is. elim (link_test-with_link g n s k v test has) [ inl here ↦ exists b y (sym here.2 ∙ is) | inr out ↦ known.partners k v b y (sym out.1 ∙ is) ];
}

over_of : (sig : List TypeEntry) (g : List Node) → IsPattern g → HasKnownParts sig g → IsPatternOver sig g
over_of sig g linked known = record { linked = linked; types = known.types; sites = known.sites; states = known.states; partners = known.partners }

pub IsPatternOver-with_test : (sig : List TypeEntry) (g : List Node) (n s : ℕ) (test : Test) → IsPatternOver sig g → HasNodeSite g n s →
    ((u a : ℕ) → test ≡ State (state.Is u) → agent_at g n ≡ Some a → HasState sig a s u) → ((b y : ℕ) → test ≡ Link (Partner b y) → HasSite sig b y) → ((m t : ℕ) → test ≡ Link (To m t) → HasNodeSite g m t) →
    IsPattern (with_test g n s test) → IsPatternOver sig (with_test g n s test)
IsPatternOver-with_test sig g n s test over has state_exists partner_exists node_exists linked = by test state_exists partner_exists node_exists linked
  where
    known : HasKnownParts sig g
    known = record { types = over.types; sites = over.sites; states = over.states; partners = over.partners }

    one : (t : LinkTest) → ((b y : ℕ) → t ≡ Partner b y → HasSite sig b y) → IsPattern (with_link g n s t) → IsPatternOver sig (with_link g n s t)
    one t exists linked = over_of sig (with_link g n s t) linked (HasKnownParts-with_link sig g n s t known has exists)

    by : (test : Test) → ((u a : ℕ) → test ≡ State (state.Is u) → agent_at g n ≡ Some a → HasState sig a s u) → ((b y : ℕ) → test ≡ Link (Partner b y) → HasSite sig b y) → ((m t : ℕ) → test ≡ Link (To m t) → HasNodeSite g m t) →
        IsPattern (with_test g n s test) → IsPatternOver sig (with_test g n s test)
    by (State t) st pt nt linked = IsPatternOver-with_state sig g n s t over has (λ u a e typed. st u a (ap State e) typed)
    by (Link (To m t)) st pt nt linked =
        let once = HasKnownParts-with_link sig g n s (To m t) known has (λ b y e. absurd cc) in
        over_of sig (with_bond g n s m t) linked
        (HasKnownParts-with_link sig (with_link g n s (To m t)) m t (To n s) once (HasNodeSite-with_link g n s m t (To m t) (nt m t refl)) (λ b y e. absurd cc))
    by (Link Any) st pt nt linked = one Any (λ b y e. absurd cc) linked
    by (Link Free) st pt nt linked = one Free (λ b y e. absurd cc) linked
    by (Link Bound) st pt nt linked = one Bound (λ b y e. absurd cc) linked
    by (Link (Partner c z)) st pt nt linked = one (Partner c z) (λ b y e. pt b y (ap Link e)) linked
