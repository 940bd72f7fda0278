-- Which tests imply one another, and the most general pattern that has a further test.
use Rattle.std.proofs.Common.{◌≡◌, ◌≢◌, ℕ, zero, suc, ◌⊎◌, inl, inr, List, [], ◌∷◌, refl, ap, sym, ◌∙◌, map}
use Rattle.std.proofs.lemmas.Option.{same_Some}
use Rattle.kasa_graph.specs.declared.pattern.StateTest.{StateTest}
use Rattle.kasa_graph.specs.declared.pattern.StateTest.TheVariants as state
use Rattle.kasa_graph.specs.declared.pattern.LinkTest.{LinkTest}
use Rattle.kasa_graph.specs.declared.pattern.LinkTest.TheVariants.{Any, Free, Bound, Partner, To}
use Rattle.kasa_graph.specs.declared.pattern.SiteTests.{SiteTests}
use Rattle.kasa_graph.specs.declared.pattern.Node.{Node}
use Rattle.kasa_graph.specs.declared.refine.Test.{Test}
use Rattle.kasa_graph.specs.declared.refine.Test.TheVariants.{State, Link}
use Rattle.kasa_lists.specs.Lists.{update}
use Rattle.kasa_graph.specs.Pattern.{agent_at, state_test, link_test, types_of, with_site, with_state, with_link, with_bond, HasNodeSite, IsNoBond, IsPattern, StateImplies, LinkImplies, Implies}
use Rattle.kasa_graph.specs.Meet.{HasTest, untested, untested_site, untested_node, IsMeet, HasNoMeet, with_test}
use Rattle.kasa_lists.proofs.Numbers.{same_both_or_not}
use Rattle.kasa_graph.proofs.PatternLemmas.{link_test-with_link_same, link_test-with_link_other, link_test-with_state, IsPattern-with_link, IsPattern-with_bond, IsPattern-same_links}
use Rattle.kasa_graph.proofs.TestLemmas.{agent_at-same, types_of-with_state, types_of-with_link, types_of-with_bond, state_test-with_link, state_test-with_state_same, state_test-with_state_other, state_test-with_bond, link_test-with_bond_first, link_test-with_bond_second, link_test-with_bond_other}

-- ---- implied tests

pub StateImplies-refl : (a : StateTest) → StateImplies a a
StateImplies-refl state.Any = tt
StateImplies-refl (state.Is u) = refl

pub LinkImplies-refl : (g : List Node) (a : LinkTest) → LinkImplies g a a
LinkImplies-refl g Any = tt
LinkImplies-refl g Free = tt
LinkImplies-refl g Bound = tt
LinkImplies-refl g (Partner a x) = (refl, refl)
LinkImplies-refl g (To m t) = (refl, refl)

pub Implies-refl : (g : List Node) → Implies g g
Implies-refl g = record { types = refl; states = λ n s. StateImplies-refl (state_test g n s); links = λ n s. LinkImplies-refl g (link_test g n s) }

-- the types of the nodes are all that an implied link test rests on
pub LinkImplies-same_types : (g h : List Node) → types_of h ≡ types_of g → (a b : LinkTest) → LinkImplies g a b → LinkImplies h a b
LinkImplies-same_types g h same a Any p = tt
LinkImplies-same_types g h same Free Free p = tt
LinkImplies-same_types g h same Bound Bound p = tt
LinkImplies-same_types g h same (Partner a x) Bound p = tt
LinkImplies-same_types g h same (To m t) Bound p = tt
LinkImplies-same_types g h same (Partner a x) (Partner b y) p = p
LinkImplies-same_types g h same (To m t) (Partner b y) p = (agent_at-same g h same m ∙ p.0, p.1)
LinkImplies-same_types g h same (To m t) (To k u) p = p
LinkImplies-same_types g h same a b p = absurd p

-- what two tests have in common is one of the two
pub states_compare : (x a b : StateTest) → StateImplies x a → StateImplies x b → StateImplies a b ⊎ StateImplies b a
states_compare x a state.Any p q = inl tt
states_compare x state.Any b p q = inr tt
states_compare (state.Is u) (state.Is v) (state.Is w) p q = inl (sym p ∙ q)
states_compare state.Any (state.Is v) (state.Is w) p q = absurd p

pub links_compare : (g : List Node) (x a b : LinkTest) → LinkImplies g x a → LinkImplies g x b → LinkImplies g a b ⊎ LinkImplies g b a
links_compare g x a Any p q = inl tt
links_compare g x Any b p q = inr tt
links_compare g x Free Free p q = inl tt
links_compare g x Bound Bound p q = inl tt
links_compare g x (Partner a y) Bound p q = inl tt
links_compare g x (To m t) Bound p q = inl tt
links_compare g x Bound (Partner b y) p q = inr tt
links_compare g x Bound (To m t) p q = inr tt
links_compare g Free Free b p q = absurd q
links_compare g x Free b p q = absurd p
links_compare g Free a Free p q = absurd p
links_compare g x a Free p q = absurd q
links_compare g (Partner c z) (Partner a w) (Partner b y) p q = inl (sym p.0 ∙ q.0, sym p.1 ∙ q.1)
links_compare g (Partner c z) (Partner a w) (To j v) p q = absurd q
links_compare g (To m t) (Partner a w) (Partner b y) p q = inl (same_Some a b (sym p.0 ∙ q.0), sym p.1 ∙ q.1)
links_compare g (To m t) (Partner a w) (To j v) p q = inr (ap (agent_at g) (sym q.0) ∙ p.0, sym q.1 ∙ p.1)
links_compare g (To m t) (To j v) (Partner b y) p q = inl (ap (agent_at g) (sym p.0) ∙ q.0, sym p.1 ∙ q.1)
links_compare g (To m t) (To j v) (To i u) p q = inl (sym p.0 ∙ q.0, sym p.1 ∙ q.1)
links_compare g x a b p q = absurd p

-- only a bond implies a bond
pub To_implied : (g : List Node) (a : LinkTest) (m t : ℕ) → LinkImplies g a (To m t) → a ≡ To m t
To_implied g (To k u) m t p = rw (p.0, p.1) refl
To_implied g Any m t p = absurd p
To_implied g Free m t p = absurd p
To_implied g Bound m t p = absurd p
To_implied g (Partner b y) m t p = absurd p

pub implied_is_no_bond : (g : List Node) (a b : LinkTest) → LinkImplies g b a → (LinkImplies g a b → ⊥) → IsNoBond a
implied_is_no_bond g Any b p q = tt
implied_is_no_bond g Free b p q = tt
implied_is_no_bond g Bound b p q = tt
implied_is_no_bond g (Partner c y) b p q = tt
implied_is_no_bond g (To m t) b p q = absurd (q (rw (To_implied g b m t p) (LinkImplies-refl g (To m t))))

pub no_bond_from : (a : LinkTest) → ((m t : ℕ) → a ≡ To m t → ⊥) → IsNoBond a
no_bond_from Any none = tt
no_bond_from Free none = tt
no_bond_from Bound none = tt
no_bond_from (Partner b y) none = tt
no_bond_from (To m t) none = none m t refl

pub with_test-no_bond : (g : List Node) (n s : ℕ) (t : LinkTest) → IsNoBond t → with_test g n s (Link t) ≡ with_link g n s t
with_test-no_bond g n s Any none = refl
with_test-no_bond g n s Free none = refl
with_test-no_bond g n s Bound none = refl
with_test-no_bond g n s (Partner b y) none = refl
with_test-no_bond g n s (To m t) none = absurd none

-- ---- the same nodes

untested_sites-update : (xs : List SiteTests) (s : ℕ) (f : SiteTests → SiteTests) → ((x : SiteTests) → untested_site (f x) ≡ untested_site x) → map untested_site (update xs s f) ≡ map untested_site xs
untested_sites-update [] s f same = refl
untested_sites-update (x ∷ xs) zero f same = ap (λ y. y ∷ map untested_site xs) (same x)
untested_sites-update (x ∷ xs) (suc s) f same = ap (λ ys. untested_site x ∷ ys) (untested_sites-update xs s f same)

untested-with_site : (g : List Node) (n s : ℕ) (f : SiteTests → SiteTests) → ((x : SiteTests) → untested_site (f x) ≡ untested_site x) → untested (with_site g n s f) ≡ untested g
untested-with_site [] n s f same = refl
untested-with_site (node ∷ g) zero s f same = ap (λ (xs : List SiteTests). record node { sites = xs } ∷ untested g) (untested_sites-update node.sites s f same)
untested-with_site (node ∷ g) (suc n) s f same = ap (λ r. untested_node node ∷ r) (untested-with_site g n s f same)

pub untested-with_state : (g : List Node) (n s : ℕ) (t : StateTest) → untested (with_state g n s t) ≡ untested g
unfolding with_state
untested-with_state g n s t = untested-with_site g n s (λ x. record x { state = t }) (λ x. refl)

pub untested-with_link : (g : List Node) (n s : ℕ) (t : LinkTest) → untested (with_link g n s t) ≡ untested g
unfolding with_link
untested-with_link g n s t = untested-with_site g n s (λ x. record x { link = t }) (λ x. refl)

pub untested-with_bond : (g : List Node) (n s m t : ℕ) → untested (with_bond g n s m t) ≡ untested g
untested-with_bond g n s m t = untested-with_link _ m t (To n s) ∙ untested-with_link g n s (To m t)

-- ---- the most general pattern

module _ (g : List Node) (ok : IsPattern g) (n s : ℕ) where
  -- the test is there
  pub IsMeet-same : (test : Test) → HasTest g n s test → IsMeet g n s test g
  IsMeet-same test has = record {
    nodes = refl;
    refined = record { linked = ok; implies = Implies-refl g; tested = has };
    general = λ k refined. refined.implies;
  }

  module _ (here : HasNodeSite g n s) where
    -- another state test
    pub IsMeet-with_state : (t : StateTest) → StateImplies t (state_test g n s) → IsMeet g n s (State t) (with_state g n s t)
    IsMeet-with_state t stronger = record {
      nodes = untested-with_state g n s t;
      refined = record {
        linked = IsPattern-same_links g (with_state g n s t) (link_test-with_state g n s t) ok;
        implies = record {
          types = types_of-with_state g n s t;
          states = λ k u. elim (same_both_or_not n s k u) [
            | inl e ↦ rw (← e.0, ← e.1) (rw (state_test-with_state_same g n s t here) stronger)
            | inr ne ↦ rw (state_test-with_state_other g n s k u t ne) (StateImplies-refl (state_test g k u))
          ];
          links = λ k u. rw (link_test-with_state g n s t k u) (LinkImplies-refl (with_state g n s t) (link_test g k u));
        };
        tested = rw (state_test-with_state_same g n s t here) (StateImplies-refl t);
      };
      general = λ h refined. record {
        types = refined.implies.types ∙ sym (types_of-with_state g n s t);
        states = λ k u. elim (same_both_or_not n s k u) [
          | inl e ↦ rw (← e.0, ← e.1) (rw (state_test-with_state_same g n s t here) refined.tested)
          | inr ne ↦ rw (state_test-with_state_other g n s k u t ne) (refined.implies.states k u)
        ];
        links = λ k u. rw (link_test-with_state g n s t k u) (refined.implies.links k u);
      };
    }

    -- another link test that is no bond
    pub IsMeet-with_link : (t : LinkTest) → LinkImplies g t (link_test g n s) → IsNoBond (link_test g n s) → IsNoBond t → IsMeet g n s (Link t) (with_link g n s t)
    IsMeet-with_link t stronger open_before open_after = record {
      nodes = untested-with_link g n s t;
      refined = record {
        linked = IsPattern-with_link g n s t ok here open_before open_after;
        implies = record {
          types = types_of-with_link g n s t;
          states = λ k u. rw (state_test-with_link g n s t k u) (StateImplies-refl (state_test g k u));
          links = λ k u. elim (same_both_or_not n s k u) [
            | inl e ↦ rw (← e.0, ← e.1) (rw (link_test-with_link_same g n s t here) (LinkImplies-same_types g (with_link g n s t) (types_of-with_link g n s t) t (link_test g n s) stronger))
            | inr ne ↦ rw (link_test-with_link_other g n s k u t ne) (LinkImplies-refl (with_link g n s t) (link_test g k u))
          ];
        };
        tested = rw (link_test-with_link_same g n s t here) (LinkImplies-refl (with_link g n s t) t);
      };
      general = λ h refined. record {
        types = refined.implies.types ∙ sym (types_of-with_link g n s t);
        states = λ k u. rw (state_test-with_link g n s t k u) (refined.implies.states k u);
        links = λ k u. elim (same_both_or_not n s k u) [
          | inl e ↦ rw (← e.0, ← e.1) (rw (link_test-with_link_same g n s t here) refined.tested)
          | inr ne ↦ rw (link_test-with_link_other g n s k u t ne) (refined.implies.links k u)
        ];
      };
    }

    -- a bond, at both ends
    module _ (m t : ℕ) (there : HasNodeSite g m t) (differ : n ≡ m → s ≢ t) where
      pub IsMeet-with_bond : LinkImplies g (To m t) (link_test g n s) → LinkImplies g (To n s) (link_test g m t) → IsNoBond (link_test g n s) → IsNoBond (link_test g m t) → IsMeet g n s (Link (To m t)) (with_bond g n s m t)
      IsMeet-with_bond stronger stronger_there open_here open_there = record {
        nodes = untested-with_bond g n s m t;
        refined = record {
          linked = IsPattern-with_bond g n s m t here there differ ok open_here open_there;
          implies = record {
            types = types_of-with_bond g n s m t;
            states = λ k u. rw (state_test-with_bond g n s m t k u) (StateImplies-refl (state_test g k u));
            links = implied;
          };
          tested = rw (link_test-with_bond_first g n s m t here differ) (LinkImplies-refl (with_bond g n s m t) (To m t));
        };
        general = λ h refined. record {
          types = refined.implies.types ∙ sym (types_of-with_bond g n s m t);
          states = λ k u. rw (state_test-with_bond g n s m t k u) (refined.implies.states k u);
          links = λ k u. elim (same_both_or_not n s k u) [
            | inl e ↦ rw (← e.0, ← e.1) (rw (link_test-with_bond_first g n s m t here differ) refined.tested)
            | inr ne ↦ elim (same_both_or_not m t k u) [
              | inl e ↦
                  let back = refined.linked.both_ways n s m t (To_implied h (link_test h n s) m t refined.tested) in
                  rw (← e.0, ← e.1) (rw (link_test-with_bond_second g n s m t there, back) (LinkImplies-refl h (To n s)))
              | inr ne' ↦ rw (link_test-with_bond_other g n s m t k u ne ne') (refined.implies.links k u)
            ]
          ];
        };
      }
        where
          implied : (k u : ℕ) → LinkImplies (with_bond g n s m t) (link_test (with_bond g n s m t) k u) (link_test g k u)
          implied k u = elim (same_both_or_not n s k u) [
            | inl e ↦ rw (← e.0, ← e.1) (rw (link_test-with_bond_first g n s m t here differ) (LinkImplies-same_types g (with_bond g n s m t) (types_of-with_bond g n s m t) (To m t) (link_test g n s) stronger))
            | inr ne ↦ elim (same_both_or_not m t k u) [
              | inl e ↦ rw (← e.0, ← e.1) (rw (link_test-with_bond_second g n s m t there) (LinkImplies-same_types g (with_bond g n s m t) (types_of-with_bond g n s m t) (To n s) (link_test g m t) stronger_there))
              | inr ne' ↦ rw (link_test-with_bond_other g n s m t k u ne ne') (LinkImplies-refl (with_bond g n s m t) (link_test g k u))
            ]
          ]

  -- ---- where there is none

  pub HasNoMeet-state : (t : StateTest) → (StateImplies (state_test g n s) t → ⊥) → (StateImplies t (state_test g n s) → ⊥) → HasNoMeet g n s (State t)
  HasNoMeet-state t weaker stronger k refined =
      elim (states_compare (state_test k n s) (state_test g n s) t (refined.implies.states n s) refined.tested) [ inl p ↦ weaker p | inr p ↦ stronger p ]

  pub HasNoMeet-link : (t : LinkTest) → (LinkImplies g (link_test g n s) t → ⊥) → (LinkImplies g t (link_test g n s) → ⊥) → HasNoMeet g n s (Link t)
  HasNoMeet-link t weaker stronger k refined =
      elim (links_compare k (link_test k n s) (link_test g n s) t (refined.implies.links n s) refined.tested) [
        | inl p ↦ weaker (LinkImplies-same_types k g (sym refined.implies.types) (link_test g n s) t p)
        | inr p ↦ stronger (LinkImplies-same_types k g (sym refined.implies.types) t (link_test g n s) p)
      ]

  -- a site is not bound to itself
  -- the other end of the bond asks for something else
  pub HasNoMeet-far : (m t : ℕ) → (LinkImplies g (To n s) (link_test g m t) → ⊥) → HasNoMeet g n s (Link (To m t))
  HasNoMeet-far m t against k refined =
      let back = refined.linked.both_ways n s m t (To_implied k (link_test k n s) m t refined.tested) in
      against (LinkImplies-same_types k g (sym refined.implies.types) (To n s) (link_test g m t) (rw back at (refined.implies.links m t)))

  -- the other end is no bond, where this end is none
  pub far_is_no_bond : (m t : ℕ) → IsNoBond (link_test g n s) → LinkImplies g (To n s) (link_test g m t) → IsNoBond (link_test g m t)
  far_is_no_bond m t open_here stronger = by_test (link_test g m t) refl stronger
    where
      by_test : (a : LinkTest) → link_test g m t ≡ a → LinkImplies g (To n s) a → IsNoBond a
      by_test Any e p = tt
      by_test Free e p = tt
      by_test Bound e p = tt
      by_test (Partner b y) e p = tt
      by_test (To k u) e p = rw (ok.both_ways m t n s (e ∙ sym (To_implied g (To n s) k u p))) at open_here
