-- Where some pattern has what is asked, there is a most general one.
use Rattle.std.proofs.Common.{◌≡◌, ℕ, zero, suc, ◌+◌, ◌<◌, ◌⊎◌, inl, inr, List, refl, sym, ◌∙◌, arith}
use Rattle.std.specs.Prelude.{true}
use Rattle.kasa_graph.specs.declared.pattern.Node.{Node}
use Rattle.kasa_graph.specs.declared.pattern.LinkTest.{LinkTest}
use Rattle.kasa_graph.specs.declared.pattern.LinkTest.TheVariants.{Any, Free, Bound, Partner, To}
use Rattle.kasa_graph.specs.declared.refine.Test.{Test}
use Rattle.kasa_graph.specs.declared.refine.Test.TheVariants.{State, Link}
use Rattle.kasa_graph.specs.Signature.{TypeEntry}
use Rattle.kasa_graph.specs.Pattern.{state_test, link_test, HasNodeSite, IsNoBond, LinkImplies, IsPatternOver, Implies}
use Rattle.kasa_graph.specs.Meet.{HasTest, IsMeet, with_test}
use Rattle.kasa_graph.proofs.MeetLemmas.{LinkImplies-same_types, states_compare, links_compare, To_implied, no_bond_from, with_test-no_bond, IsMeet-same, IsMeet-with_state, IsMeet-with_link, IsMeet-with_bond, far_is_no_bond}
use Rattle.kasa_pre.specs.Narrow.{IsNarrowed, IsKnownTest}
use Rattle.kasa_pre.proofs.NarrowLemmas.{IsNarrowed-start, Narrows-same, Narrows-both, Narrows-test, IsNarrowed-next}

-- h is a pattern that has all that is asked
module _ (sig : List TypeEntry) (h : List Node) (valid : IsPatternOver sig h) where
  abbrev pub Found : List Node → (List Node → Type 0) → Type 0
  Found old C = (new : List Node) × IsNarrowed sig old C new

  -- it implies what was found
  pub implied_found : (old : List Node) (C : List Node → Type 0) (new : List Node) → Implies h old → C h → IsNarrowed sig old C new → Implies h new
  implied_found old C new implied c is = is.general h valid implied c

  pub Found-same : (old : List Node) (C D : List Node → Type 0) → ((k : List Node) → C k → D k) → ((k : List Node) → D k → C k) → Found old C → Found old D
  Found-same old C D there back (new, is) = (new, Narrows-same sig old C D true new (λ k implied c. there k c) (λ k implied d. back k d) is)

  pub Found-both : (old : List Node) (C D : List Node → Type 0) → Implies h old → C h → Found old C → ((mid : List Node) → IsPatternOver sig mid → Implies mid old → Implies h mid → Found mid D) → Found old (λ k. C k × D k)
  Found-both old C D implied c (mid, first) next =
      let second = next mid first.valid first.implies (implied_found old C mid implied c first) in
      (second.0, Narrows-both sig old C D mid second.0 true first second.1)

  -- what is asked by each number below n
  pub Found-below : (old : List Node) (D : ℕ → List Node → Type 0) → IsPatternOver sig old → Implies h old → ((i : ℕ) → D i h) → ((i : ℕ) (mid : List Node) → IsPatternOver sig mid → Implies mid old → Implies h mid → Found mid (D i)) → (n : ℕ) → Found old (λ k. (i : ℕ) → i < n → D i k)
  Found-below old D over implied all each zero = (old, IsNarrowed-start sig old (λ k. (i : ℕ) → i < 0 → D i k) over (λ k i below. absurd (omega arith)))
  Found-below old D over implied all each (suc n) =
      let first = Found-below old D over implied all each n in
      let mid = first.0 in
      let second = each n mid first.1.valid first.1.implies (implied_found old (λ k. (i : ℕ) → i < n → D i k) mid implied (λ i below. all i) first.1) in
      let both = IsNarrowed-next sig old D n mid second.0 first.1 second.1 in
      (second.0, Narrows-same sig old (λ k. (i : ℕ) → i < n + 1 → D i k) (λ k. (i : ℕ) → i < suc n → D i k) true second.0 (λ k _ x i below. x i (omega arith)) (λ k _ x i below. x i (omega arith)) both)

  -- ---- a further test

  module _ (g : List Node) (over : IsPatternOver sig g) (implied : Implies h g) (n s : ℕ) (here : HasNodeSite g n s) where
    found_meet : (test : Test) (new : List Node) → IsKnownTest sig g n s test → IsMeet g n s test new → (new ≡ g) ⊎ (new ≡ with_test g n s test) → Found g (λ k. HasTest k n s test)
    found_meet test new known meet written = (new, Narrows-test sig g over n s test here known true new meet written tt)

    found_link : (t : LinkTest) → IsNoBond t → LinkImplies g t (link_test g n s) → IsKnownTest sig g n s (Link t) → Found g (λ k. HasTest k n s (Link t))
    found_link t none stronger known =
        let open_before : IsNoBond (link_test g n s) = no_bond_from (link_test g n s) (λ m u e. not_bond t none m u (To_implied g t m u (rw e at stronger))) in
        found_meet (Link t) _ known (IsMeet-with_link g over.linked n s here t stronger open_before none) (inr (sym (with_test-no_bond g n s t none)))
      where
        not_bond : (t : LinkTest) → IsNoBond t → (m u : ℕ) → t ≡ To m u → ⊥
        not_bond t none m u e = rw e at none

    found_bond : (m t : ℕ) → HasNodeSite g m t → link_test h n s ≡ To m t → LinkImplies g (To m t) (link_test g n s) → Found g (λ k. HasTest k n s (Link (To m t)))
    found_bond m t there is stronger = by (link_test g n s) refl
      where
        back : link_test h m t ≡ To n s
        back = valid.linked.both_ways n s m t is

        far : LinkImplies g (To n s) (link_test g m t)
        far = LinkImplies-same_types h g (sym implied.types) (To n s) (link_test g m t) (rw back at (implied.links m t))

        bond : IsNoBond (link_test g n s) → Found g (λ k. HasTest k n s (Link (To m t)))
        bond open_here = found_meet (Link (To m t)) _ there
            (IsMeet-with_bond g over.linked n s here m t there (λ e f. valid.linked.apart n s (is ∙ rw (e, f) refl)) stronger far open_here (far_is_no_bond g over.linked n s m t open_here far))
            (inr refl)

        by : (a : LinkTest) → link_test g n s ≡ a → Found g (λ k. HasTest k n s (Link (To m t)))
        by (To k u) e =
            let same : To m t ≡ To k u = To_implied g (To m t) k u (rw e at stronger) in
            found_meet (Link (To m t)) g there (IsMeet-same g over.linked n s (Link (To m t)) (rw e (let a : k ≡ m = cc in let b : u ≡ t = cc in (a, b)))) (inl refl)
        by Any e = bond (rw e tt)
        by Free e = bond (rw e tt)
        by Bound e = bond (rw e tt)
        by (Partner b y) e = bond (rw e tt)

    pub Found-test : (test : Test) → IsKnownTest sig g n s test → HasTest h n s test → Found g (λ k. HasTest k n s test)
    Found-test (State t) known has = elim (states_compare (state_test h n s) (state_test g n s) t (implied.states n s) has) [
      | inl p ↦ found_meet (State t) g known (IsMeet-same g over.linked n s (State t) p) (inl refl)
      | inr p ↦ found_meet (State t) _ known (IsMeet-with_state g over.linked n s here t p) (inr refl)
    ]
    Found-test (Link t) known has = elim (links_compare h (link_test h n s) (link_test g n s) t (implied.links n s) has) [
      | inl p ↦ found_meet (Link t) g known (IsMeet-same g over.linked n s (Link t) (LinkImplies-same_types h g (sym implied.types) (link_test g n s) t p)) (inl refl)
      | inr p ↦ by t known has (LinkImplies-same_types h g (sym implied.types) t (link_test g n s) p)
    ]
      where
        by : (t : LinkTest) → IsKnownTest sig g n s (Link t) → LinkImplies h (link_test h n s) t → LinkImplies g t (link_test g n s) → Found g (λ k. HasTest k n s (Link t))
        by (To m t) known has p = found_bond m t known (To_implied h (link_test h n s) m t has) p
        by Any known has p = found_link Any tt p known
        by Free known has p = found_link Free tt p known
        by Bound known has p = found_link Bound tt p known
        by (Partner b y) known has p = found_link (Partner b y) tt p known
