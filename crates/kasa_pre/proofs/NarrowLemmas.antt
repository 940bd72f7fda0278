-- Laws of narrowing.
use Rattle.std.proofs.Common.{◌≡◌, ℕ, ◌<◌, ◌+◌, ◌↔◌, ◌⊎◌, inl, inr, List, refl, ◌∙◌, arith, below_more}
use Rattle.std.specs.Prelude.{Bool, true, false, Some, IsTrue}
use Rattle.std.specs.Bool.{OnTrue, OnFalse}
use Rattle.kasa_graph.specs.declared.pattern.Node.{Node}
use Rattle.kasa_graph.specs.declared.pattern.StateTest.TheVariants as state
use Rattle.kasa_graph.specs.declared.pattern.LinkTest.TheVariants.{Partner, To}
use Rattle.kasa_graph.specs.declared.refine.Test.{Test}
use Rattle.kasa_graph.specs.declared.refine.Test.TheVariants.{State, Link}
use Rattle.kasa_graph.specs.Signature.{TypeEntry, HasSite, HasState}
use Rattle.kasa_graph.specs.Pattern.{agent_at, HasNodeSite, IsPatternOver, Implies}
use Rattle.kasa_graph.specs.Meet.{HasTest, IsMeet, HasNoMeet, with_test}
use Rattle.kasa_graph.proofs.TestLemmas.{agent_at-same}
use Rattle.kasa_graph.proofs.OverLemmas.{IsPatternOver-with_test}
use Rattle.kasa_graph.proofs.MeetLemmas.{Implies-refl}
use Rattle.kasa_pre.specs.Narrow.{IsNarrowed, HasNone, Narrows, IsKnownTest}
use Rattle.kasa_pre.proofs.Implied.{StateImplies-trans, LinkImplies-trans}

pub Implies-trans : (k h g : List Node) → Implies k h → Implies h g → Implies k g
Implies-trans k h g first second = record {
  types = first.types ∙ second.types;
  states = λ n s. StateImplies-trans _ _ _ (first.states n s) (second.states n s);
  links = λ n s. LinkImplies-trans h k (agent_at-same h k first.types) _ _ _ (first.links n s) (second.links n s);
}

-- a pattern keeps a test where it is narrowed
pub HasTest-narrower : (n s : ℕ) (test : Test) (h k : List Node) → Implies k h → HasTest h n s test → HasTest k n s test
HasTest-narrower n s (State t) h k narrower has = StateImplies-trans _ _ _ (narrower.states n s) has
HasTest-narrower n s (Link t) h k narrower has = LinkImplies-trans h k (agent_at-same h k narrower.types) _ _ _ (narrower.links n s) has

module _ (sig : List TypeEntry) (old : List Node) where
  -- nothing is asked
  pub IsNarrowed-start : (C : List Node → Type 0) → IsPatternOver sig old → ((h : List Node) → C h) → IsNarrowed sig old C old
  IsNarrowed-start C over all = record {
    valid = over;
    implies = Implies-refl old;
    meets = all old;
    kept = λ h k valid first second c. all k;
    general = λ h valid implied c. implied;
  }

  -- the same is asked in other words
  pub Narrows-same : (C D : List Node → Type 0) (b : Bool) (new : List Node) → ((h : List Node) → Implies h old → C h → D h) → ((h : List Node) → Implies h old → D h → C h) → Narrows sig old C b new → Narrows sig old D b new
  Narrows-same C D true new there back is = record {
    valid = is.valid;
    implies = is.implies;
    meets = there new is.implies is.meets;
    kept = λ h k valid first second d. there k (Implies-trans k h old second first) (is.kept h k valid first second (back h first d));
    general = λ h valid implied d. is.general h valid implied (back h implied d);
  }
  Narrows-same C D false new there back none = λ h valid implied d. none h valid implied (back h implied d)

  -- one thing is asked after another
  pub Narrows-both : (C D : List Node → Type 0) (mid new : List Node) (b : Bool) → IsNarrowed sig old C mid → Narrows sig mid D b new → Narrows sig old (λ h. C h × D h) b new
  Narrows-both C D mid new true first second = record {
    valid = second.valid;
    implies = Implies-trans new mid old second.implies first.implies;
    meets = (first.kept mid new first.valid first.implies second.implies first.meets, second.meets);
    kept = λ h k valid above below both. (first.kept h k valid above below both.0, second.kept h k valid (first.general h valid above both.0) below both.1);
    general = λ h valid implied both. second.general h valid (first.general h valid implied both.0) both.1;
  }
  Narrows-both C D mid new false first none = λ h valid implied both. none h valid (first.general h valid implied both.0) both.1

  pub Narrows-first_fails : (C D : List Node → Type 0) (new : List Node) → HasNone sig old C → Narrows sig old (λ h. C h × D h) false new
  Narrows-first_fails C D new none = λ h valid implied both. none h valid implied both.0

  -- what is asked doesn't speak of the pattern
  pub Narrows-fact : (P : Type 0) (b : Bool) → IsPatternOver sig old → IsTrue b ↔ P → Narrows sig old (λ _. P) b old
  Narrows-fact P true over tells = record {
    valid = over;
    implies = Implies-refl old;
    meets = tells.0 refl;
    kept = λ h k valid first second p. p;
    general = λ h valid implied p. implied;
  }
  Narrows-fact P false over tells = λ h valid implied p. absurd (let yes = tells.1 p in cc)

  -- a step of a loop: what is asked by each number below one more
  pub IsNarrowed-next : (D : ℕ → List Node → Type 0) (i : ℕ) (mid new : List Node) → IsNarrowed sig old (λ h. (k : ℕ) → k < i → D k h) mid → IsNarrowed sig mid (D i) new → IsNarrowed sig old (λ h. (k : ℕ) → k < i + 1 → D k h) new
  IsNarrowed-next D i mid new first second =
      Narrows-same (λ h. ((k : ℕ) → k < i → D k h) × D i h) (λ h. (k : ℕ) → k < i + 1 → D k h) true new
      (λ h implied both. below_more (λ k. D k h) i both.0 both.1)
      (λ h implied all. (λ k below. all k (omega arith), all i (omega arith)))
      (Narrows-both (λ h. (k : ℕ) → k < i → D k h) (D i) mid new true first second)

  -- where the next is not met, all are not
  pub HasNone-next : (D : ℕ → List Node → Type 0) (C : List Node → Type 0) (i : ℕ) (mid : List Node) → IsNarrowed sig old (λ h. (k : ℕ) → k < i → D k h) mid → HasNone sig mid (D i) → ((h : List Node) → Implies h old → C h → (k : ℕ) → D k h) → HasNone sig old C
  HasNone-next D C i mid first none each h valid implied c =
      let all = each h implied c in
      none h valid (first.general h valid implied (λ k below. all k)) (all i)

-- ---- a further test

module _ (sig : List TypeEntry) (g : List Node) (over : IsPatternOver sig g) (n s : ℕ) (test : Test) where
  pub Narrows-test : HasNodeSite g n s → IsKnownTest sig g n s test → (b : Bool) (new : List Node) →
      OnTrue b (IsMeet g n s test new) → OnTrue b ((new ≡ g) ⊎ (new ≡ with_test g n s test)) → OnFalse b (HasNoMeet g n s test) → Narrows sig g (λ h. HasTest h n s test) b new
  Narrows-test has known true new found written none = record {
    valid = valid written;
    implies = found.refined.implies;
    meets = found.refined.tested;
    kept = λ h k ok above below test_h. HasTest-narrower n s test h k below test_h;
    general = λ h ok implied test_h. found.general h (record { linked = ok.linked; implies = implied; tested = test_h });
  }
    where
      state_known : (t : Test) → IsKnownTest sig g n s t → (u a : ℕ) → t ≡ State (state.Is u) → agent_at g n ≡ Some a → HasState sig a s u
      state_known t k u a e typed = let k' : IsKnownTest sig g n s (State (state.Is u)) = rw e at k in k' a typed

      partner_known : (t : Test) → IsKnownTest sig g n s t → (b y : ℕ) → t ≡ Link (Partner b y) → HasSite sig b y
      partner_known t k b y e = rw e at k

      node_known : (t : Test) → IsKnownTest sig g n s t → (m t' : ℕ) → t ≡ Link (To m t') → HasNodeSite g m t'
      node_known t k m t' e = rw e at k

      valid : (new ≡ g) ⊎ (new ≡ with_test g n s test) → IsPatternOver sig new
      valid (inl e) = rw e over
      valid (inr e) = rw e (IsPatternOver-with_test sig g n s test over has (state_known test known) (partner_known test known) (node_known test known) (rw e at found.refined.linked))
  Narrows-test has known false new found written none = λ h ok implied test_h. none h (record { linked = ok.linked; implies = implied; tested = test_h })
