-- One site after another is written.
use Rattle.std.proofs.Common.{◌≡◌, ◌≢◌, ℕ, ◌+◌, ◌<◌, ◌≤◌, ◌⊎◌, inl, inr, List, refl, sym, ap, ◌∙◌, arith}
use Rattle.std.specs.Prelude.{⊤, Bool, true, false, Option, Some, None, slice_get, option_and_then, if◌then◌else◌}
use Rattle.std.proofs.lemmas.Grind.{common_steps}
use Rattle.std.proofs.lemmas.Bool.Decides.{nat_tests}
use Rattle.kasa_graph.specs.declared.pattern.StateTest.{StateTest}
use Rattle.kasa_graph.specs.declared.pattern.StateTest.TheVariants as state
use Rattle.kasa_graph.specs.declared.pattern.Node.{Node}
use Rattle.kasa_graph.specs.Signature.{TypeEntry, state_counts, HasState}
use Rattle.std.proofs.lemmas.Option.{slice_get-map}
use Rattle.kasa_graph.specs.Pattern.{HasNodeSite, IsPattern}
use Rattle.kasa_graph.specs.PatternText.{stands_before}
use Rattle.kasa_rules.specs.declared.rule.End.{End}
use Rattle.kasa_rules.specs.declared.rule.End.TheVariants.{Left, Made}
use Rattle.kasa_rules.specs.declared.rule.Written.{Written}
use Rattle.kasa_rules.specs.declared.rule.Written.TheVariants.{Free, To}
use Rattle.kasa_rules.specs.Rule.{RuleParts, end_link, IsDraftOver}
use Rattle.kasa_rules.specs.Draft.{with_written_state, with_written_link, with_written_bond, HasEndSite, HasListed, IsOpen}
use Rattle.kasa_rules.proofs.DraftLemmas.{same_end_or_not, fate_at-link, end_link-link_same, end_link-link_other, HasListed-link, fate_at-state, end_link-state, left-state}
use Rattle.kasa_compile.specs.declared.said.SiteSaid.{SiteSaid}
use Rattle.kasa_compile.specs.declared.said.AgentSaid.{AgentSaid}
use Rattle.kasa_compile.specs.Sides.{SidesParts}
use Rattle.kasa_compile.specs.Bonds.{said_at}
use Rattle.kasa_graph.specs.Mixture.{first_state}
use Rattle.kasa_compile.specs.Complex.{given_or_first}
use Rattle.kasa_compile.specs.Rule.{end_at, link_to_make}
use Rattle.kasa_compile.specs.Building.{Says, right_of, link_due, state_due, state_open, state_now, state_to_put, with_state_due, end_before, with_free, with_link_due, MayFree, MayWrite, CanWrite, IsLater, AwaitsLink, HasLink, IsDone, AreAwaiting}
use Rattle.kasa_compile.proofs.WriteLemmas.{HasListed-over, state_now-link, state_now-state_same, state_now-state_other, name-link, left-link, count-link, made_type-link, name-state, count-state, made_type-state, end_link-made_open, IsOpen-same}
use Rattle.kasa_compile.proofs.DueLemmas.{right_of-end, link_due-at, HasEndSite-says, IsMutualDue, due_mutual}
use Rattle.kasa_compile.proofs.SaidAtLemmas.{said_at-of}
use Rattle.kasa_compile.proofs.AskedLemmas.{once_said}

-- ---- later drafts

module _ (sig : List TypeEntry) (x : SidesParts) (g : List Node) where
  pub IsLater-refl : (r : RuleParts) → IsLater sig x g r r
  IsLater-refl r = record { name = refl; left = refl; fates = λ n. refl; count = refl; types = λ j. refl; states = λ e s. inl refl; links = λ e s. inl refl }

  pub IsLater-trans : (r h k : RuleParts) → IsLater sig x g r h → IsLater sig x g h k → IsLater sig x g r k
  IsLater-trans r h k first second = record {
    name = second.name ∙ first.name;
    left = second.left ∙ first.left;
    fates = λ n. second.fates n ∙ first.fates n;
    count = second.count ∙ first.count;
    types = λ j. second.types j ∙ first.types j;
    states = λ e s. elim (second.states e s) [
      | inl a ↦ elim (first.states e s) [ inl b ↦ inl (a ∙ b) | inr b ↦ inr (a ∙ b) ]
      | inr a ↦ inr a
    ];
    links = λ e s. elim (second.links e s) [
      | inl a ↦ elim (first.links e s) [ inl b ↦ inl (a ∙ b) | inr b ↦ inr (a ∙ b) ]
      | inr a ↦ inr a
    ];
  }

  pub CanWrite-later : (r h : RuleParts) → CanWrite sig x g r → IsLater sig x g r h → IsDraftOver sig h → CanWrite sig x g h
  CanWrite-later r h can step over = record {
    sides = can.sides;
    over = over;
    left = step.left ∙ can.left;
    types = can.types;
    kept = λ n k is. step.fates n ∙ can.kept n k is;
    made = λ j k b is at. step.types j ∙ can.made j k b is at;
    states = λ e s. elim (step.states e s) [
      | inl a ↦ elim (can.states e s) [ inl b ↦ inl (a ∙ b) | inr b ↦ inr (a ∙ b) ]
      | inr a ↦ inr a
    ];
    links = λ e s. elim (step.links e s) [
      | inl a ↦ elim (can.links e s) [ inl b ↦ inl (IsOpen-same r h e s a b) | inr b ↦ inr (a ∙ b) ]
      | inr a ↦ inr a
    ];
  }

  link_kept : (r h : RuleParts) (e : End) (s : ℕ) → IsLater sig x g r h → end_link r e s ≡ link_due x g e s → end_link h e s ≡ link_due x g e s
  link_kept r h e s step is = elim (step.links e s) [ inl a ↦ a ∙ is | inr a ↦ a ]

  HasLink-later : (r h : RuleParts) (e : End) (s : ℕ) (w : Option Written) → IsLater sig x g r h → HasLink x g r e s w → HasLink x g h e s w
  HasLink-later r h e s None step has = link_kept r h e s step has
  HasLink-later r h e s (Some Free) step has = link_kept r h e s step has
  HasLink-later r h e s (Some (To f t)) step has = λ first. let both = has first in (link_kept r h e s step both.0, link_kept r h f t step both.1)

  pub IsDone-later : (r h : RuleParts) (e : End) (s : ℕ) → IsLater sig x g r h → IsDone sig x g r e s → IsDone sig x g h e s
  IsDone-later r h e s step done = record {
    state = elim (step.states e s) [ inl a ↦ a ∙ done.state | inr a ↦ a ];
    link = HasLink-later r h e s (link_due x g e s) step done.link;
  }

  -- ---- single writes

  IsLater-state : (r : RuleParts) (e : End) (s u : ℕ) → HasListed r.actions r.made e s → state_due sig x g e s ≡ Some u → IsLater sig x g r (with_written_state r e s u)
  IsLater-state r e s u has is = record {
    name = name-state r e s u;
    left = left-state r e s u;
    fates = λ n. fate_at-state r e s u n;
    count = count-state r e s u;
    types = λ j. made_type-state r e s u j;
    states = λ f t. elim (same_end_or_not e f s t) [
      | inl same ↦ inr (rw (← same.0, ← same.1) (state_now-state_same r e s u has ∙ sym is))
      | inr ne ↦ inl (state_now-state_other r e f s t u ne)
    ];
    links = λ f t. inl (end_link-state r e s u f t);
  }

  IsLater-link : (r : RuleParts) (e : End) (s : ℕ) (w : Written) → HasListed r.actions r.made e s → link_due x g e s ≡ Some w → IsLater sig x g r (with_written_link r e s w)
  IsLater-link r e s w has is = record {
    name = name-link r e s w;
    left = left-link r e s w;
    fates = λ n. fate_at-link r e s w n;
    count = count-link r e s w;
    types = λ j. made_type-link r e s w j;
    states = λ f t. inl (state_now-link r e f s t w);
    links = λ f t. elim (same_end_or_not e f s t) [
      | inl same ↦ inr (rw (← same.0, ← same.1) (end_link-link_same r e s w has ∙ sym is))
      | inr ne ↦ inl (end_link-link_other r e f s t w ne)
    ];
  }

-- ---- the order of ends

before_back : (n s m t : ℕ) → stands_before n s m t ≡ true → stands_before m t n s ≡ false
before_back n s m t e = grind (arith, common_steps, nat_tests, e)

pub end_before-back : (e f : End) (s t : ℕ) → end_before e s f t ≡ true → end_before f t e s ≡ false
end_before-back (Left n) (Left m) s t e = before_back n s m t e
end_before-back (Left n) (Made j) s t e = refl
end_before-back (Made j) (Left n) s t e = absurd cc
end_before-back (Made j) (Made k) s t e = before_back j s k t e

before_or : (n s m t : ℕ) → (n ≡ m → s ≢ t) → (stands_before n s m t ≡ true) ⊎ (stands_before m t n s ≡ true)
before_or n s m t ne = grind (arith, common_steps, nat_tests, ne)

pub end_before-or : (e f : End) (s t : ℕ) → (e ≡ f → s ≢ t) → (end_before e s f t ≡ true) ⊎ (end_before f t e s ≡ true)
end_before-or (Left n) (Left m) s t ne = before_or n s m t (λ e. ne (ap Left e))
end_before-or (Left n) (Made j) s t ne = inl refl
end_before-or (Made j) (Left n) s t ne = inr refl
end_before-or (Made j) (Made k) s t ne = before_or j s k t (λ e. ne (ap Made e))

-- ---- the state of one site

module _ (sig : List TypeEntry) (x : SidesParts) (g : List Node) (r : RuleParts) (can : CanWrite sig x g r) (k i : ℕ) (s : SiteSaid) (says : Says x.right k i s) where
  said_there : said_at says.agent.sites s.site ≡ Some s
  said_there = said_at-of says.agent.sites i s (once_said sig x.right can.sides.right k says.agent says.is_agent) says.is_site

  first_same : (o : Option ℕ) → option_and_then (given_or_first None) o ≡ option_and_then first_state o
  first_same None = refl
  first_same (Some n) = refl

  first_any : (o : Option ℕ) → option_and_then (given_or_first (Some state.Any)) o ≡ option_and_then first_state o
  first_any None = refl
  first_any (Some n) = refl

  abbrev counted : Option ℕ
  counted = slice_get (state_counts sig says.agent.agent) s.site

  open_made : (j : ℕ) → right_of x (Made j) ≡ Some k → state_open sig x (Made j) s.site ≡ option_and_then first_state counted
  unfolding state_open
  open_made j is = rw (is, says.is_agent) refl

  due_made : (j : ℕ) (o : Option StateTest) → right_of x (Made j) ≡ Some k → s.state ≡ o → state_due sig x g (Made j) s.site ≡ option_and_then (given_or_first o) counted
  unfolding state_due
  due_made j o is given = rw (is, says.is_agent, said_there, given) refl

  due_kept : (n : ℕ) (o : Option StateTest) → right_of x (Left n) ≡ Some k → s.state ≡ o → state_due sig x g (Left n) s.site ≡ state_to_put g (Left n) s.site o
  unfolding state_due
  due_kept n None is given = rw (is, says.is_agent, said_there, given) refl
  due_kept n (Some state.Any) is given = rw (is, says.is_agent, said_there, given) refl
  due_kept n (Some (state.Is u)) is given = rw (is, says.is_agent, said_there, given) refl

  record IsPut (e : End) (w : Option ℕ) : Type 0 where
    kept : w ≡ None → state_open sig x e s.site ≡ state_due sig x g e s.site
    put : (u : ℕ) → w ≡ Some u → state_due sig x g e s.site ≡ Some u

  none_left : (n : ℕ) → state_open sig x (Left n) s.site ≡ None
  unfolding state_open
  none_left n = refl

  is_put : (e : End) → right_of x e ≡ Some k → (o : Option StateTest) → s.state ≡ o → IsPut e (state_to_put g e s.site o)
  is_put (Left n) is o given = record {
    kept = λ none. none_left n ∙ sym none ∙ sym (due_kept n o is given);
    put = λ u some. due_kept n o is given ∙ some;
  }
  is_put (Made j) is None given = record {
    kept = λ none. open_made j is ∙ sym (first_same counted) ∙ sym (due_made j None is given);
    put = λ u some. absurd cc;
  }
  is_put (Made j) is (Some state.Any) given = record {
    kept = λ none. open_made j is ∙ sym (first_any counted) ∙ sym (due_made j (Some state.Any) is given);
    put = λ u some. absurd cc;
  }
  is_put (Made j) is (Some (state.Is u)) given =
      let known : HasState sig says.agent.agent s.site u = ((can.sides.right k says.agent says.is_agent).sites i s says.is_site).state u given in
      record {
        kept = λ none. absurd cc;
        put = λ w some. due_made j (Some (state.Is u)) is given ∙ rw known.1 some;
      }

  abbrev end_here : End
  end_here = end_at x.ends k

  listed : HasListed r.actions r.made (end_at x.ends k) s.site
  listed = HasListed-over sig r (end_at x.ends k) s.site can.over (HasEndSite-says sig x g r can k i s says)

  step_state : (w : Option ℕ) → IsPut (end_at x.ends k) w → IsLater sig x g r (with_state_due r (end_at x.ends k) s.site w) × (state_now (with_state_due r (end_at x.ends k) s.site w) (end_at x.ends k) s.site ≡ state_due sig x g (end_at x.ends k) s.site)
  step_state None put = (IsLater-refl sig x g r, elim (can.states (end_at x.ends k) s.site) [ inl a ↦ a ∙ put.kept refl | inr a ↦ a ])
  step_state (Some u) put = (
    IsLater-state sig x g r (end_at x.ends k) s.site u listed (put.put u refl),
    state_now-state_same r (end_at x.ends k) s.site u listed ∙ sym (put.put u refl),
  )

  pub state_step : (w : Option ℕ) → w ≡ state_to_put g (end_at x.ends k) s.site s.state → IsLater sig x g r (with_state_due r (end_at x.ends k) s.site w) × (state_now (with_state_due r (end_at x.ends k) s.site w) (end_at x.ends k) s.site ≡ state_due sig x g (end_at x.ends k) s.site)
  state_step w is = step_state w (rw is (is_put (end_at x.ends k) (right_of-end sig x can.sides k says.agent says.is_agent) s.state refl))

  -- ---- the link of one site

  linked : IsPattern g
  linked = rw can.left at can.over.left.linked

  bond_of : (f : End) (t : ℕ) → link_due x g (end_at x.ends k) s.site ≡ Some (To f t) → IsMutualDue x g (end_at x.ends k) s.site f t
  bond_of f t is = due_mutual sig x can.sides g linked k i s f t says is

  other_site : (f : End) (t : ℕ) → IsMutualDue x g (end_at x.ends k) s.site f t → HasEndSite r f t
  other_site f t m = rw (← m.is_end, ← m.named) (HasEndSite-says sig x g r can m.agent m.index m.site m.says)

  pub MayWrite-says : (w : Option Written) → w ≡ link_due x g (end_at x.ends k) s.site → AwaitsLink r (end_at x.ends k) s.site w → MayWrite r (end_at x.ends k) s.site w
  MayWrite-says None is wait = tt
  MayWrite-says (Some Free) is wait = may_free (end_at x.ends k) wait
    where
      may_free : (e : End) → IsOpen r e s.site → MayFree r e s.site
      may_free (Left n) wait = wait
      may_free (Made j) wait = tt
  MayWrite-says (Some (To f t)) is wait = λ first. let m = bond_of f t (sym is) in (other_site f t m, (m.differ, wait first))

  link_none : (e : End) → right_of x e ≡ Some k → None ≡ link_due x g e s.site → IsOpen r e s.site → end_link r e s.site ≡ link_due x g e s.site
  link_none (Left n) at is wait = wait ∙ is
  link_none (Made j) at is wait = absurd (let clash : None ≡ Some (link_to_make x (k, s.site) s.link) = is ∙ link_due-at sig x can.sides k i s says g (Made j) at in cc)

  link_free : (e : End) → right_of x e ≡ Some k → Some Free ≡ link_due x g e s.site → HasListed r.actions r.made e s.site → IsOpen r e s.site → IsLater sig x g r (with_free r e s.site) × (end_link (with_free r e s.site) e s.site ≡ link_due x g e s.site)
  link_free (Left n) at is has wait = (IsLater-link sig x g r (Left n) s.site Free has (sym is), end_link-link_same r (Left n) s.site Free has ∙ is)
  link_free (Made j) at is has wait = (IsLater-refl sig x g r, end_link-made_open r j s.site has wait ∙ is)

  link_bond : (e f : End) (t : ℕ) → e ≡ end_at x.ends k → Some (To f t) ≡ link_due x g e s.site → HasListed r.actions r.made e s.site → IsMutualDue x g e s.site f t → HasListed r.actions r.made f t → (b : Bool) → end_before e s.site f t ≡ b → IsLater sig x g r (if b then with_written_bond r e s.site f t else r) × HasLink x g (if b then with_written_bond r e s.site f t else r) e s.site (Some (To f t))
  link_bond e f t at is has m there false not_first = (IsLater-refl sig x g r, λ first. absurd (let clash : false ≡ true = sym not_first ∙ first in cc))
  link_bond e f t at is has m there true first =
      let second = HasListed-link r e f s.site t (To f t) there in (
        IsLater-trans sig x g r (with_written_link r e s.site (To f t)) (with_written_bond r e s.site f t)
            (IsLater-link sig x g r e s.site (To f t) has (sym is))
            (IsLater-link sig x g (with_written_link r e s.site (To f t)) f t (To e s.site) second m.back),
        λ _. (
          end_link-link_other (with_written_link r e s.site (To f t)) f e t s.site (To e s.site) (λ a b. m.differ (sym a) (sym b)) ∙ end_link-link_same r e s.site (To f t) has ∙ is,
          end_link-link_same (with_written_link r e s.site (To f t)) f t (To e s.site) second ∙ sym m.back,
        ),
      )

  pub link_step : (w : Option Written) → w ≡ link_due x g (end_at x.ends k) s.site → AwaitsLink r (end_at x.ends k) s.site w → IsLater sig x g r (with_link_due r (end_at x.ends k) s.site w) × HasLink x g (with_link_due r (end_at x.ends k) s.site w) (end_at x.ends k) s.site w
  link_step None is wait = (IsLater-refl sig x g r, link_none (end_at x.ends k) (right_of-end sig x can.sides k says.agent says.is_agent) is wait)
  link_step (Some Free) is wait = link_free (end_at x.ends k) (right_of-end sig x can.sides k says.agent says.is_agent) is listed wait
  link_step (Some (To f t)) is wait =
      let m = bond_of f t (sym is) in
      link_bond (end_at x.ends k) f t refl is listed m (HasListed-over sig r f t can.over (other_site f t m)) (end_before (end_at x.ends k) s.site f t) refl

  -- ---- what stays open

  abbrev Writes : End → Option Written → Type 0
  Writes e None = ⊥
  Writes e (Some Free) = ⊤
  Writes e (Some (To f t)) = end_before e s.site f t ≡ true

  unchanged : (h : RuleParts) (e : End) (w : Option Written) (d : End) (v : ℕ) → (Writes e w → e ≡ d → s.site ≢ v) → ((f : End) (t : ℕ) → w ≡ Some (To f t) → end_before e s.site f t ≡ true → f ≡ d → t ≢ v) → end_link (with_link_due h e s.site w) d v ≡ end_link h d v
  unchanged h e None d v here there = refl
  unchanged h (Left n) (Some Free) d v here there = end_link-link_other h (Left n) d s.site v Free (here tt)
  unchanged h (Made j) (Some Free) d v here there = refl
  unchanged h e (Some (To f t)) d v here there = by_order (end_before e s.site f t) refl
    where
      by_order : (b : Bool) → end_before e s.site f t ≡ b → end_link (if b then with_written_bond h e s.site f t else h) d v ≡ end_link h d v
      by_order false not_first = refl
      by_order true first = end_link-link_other (with_written_link h e s.site (To f t)) f d t v (To e s.site) (there f t refl first) ∙ end_link-link_other h e d s.site v (To f t) (here first)

  -- ---- another site that waits goes on waiting

  module _ (w : Option Written) (is : w ≡ link_due x g (end_at x.ends k) s.site) (l j : ℕ) (y : SiteSaid) (says_y : Says x.right l j y) (apart : end_at x.ends k ≡ end_at x.ends l → s.site ≢ y.site) where
    abbrev after : RuleParts
    after = with_link_due r (end_at x.ends k) s.site w

    -- a bond that is written here and whose other end is that site leads back from there
    back_due : (f : End) (t : ℕ) (d : End) (v : ℕ) → w ≡ Some (To f t) → f ≡ d → t ≡ v → link_due x g d v ≡ Some (To (end_at x.ends k) s.site)
    back_due f t d v is_w a b = rw (← a, ← b) ((bond_of f t (sym is ∙ is_w)).back)

    same_bond : (e d : End) (u v : ℕ) (o : Option Written) → o ≡ Some (To e u) → o ≡ Some (To d v) → (e ≡ d) × (u ≡ v)
    same_bond e d u v o a b = (cc, cc)

    not_both : (e f : End) (s t : ℕ) → end_before e s f t ≡ true → end_before f t e s ≡ true → ⊥
    not_both e f s t first second = let back = end_before-back e f s t first in cc

    early_open : (o : Option Written) → o ≡ link_due x g (end_at x.ends l) y.site → ((f : End) (t : ℕ) → o ≢ Some (To f t)) → IsOpen r (end_at x.ends l) y.site → IsOpen after (end_at x.ends l) y.site
    early_open o at plain wait =
        IsOpen-same r after (end_at x.ends l) y.site
        (unchanged r (end_at x.ends k) w (end_at x.ends l) y.site (λ _. apart) (λ f t is_w early a b. plain (end_at x.ends k) s.site (at ∙ back_due f t (end_at x.ends l) y.site is_w a b)))
        wait

    still : (o : Option Written) → o ≡ link_due x g (end_at x.ends l) y.site → AwaitsLink r (end_at x.ends l) y.site o → AwaitsLink after (end_at x.ends l) y.site o
    still None at wait = early_open None at (λ f t e. cc) wait
    still (Some Free) at wait = early_open (Some Free) at (λ f t e. cc) wait
    still (Some (To f t)) at wait = λ first.
        let both = wait first in
        let there = due_mutual sig x can.sides g linked l j y f t says_y (sym at) in
        let here_apart : (e : End) (v : ℕ) → w ≡ Some (To e v) → end_before (end_at x.ends k) s.site e v ≡ true → e ≡ end_at x.ends l → v ≢ y.site = λ e v is_w early a b.
        let ends = same_bond f (end_at x.ends k) t s.site (Some (To f t)) refl (at ∙ back_due e v (end_at x.ends l) y.site is_w a b) in
        let early' : end_before f t (end_at x.ends l) y.site ≡ true = rw (ends.0, ends.1, ← a, ← b) early in
        not_both (end_at x.ends l) f y.site t first early' in
        let there_late : Writes (end_at x.ends k) w → end_at x.ends k ≡ f → s.site ≢ t = λ writes a b.
        let led : w ≡ Some (To (end_at x.ends l) y.site) = is ∙ move_due (end_at x.ends k) f s.site t a b ∙ there.back in
        let early : end_before (end_at x.ends k) s.site (end_at x.ends l) y.site ≡ true = writes_bond (end_at x.ends k) w (end_at x.ends l) y.site led writes in
        let early' : end_before f t (end_at x.ends l) y.site ≡ true = rw (← a, ← b) early in
        not_both (end_at x.ends l) f y.site t first early' in
        let there_apart : (e : End) (v : ℕ) → w ≡ Some (To e v) → end_before (end_at x.ends k) s.site e v ≡ true → e ≡ f → v ≢ t = λ e v is_w early a b.
        let ends = same_bond (end_at x.ends k) (end_at x.ends l) s.site y.site (link_due x g f t) (back_due e v f t is_w a b) there.back in
        apart ends.0 ends.1 in (
          IsOpen-same r after (end_at x.ends l) y.site (unchanged r (end_at x.ends k) w (end_at x.ends l) y.site (λ _. apart) here_apart) both.0,
          IsOpen-same r after f t (unchanged r (end_at x.ends k) w f t there_late there_apart) both.1,
        )
      where
        move_due : (e f : End) (u t : ℕ) → e ≡ f → u ≡ t → link_due x g e u ≡ link_due x g f t
        move_due e f u t a b = rw (a, b) refl

        writes_bond : (e : End) (w : Option Written) (d : End) (v : ℕ) → w ≡ Some (To d v) → Writes e w → end_before e s.site d v ≡ true
        writes_bond e w d v is_w writes = rw is_w at writes

  one_right : (l : ℕ) (b : AgentSaid) → slice_get x.right l ≡ Some b → end_at x.ends k ≡ end_at x.ends l → k ≡ l
  one_right l b at same = one_number k l (right_of x (end_at x.ends k)) (right_of x (end_at x.ends l)) (ap (right_of x) same) (right_of-end sig x can.sides k says.agent says.is_agent) (right_of-end sig x can.sides l b at)
    where
      one_number : (k l : ℕ) (o p : Option ℕ) → o ≡ p → o ≡ Some k → p ≡ Some l → k ≡ l
      one_number k l o p e f h = cc

  one_index : (j : ℕ) (y : SiteSaid) → Says x.right k j y → s.site ≡ y.site → i ≡ j
  one_index j y says_y same =
      let first = says.is_agent in
      let second = says_y.is_agent in
      let agent : says_y.agent ≡ says.agent = cc in
      let at : slice_get says.agent.sites j ≡ Some y = rw (← agent) says_y.is_site in
      let named = λ (z : SiteSaid). z.site in
      once_said sig x.right can.sides.right k says.agent says.is_agent i j s.site
      (slice_get-map (λ (z : SiteSaid). z.site) says.agent.sites i ∙ rw says.is_site refl)
      (slice_get-map (λ (z : SiteSaid). z.site) says.agent.sites j ∙ rw (at, same) refl)

  later_apart : (l j : ℕ) (y : SiteSaid) → ((k < l) ⊎ ((k ≡ l) × (i + 1 ≤ j))) → Says x.right l j y → end_at x.ends k ≡ end_at x.ends l → s.site ≢ y.site
  later_apart l j y later says_y ends sites =
      let agent = one_right l says_y.agent says_y.is_agent ends in
      let index = one_index j y (rw (← agent) at says_y) sites in
      elim later [ inl less ↦ omega arith | inr at ↦ let next = at.1 in omega arith ]

  pub awaiting_next : (w : Option Written) → w ≡ link_due x g (end_at x.ends k) s.site → AreAwaiting x g r k i → AreAwaiting x g (with_link_due r (end_at x.ends k) s.site w) k (i + 1)
  awaiting_next w is before l j y later says_y =
      still w is l j y says_y (later_apart l j y later says_y) (link_due x g (end_at x.ends l) y.site) refl
      (before l j y (elim later [ inl less ↦ inl less | inr at ↦ let next = at.1 in inr (at.0, omega arith) ]) says_y)

  pub awaiting_here : AreAwaiting x g r k i → AwaitsLink r (end_at x.ends k) s.site (link_due x g (end_at x.ends k) s.site)
  awaiting_here before = before k i s (inr (refl, omega arith)) says

  -- a written state leaves all links
  links_state : (o : Option ℕ) (e : End) (u : ℕ) (d : End) (v : ℕ) → end_link (with_state_due r e u o) d v ≡ end_link r d v
  links_state None e u d v = refl
  links_state (Some n) e u d v = end_link-state r e u n d v

  awaits_same : (h : RuleParts) → ((d : End) (v : ℕ) → end_link h d v ≡ end_link r d v) → (d : End) (v : ℕ) (o : Option Written) → AwaitsLink r d v o → AwaitsLink h d v o
  awaits_same h same d v None wait = IsOpen-same r h d v (same d v) wait
  awaits_same h same d v (Some Free) wait = IsOpen-same r h d v (same d v) wait
  awaits_same h same d v (Some (To f t)) wait = λ first. let both = wait first in (IsOpen-same r h d v (same d v) both.0, IsOpen-same r h f t (same f t) both.1)

  pub awaiting_state : (o : Option ℕ) → AreAwaiting x g r k i → AreAwaiting x g (with_state_due r (end_at x.ends k) s.site o) k i
  awaiting_state o before l j y later says_y = awaits_same (with_state_due r (end_at x.ends k) s.site o) (links_state o (end_at x.ends k) s.site) (end_at x.ends l) y.site (link_due x g (end_at x.ends l) y.site) (before l j y later says_y)

  pub node_site : (n : ℕ) → end_at x.ends k ≡ Left n → HasNodeSite g n s.site
  node_site n is = rw can.left at (by_end (end_at x.ends k) is (HasEndSite-says sig x g r can k i s says))
    where
      by_end : (e : End) → e ≡ Left n → HasEndSite r e s.site → HasNodeSite r.left n s.site
      by_end e same has = (rw same at has).1
