-- The two places of a label: each is joined to the other.
use Rattle.std.proofs.Common.{◌≡◌, ◌≢◌, ℕ, zero, suc, ◌+◌, ◌⊎◌, inl, inr, List, [], ◌∷◌, ◌++◌, length, map, refl, sym, ap, ◌∙◌, arith}
use Rattle.std.specs.Prelude.{⊤, Bool, true, false, ◌&&◌, Option, Some, None, slice_get, nat_eq, if◌then◌else◌}
use Rattle.std.specs.List.{AllByRecursion}
use Rattle.std.proofs.lemmas.Bool.{eqb-true, eq-eqb}
use Rattle.std.proofs.lemmas.Option.{slice_get-map}
use Rattle.kasa_graph.specs.Lists.{AllDifferent}
use Rattle.kasa_graph.proofs.ListLemmas.{AllDifferent-tail, AllDifferent-head}
use Rattle.kasa_graph.proofs.SplitLemmas.{AllByRecursion-append, AllByRecursion-weaker}
use Rattle.kasa_compile.specs.declared.said.LinkSaid.{LinkSaid}
use Rattle.kasa_compile.specs.declared.said.LinkSaid.TheVariants.{Any, Free, Bound, Partner, Label}
use Rattle.kasa_compile.specs.declared.said.SiteSaid.{SiteSaid}
use Rattle.kasa_compile.specs.declared.said.AgentSaid.{AgentSaid}
use Rattle.kasa_compile.specs.Cells.{AreNamedOnce}
use Rattle.kasa_compile.specs.Bonds.{has_label, labelled, labelled_from, places_of, is_same, other_of, joined_to}

-- a label stands at site t of the n-th agent
pub record IsLabelled (agents : List AgentSaid) (number n t : ℕ) : Type 0 where
  pub agent : AgentSaid
  pub index : ℕ
  pub site : SiteSaid
  pub is_agent : slice_get agents n ≡ Some agent
  pub is_site : slice_get agent.sites index ≡ Some site
  pub named : site.site ≡ t
  pub label : site.link ≡ Some (Label number)

label_of : (number : ℕ) (o : Option LinkSaid) → has_label number o ≡ true → o ≡ Some (Label number)
label_of number None e = absurd cc
label_of number (Some Any) e = absurd cc
label_of number (Some Free) e = absurd cc
label_of number (Some Bound) e = absurd cc
label_of number (Some (Partner b y)) e = absurd cc
label_of number (Some (Label other)) e = let same = eqb-true other number e in rw same refl

is_label : (number : ℕ) (o : Option LinkSaid) → o ≡ Some (Label number) → has_label number o ≡ true
is_label number o e = rw e (eq-eqb number number refl)

-- ---- what holds of all places of a label

module _ (k number : ℕ) (Q : ℕ × ℕ → Type 0) where
  all_labelled : (sites : List SiteSaid) → ((i : ℕ) (s : SiteSaid) → slice_get sites i ≡ Some s → s.link ≡ Some (Label number) → Q (k, s.site)) → AllByRecursion Q (labelled k number sites)
  all_labelled [] each = tt
  all_labelled (s ∷ sites) each = by_label (has_label number s.link) refl (all_labelled sites (λ i. each (suc i)))
    where
      by_label : (b : Bool) → has_label number s.link ≡ b → AllByRecursion Q (labelled k number sites) → AllByRecursion Q ((if b then (k, s.site) ∷ [] else []) ++ labelled k number sites)
      by_label true e rest = (each zero s refl (label_of number s.link e), rest)
      by_label false e rest = rest

abbrev StandsFrom : ℕ → List AgentSaid → ℕ → ℕ × ℕ → Type 0
StandsFrom k agents number p = (j : ℕ) × (k + j ≡ p.0) × IsLabelled agents number j p.1

all_from : (k number : ℕ) (agents : List AgentSaid) → AllByRecursion (StandsFrom k agents number) (labelled_from k number agents)
all_from k number [] = tt
all_from k number (a ∷ agents) =
    AllByRecursion-append (StandsFrom k (a ∷ agents) number) (labelled k number a.sites) (labelled_from (suc k) number agents)
    (all_labelled k number (StandsFrom k (a ∷ agents) number) a.sites (λ i s is label. (zero, omega arith, record { agent = a; index = i; site = s; is_agent = refl; is_site = is; named = refl; label = label })))
    (AllByRecursion-weaker (StandsFrom (suc k) agents number) (StandsFrom k (a ∷ agents) number) later (labelled_from (suc k) number agents) (all_from (suc k) number agents))
  where
    later : (p : ℕ × ℕ) → StandsFrom (suc k) agents number p → StandsFrom k (a ∷ agents) number p
    later p h =
        let e = h.1 in
        let x = h.2 in
        (suc h.0, omega arith, record { agent = x.agent; index = x.index; site = x.site; is_agent = x.is_agent; is_site = x.is_site; named = x.named; label = x.label })

-- ---- each place of a label is listed

abbrev Among : ℕ × ℕ → List (ℕ × ℕ) → Type 0
Among p [] = ⊥
Among p (q ∷ places) = (p ≡ q) ⊎ Among p places

Among-left : (p : ℕ × ℕ) (ps qs : List (ℕ × ℕ)) → Among p ps → Among p (ps ++ qs)
Among-left p [] qs h = absurd h
Among-left p (x ∷ ps) qs (inl e) = inl e
Among-left p (x ∷ ps) qs (inr h) = inr (Among-left p ps qs h)

Among-right : (p : ℕ × ℕ) (ps qs : List (ℕ × ℕ)) → Among p qs → Among p (ps ++ qs)
Among-right p [] qs h = h
Among-right p (x ∷ ps) qs h = inr (Among-right p ps qs h)

among_labelled : (k number : ℕ) (sites : List SiteSaid) (i : ℕ) (s : SiteSaid) → slice_get sites i ≡ Some s → s.link ≡ Some (Label number) → Among (k, s.site) (labelled k number sites)
among_labelled k number [] i s is label = absurd cc
among_labelled k number (x ∷ sites) zero s is label =
    let same : x ≡ s = cc in
    rw (same, is_label number s.link label) (inl refl)
among_labelled k number (x ∷ sites) (suc i) s is label = Among-right (k, s.site) (if has_label number x.link then (k, x.site) ∷ [] else []) (labelled k number sites) (among_labelled k number sites i s is label)

among_from : (k number : ℕ) (agents : List AgentSaid) (j n t : ℕ) → k + j ≡ n → IsLabelled agents number j t → Among (n, t) (labelled_from k number agents)
among_from k number [] j n t e h = let is = h.is_agent in absurd cc
among_from k number (a ∷ agents) zero n t e h =
    let is = h.is_agent in
    let same : a ≡ h.agent = cc in
    let first : k ≡ n = omega arith in
    rw (← first, ← h.named, same) (Among-left (k, h.site.site) (labelled k number h.agent.sites) (labelled_from (suc k) number agents) (among_labelled k number h.agent.sites h.index h.site h.is_site h.label))
among_from k number (a ∷ agents) (suc j) n t e h =
    Among-right (n, t) (labelled k number a.sites) (labelled_from (suc k) number agents)
    (among_from (suc k) number agents j n t (omega arith) (record { agent = h.agent; index = h.index; site = h.site; is_agent = h.is_agent; is_site = h.is_site; named = h.named; label = h.label }))

-- ---- no place is listed twice

abbrev AreDifferent : List (ℕ × ℕ) → Type 0
AreDifferent [] = ⊤
AreDifferent (p ∷ places) = AllByRecursion (λ q. p ≢ q) places × AreDifferent places

AreDifferent-append : (ps qs : List (ℕ × ℕ)) → AreDifferent ps → AreDifferent qs → AllByRecursion (λ p. AllByRecursion (λ q. p ≢ q) qs) ps → AreDifferent (ps ++ qs)
AreDifferent-append [] qs first second apart = second
AreDifferent-append (p ∷ ps) qs first second apart =
    (AllByRecursion-append (λ q. p ≢ q) ps qs first.0 apart.0, AreDifferent-append ps qs first.1 second apart.1)

different_labelled : (k number : ℕ) (sites : List SiteSaid) → AllDifferent (map (λ (s : SiteSaid). s.site) sites) → AreDifferent (labelled k number sites)
different_labelled k number [] differ = tt
different_labelled k number (s ∷ sites) differ = by_label (has_label number s.link) (different_labelled k number sites (AllDifferent-tail s.site (map (λ (x : SiteSaid). x.site) sites) differ))
  where
    apart : (i : ℕ) (x : SiteSaid) → slice_get sites i ≡ Some x → x.link ≡ Some (Label number) → ◌≢◌ {A = ℕ × ℕ} (k, s.site) (k, x.site)
    apart i x is label e =
        let same : s.site ≡ x.site = ap (λ (p : ℕ × ℕ). p.1) e in
        AllDifferent-head s.site (map (λ (x : SiteSaid). x.site) sites) i differ (slice_get-map (λ (x : SiteSaid). x.site) sites i ∙ rw (is, same) refl)

    by_label : (b : Bool) → AreDifferent (labelled k number sites) → AreDifferent ((if b then (k, s.site) ∷ [] else []) ++ labelled k number sites)
    by_label true later = (all_labelled k number (λ q. ◌≢◌ {A = ℕ × ℕ} (k, s.site) q) sites apart, later)
    by_label false later = later

different_from : (k number : ℕ) (agents : List AgentSaid) → AreNamedOnce agents → AreDifferent (labelled_from k number agents)
different_from k number [] once = tt
different_from k number (a ∷ agents) once =
    AreDifferent-append (labelled k number a.sites) (labelled_from (suc k) number agents)
    (different_labelled k number a.sites (once zero a refl))
    (different_from (suc k) number agents (λ j. once (suc j)))
    (all_labelled k number (λ p. AllByRecursion (λ q. p ≢ q) (labelled_from (suc k) number agents)) a.sites (λ i s is label.
    AllByRecursion-weaker (StandsFrom (suc k) agents number) (λ q. ◌≢◌ {A = ℕ × ℕ} (k, s.site) q) (later s.site) (labelled_from (suc k) number agents) (all_from (suc k) number agents)))
  where
    later : (t : ℕ) (q : ℕ × ℕ) → StandsFrom (suc k) agents number q → ◌≢◌ {A = ℕ × ℕ} (k, t) q
    later t q h e =
        let far = h.1 in
        let near : k ≡ q.0 = ap (λ (p : ℕ × ℕ). p.0) e in
        omega arith

-- ---- two places

is_same-same : (p : ℕ × ℕ) → is_same p p ≡ true
is_same-same p = rw (eq-eqb p.0 p.0 refl, eq-eqb p.1 p.1 refl) refl

and_true : (a b : Bool) → (a && b) ≡ true → (a ≡ true) × (b ≡ true)
and_true true true e = (refl, refl)
and_true true false e = absurd cc
and_true false b e = absurd cc

pair_same : (p q : ℕ × ℕ) → p.0 ≡ q.0 → p.1 ≡ q.1 → p ≡ q
pair_same (a, b) (c, d) e f = cc

is_same-other : (p q : ℕ × ℕ) → p ≢ q → is_same p q ≡ false
is_same-other p q ne = by_answer (is_same p q) refl
  where
    by_answer : (b : Bool) → is_same p q ≡ b → is_same p q ≡ false
    by_answer false e = e
    by_answer true e =
        let both = and_true (nat_eq p.0 q.0) (nat_eq p.1 q.1) e in
        absurd (ne (pair_same p q (eqb-true p.0 q.0 both.0) (eqb-true p.1 q.1 both.1)))

-- the other one of two different places, to which a place p belongs
record IsOther (p other : ℕ × ℕ) (places : List (ℕ × ℕ)) : Type 0 where
  apart : p ≢ other
  is_other : other_of p places ≡ other
  back : other_of other places ≡ p

one_of_two : (places : List (ℕ × ℕ)) (P : ℕ × ℕ → Type 0) (p : ℕ × ℕ) → length places ≡ 2 → AreDifferent places → AllByRecursion P places → Among p places → (q : ℕ × ℕ) × (P q × IsOther p q places)
one_of_two [] P p two differ all among = absurd cc
one_of_two (q ∷ []) P p two differ all among = absurd cc
one_of_two (q ∷ r ∷ x ∷ places) P p two differ all among = absurd cc
one_of_two (q ∷ r ∷ []) P p two differ all (inl e) = (
  r,
  (
    all.1.0,
    record {
      apart = λ same. differ.0.0 (sym e ∙ same);
      is_other = rw (e, is_same-same q) refl;
      back = rw (is_same-other r q (λ same. differ.0.0 (sym same))) (sym e);
    },
  ),
)
one_of_two (q ∷ r ∷ []) P p two differ all (inr (inl e)) = (
  q,
  (
    all.0,
    record {
      apart = λ same. differ.0.0 (sym same ∙ e);
      is_other = rw (is_same-other p q (λ same. differ.0.0 (sym same ∙ e))) refl;
      back = rw (is_same-same q) (sym e);
    },
  ),
)
one_of_two (q ∷ r ∷ []) P p two differ all (inr (inr h)) = absurd h

-- what a label joins to a place where it stands: another place where it stands, to which it joins the first
pub record IsJoined (agents : List AgentSaid) (number : ℕ) (p q : ℕ × ℕ) : Type 0 where
  pub joined : joined_to agents number p ≡ q
  pub back : joined_to agents number q ≡ p
  pub apart : p ≢ q
  pub labelled : IsLabelled agents number q.0 q.1

from_zero : (agents : List AgentSaid) (number : ℕ) (q : ℕ × ℕ) → StandsFrom 0 agents number q → IsLabelled agents number q.0 q.1
from_zero agents number q h =
    let e = h.1 in
    let same : h.0 ≡ q.0 = omega arith in
    rw same at h.2

pub is_joined : (agents : List AgentSaid) (number n t : ℕ) → AreNamedOnce agents → length (places_of number agents) ≡ 2 → IsLabelled agents number n t → IsJoined agents number (n, t) (joined_to agents number (n, t))
unfolding places_of
is_joined agents number n t once two here =
    let other = one_of_two (labelled_from 0 number agents) (StandsFrom 0 agents number) (n, t) two (different_from 0 number agents once) (all_from 0 number agents) (among_from 0 number agents n n t (omega arith) here) in
    by_other other.0 other.1.0 other.1.1
  where
    by_other : (q : ℕ × ℕ) → StandsFrom 0 agents number q → IsOther (n, t) q (labelled_from 0 number agents) → IsJoined agents number (n, t) (other_of (n, t) (labelled_from 0 number agents))
    by_other q stands is_other =
        rw is_other.is_other (record {
          joined = is_other.is_other;
          back = is_other.back;
          apart = is_other.apart;
          labelled = from_zero agents number q stands;
        })
