-- The points and their numbers, as loops list them.
use Rattle.std.proofs.Common.{◌≡◌, ℕ, zero, suc, ◌+◌, ◌*◌, ◌<◌, ◌≤◌, ◌⊎◌, inl, inr, List, [], ◌∷◌, ◌++◌, length, true, take, get_or, set, refl, sym, ap, subst, ◌∙◌, arith}
use Rattle.std.specs.Prelude.{Some, slice_get, ◌↔◌, Vec}
use Rattle.std.specs.List.{AllPairs}
use Rattle.std.proofs.lemmas.Bool.{cases_eq, cases_lt}
use Rattle.std.proofs.lemmas.Option.{slice_get_within, slice_get-get_or}
use Rattle.std.proofs.lemmas.List.{length-map, take_all}
use Rattle.std.proofs.lemmas.List.Quantifiers.{all_pairs_push}
use Rattle.kasa_digraph.specs.Graph.{has, successors}
use Rattle.kasa_digraph.proofs.Lists.{in_push, in_left, in_last, taken_back, taken_kept, taken_here, true_false}
use Rattle.kasa_digraph.proofs.Flooding.{successors_set, successors_set_here}
use Rattle.kasa_graph.specs.Lists.{Has}
use Rattle.kasa_graph.specs.Signature.{TypeEntry, SiteEntry, sites_of, state_counts, IsSignature, HasSite}
use Rattle.kasa_graph.proofs.ListLemmas.{some_at}
use Rattle.kasa_polymers.specs.declared.map.Bond.{Bond}
use Rattle.kasa_polymers.specs.Order.{IsBondBelow}
use Rattle.kasa_polymers.specs.inner.Gather.{Adds, Below}
use Rattle.kasa_polymers.specs.inner.Steps.{IsBondOver, AreNumbers}
use Rattle.kasa_polymers.proofs.OrderLemmas.{pair_at}
use Rattle.kasa_polymers.proofs.AddsLemmas.{Adds-none, Adds-push, Adds-then, Adds-same, Below-none, Below-more}

-- ---- those of some bonds that have a property

module _ (bonds : List Bond) (P : Bond → Type 0) where
  abbrev pub IsAt : ℕ → Bond → Type 0
  IsAt k p = (slice_get bonds k ≡ Some p) × P p

  -- the listed ones are those among the first k that have the property
  pub record AreFiltered (k : ℕ) (points : List Bond) : Type 0 where
    pub listed : Adds (Below IsAt k) [] points
    pub ascend : AllPairs IsBondBelow points

  pub filtered_none : AreFiltered 0 []
  filtered_none = record { listed = Adds-none (Below IsAt 0) [] (Below-none IsAt); ascend = λ i j d h l. absurd (omega arith) }

  filtered_more : (k : ℕ) (old new : List Bond) → Adds (IsAt k) old new → Adds (Below IsAt k) [] old → Adds (Below IsAt (k + 1)) [] new
  filtered_more k old new now before = Adds-same (λ p. Below IsAt k p ⊎ IsAt k p) (Below IsAt (k + 1)) [] new (Below-more IsAt k) (Adds-then (Below IsAt k) (IsAt k) [] old new before now)

  pub filtered_skip : (k : ℕ) (points : List Bond) (p : Bond) → slice_get bonds k ≡ Some p → ¬ P p → AreFiltered k points → AreFiltered (k + 1) points
  filtered_skip k points p at fails f = record {
    listed = filtered_more k points points (Adds-none (IsAt k) points (λ q is. let same : Some p ≡ Some q = sym at ∙ is.0 in let one : p ≡ q = cc in fails (subst P (sym one) is.1))) f.listed;
    ascend = f.ascend;
  }

  was_before : (k : ℕ) (points : List Bond) (q : Bond) → Has points q → AreFiltered k points → Below IsAt k q
  was_before k points q has f = elim ((f.listed q).0 has) [ inl (j, e) ↦ absurd cc | inr is ↦ is ]

  pub filtered_push : AllPairs IsBondBelow bonds → (k : ℕ) (points : List Bond) (p : Bond) → slice_get bonds k ≡ Some p → P p → AreFiltered k points → AreFiltered (k + 1) (points ++ p ∷ [])
  filtered_push ascend k points p at holds f = record {
    listed = filtered_more k points (points ++ p ∷ []) (Adds-push (IsAt k) points p (λ q. (
      λ is. let same : Some p ≡ Some q = sym at ∙ is.0 in cc,
      λ e. (at ∙ ap Some e, subst P e holds),
    ))) f.listed;
    ascend = all_pairs_push IsBondBelow points p f.ascend (λ i d h.
        let was = was_before k points (get_or points i d) (i, slice_get-get_or points i d h) f in
        pair_at IsBondBelow bonds was.0 k (get_or points i d) p ascend was.1 was.2.0 at);
  }

  pub filtered_all : (k : ℕ) (points : List Bond) → length bonds ≤ k → AreFiltered k points → (p : Bond) → Has points p ↔ (Has bonds p × P p)
  filtered_all k points all f p = (
    λ has. let was = was_before k points p has f in ((was.0, was.2.0), was.2.1),
    λ ((j, at), holds). let h = slice_get_within bonds j p at in (f.listed p).1 (inr (j, (omega arith), (at, holds))),
  )

-- ---- how many bonds there can be

-- a number for each bond over a signature, which grows with the bonds
code : Bond → ℕ
code p = ((p.a * 32 + p.x) * 500 + p.b) * 32 + p.y

record IsSmall (p : Bond) : Type 0 where
  first : p.a < 500
  first_site : p.x < 32
  second : p.b < 500
  second_site : p.y < 32

below_code : (p q : Bond) → IsSmall p → IsSmall q → IsBondBelow p q → code p < code q
unfolding code
below_code p q small small' (inl h) = let x = small.first_site in let b = small.second in let y = small.second_site in omega arith
below_code p q small small' (inr (inl (a, h))) = let b = small.second in let y = small.second_site in omega arith
below_code p q small small' (inr (inr (inl (a, x, h)))) = let y = small.second_site in omega arith
below_code p q small small' (inr (inr (inr (a, x, b, h)))) = omega arith

small_code : (p : Bond) → IsSmall p → code p < 256000000
unfolding code
small_code p small = let a = small.first in let x = small.first_site in let b = small.second in let y = small.second_site in omega arith

module _ (points : List Bond) (ascend : AllPairs IsBondBelow points) (small : (p : Bond) → Has points p → IsSmall p) where
  under_code : (i : ℕ) (p : Bond) → slice_get points i ≡ Some p → i ≤ code p
  under_code zero p at = omega arith
  under_code (suc i) p at =
      let within = slice_get_within points (suc i) p at in
      let q = some_at points i (omega arith) in
      let less = below_code q.0 p (small q.0 (i, q.1)) (small p (suc i, at)) (pair_at IsBondBelow points i (suc i) q.0 p ascend (omega arith) q.1 at) in
      let h = under_code i q.0 q.1 in omega arith

  few_small : (n : ℕ) → length points ≡ n → n ≤ 256000000
  few_small zero e = omega arith
  few_small (suc n) e =
      let p = some_at points n (omega arith) in
      let h = under_code n p.0 p.1 in
      let less = small_code p.0 (small p.0 (n, p.1)) in omega arith

module _ (sig : List TypeEntry) (valid : IsSignature sig) where
  few_types : length sig ≤ 500
  few_types = let h = valid.types.few in let e = length-map sig (λ (t : TypeEntry). t.name) in omega arith

  few_sites : (a x : ℕ) → HasSite sig a x → x < 32
  unfolding state_counts
  few_sites a x has =
      let names = valid.sites a in
      let h = names.few in
      let e = length-map (sites_of sig a) (λ (s : SiteEntry). s.name) in
      let d = length-map (sites_of sig a) (λ (s : SiteEntry). length s.states) in omega arith

  pub few_bonds : (points : List Bond) → AllPairs IsBondBelow points → ((p : Bond) → Has points p → IsBondOver sig p) → length points < 4294967295
  few_bonds points ascend over =
      let h = few_small points ascend (λ p has.
      let o = over p has in
      let types = few_types in
      record {
        first = let f = o.first in omega arith;
        first_site = few_sites p.a p.x o.first_site;
        second = let f = o.second in omega arith;
        second_site = few_sites p.b p.y o.second_site;
      }) (length points) refl in omega arith

-- ---- the points that lead from each type

module _ (points : List Bond) where
  -- the numbers below n are listed by type
  abbrev pub AreByType : ℕ → (ℕ → List ℕ) → Type 0
  AreByType n next = (a j : ℕ) → (has (next a) j ≡ true) ↔ ((q : Bond) × (slice_get points j ≡ Some q) × (q.a ≡ a) × (j < n))

  pub by_type_none : (next : ℕ → List ℕ) → ((a j : ℕ) → ¬ (has (next a) j ≡ true)) → AreByType 0 next
  by_type_none next none a j = (λ h. absurd (none a j h), λ (q, at, is, h). absurd (omega arith))

  pub by_type_more : {Z : Type 0} (n : ℕ) (p : Bond) (lists : List (Vec ℕ Z)) (v : Vec ℕ Z) → slice_get points n ≡ Some p → p.a < length lists → v.items ≡ successors lists p.a ++ n ∷ [] → AreByType n (successors lists) → AreByType (n + 1) (successors (set lists p.a v))
  by_type_more n p lists v at within pushed before a j = elim (cases_eq a p.a) [
    | inl is ↦ (
      (λ h.
          let there : has (successors lists p.a ++ n ∷ []) j ≡ true = subst (λ (xs : List ℕ). has xs j ≡ true) (successors_set_here lists p.a v within ∙ pushed) (let P : ℕ → Type 0 = λ b. has (successors (set lists p.a v) b) j ≡ true in subst P is h) in
          elim (in_push (successors lists p.a) n j there) [
            | inl old ↦ (let q = (before p.a j).0 old in (q.0, q.1, q.2 ∙ sym is, let less = q.3 in omega arith))
            | inr now ↦ (p, ap (slice_get points) now ∙ at, sym is, omega arith)
          ]),
      (λ (q, there, type, h).
          let now : has (successors lists p.a ++ n ∷ []) j ≡ true = elim (cases_lt j n) [
            | inl less ↦ in_left (successors lists p.a) (n ∷ []) j ((before p.a j).1 (q, there, type ∙ is, less))
            | inr more ↦ (let same : n ≡ j = omega arith in let P : ℕ → Type 0 = λ i. has (successors lists p.a ++ n ∷ []) i ≡ true in subst P same (in_last (successors lists p.a) n))
          ] in
          let P : ℕ → Type 0 = λ b. has (successors (set lists p.a v) b) j ≡ true in
          subst P (sym is) (subst (λ (xs : List ℕ). has xs j ≡ true) (sym (successors_set_here lists p.a v within ∙ pushed)) now)),
    )
    | inr ne ↦ (
      (λ h.
          let q = (before a j).0 (subst (λ (xs : List ℕ). has xs j ≡ true) (successors_set lists p.a v a ne) h) in
          (q.0, q.1, q.2, let less = q.3 in omega arith)),
      (λ (q, there, type, h). elim (cases_lt j n) [
        | inl less ↦ subst (λ (xs : List ℕ). has xs j ≡ true) (sym (successors_set lists p.a v a ne)) ((before a j).1 (q, there, type, less))
        | inr more ↦ (
            let same : j ≡ n = omega arith in
            let twice : Some q ≡ Some p = sym there ∙ ap (slice_get points) same ∙ at in
            let one : q ≡ p = cc in
            absurd (ne (sym type ∙ ap (λ (r : Bond). r.a) one)))
      ]),
    )
  ]

  pub by_type_all : (n : ℕ) (next : ℕ → List ℕ) → length points ≤ n → AreByType n next → (a : ℕ) → AreNumbers points (λ q. q.a ≡ a) (next a)
  by_type_all n next all listed a j = (
    λ h. let q = (listed a j).0 h in (q.0, q.1, q.2),
    λ (q, at, is). let h = slice_get_within points j q at in (listed a j).1 (q, at, is, omega arith),
  )

-- ---- those of some numbers whose points have a property

module _ (points : List Bond) (P : Bond → Type 0) (next : List ℕ) where
  abbrev pub AreChosen : ℕ → List ℕ → Type 0
  AreChosen k steps = (j : ℕ) → (has steps j ≡ true) ↔ ((has (take k next) j ≡ true) × ((q : Bond) × (slice_get points j ≡ Some q) × P q))

  pub chosen_none : AreChosen 0 []
  chosen_none j = (λ h. true_false (sym h), λ (h, there). true_false (sym h))

  pub chosen_push : (k : ℕ) (steps : List ℕ) (q : Bond) → k < length next → slice_get points (get_or next k 0) ≡ Some q → P q → AreChosen k steps → AreChosen (k + 1) (steps ++ get_or next k 0 ∷ [])
  chosen_push k steps q within at holds before j = (
    (λ h. elim (in_push steps (get_or next k 0) j h) [
      | inl old ↦ (let b = (before j).0 old in (taken_kept next k j within b.0, b.1))
      | inr now ↦ (taken_here next k j within now, (q, ap (slice_get points) now ∙ at, holds))
    ]),
    (λ (h, there). elim (taken_back next k j within h) [
      | inl old ↦ in_left steps (get_or next k 0 ∷ []) j ((before j).1 (old, there))
      | inr now ↦ (let R : ℕ → Type 0 = λ i. has (steps ++ get_or next k 0 ∷ []) i ≡ true in subst R (sym now) (in_last steps (get_or next k 0)))
    ]),
  )

  pub chosen_skip : (k : ℕ) (steps : List ℕ) (q : Bond) → k < length next → slice_get points (get_or next k 0) ≡ Some q → ¬ P q → AreChosen k steps → AreChosen (k + 1) steps
  chosen_skip k steps q within at fails before j = (
    (λ h. let b = (before j).0 h in (taken_kept next k j within b.0, b.1)),
    (λ (h, (r, there, holds)). elim (taken_back next k j within h) [
      | inl old ↦ (before j).1 (old, (r, there, holds))
      | inr now ↦ (
          let twice : Some r ≡ Some q = sym there ∙ ap (slice_get points) now ∙ at in
          let one : r ≡ q = cc in absurd (fails (subst P one holds)))
    ]),
  )

  pub chosen_all : (Q : Bond → Type 0) (k : ℕ) (steps : List ℕ) → length next ≤ k → ((q : Bond) → P q → Q q) → AreNumbers points Q next → AreChosen k steps → AreNumbers points P steps
  chosen_all Q k steps all to numbers chosen j = (
    (λ h. ((chosen j).0 h).1),
    (λ (q, at, holds). (chosen j).1 (subst (λ (xs : List ℕ). has xs j ≡ true) (sym (take_all k next all)) ((numbers j).1 (q, at, to q holds)), (q, at, holds))),
  )

-- ---- one list more

pub successors-old : {Z : Type 0} (lists : List (Vec ℕ Z)) (v : Vec ℕ Z) (i : ℕ) → i < length lists → successors (lists ++ v ∷ []) i ≡ successors lists i
successors-old [] v i h = absurd (omega arith)
successors-old (u ∷ lists) v zero h = refl
successors-old (u ∷ lists) v (suc i) h = successors-old lists v i (omega arith)

pub successors-new : {Z : Type 0} (lists : List (Vec ℕ Z)) (v : Vec ℕ Z) (i : ℕ) → i ≡ length lists → successors (lists ++ v ∷ []) i ≡ v.items
successors-new [] v zero h = refl
successors-new [] v (suc i) h = absurd (omega arith)
successors-new (u ∷ lists) v zero h = absurd (omega arith)
successors-new (u ∷ lists) v (suc i) h = successors-new lists v i (omega arith)

-- the same at a list of another number, which is the type
pub by_type_next : {Z : Type 0} (points : List Bond) (n i : ℕ) (p : Bond) (lists : List (Vec ℕ Z)) (v : Vec ℕ Z) → i ≡ p.a → slice_get points n ≡ Some p → p.a < length lists → v.items ≡ successors lists i ++ n ∷ [] → AreByType points n (successors lists) → AreByType points (n + 1) (successors (set lists i v))
by_type_next points n i p lists v is at within pushed before = rw is (by_type_more points n p lists v at within (rw is at pushed) before)
