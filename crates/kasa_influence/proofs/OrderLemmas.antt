-- The order of arrows is strict and total, and comparisons answer by it.
use Rattle.std.proofs.Common.{◌≡◌, ℕ, zero, suc, ◌<◌, inl, inr, List, [], ◌∷◌, refl, sym, ap, ◌∙◌, arith}
use Rattle.std.specs.Prelude.{Bool, true, Some, ◌↔◌}
use Rattle.std.specs.declared.cmp.Ordering.{Ordering}
use Rattle.std.specs.declared.cmp.Ordering.TheVariants.{Less, Equal, Greater}
use Rattle.std.specs.Ordering.{nat_cmp, ordering_then, is_eq, eq_by_cmp, MatchOrdering}
use Rattle.std.specs.Cmp.{IsEquivalence}
use Rattle.std.specs.List.{All, AllPairs, AllByRecursion, Contains, dedup}
use Rattle.std.specs.List.Sorted.{IsSorted, IsPermutation, IsStrictlySortedBy}
use Rattle.std.proofs.lemmas.Cmp.{ranked}
use Rattle.std.proofs.lemmas.Option.{slice_get_within, get_or_from_slice_get, slice_get-get_or}
use Rattle.std.proofs.lemmas.List.Kept.{AllPairs-cons, Contains-dedup, Contains-from_dedup, IsStrictlySortedBy-dedup}
use Rattle.std.proofs.lemmas.List.Sorted.{Contains-permutation, IsPermutation-sym}
use Rattle.kasa_graph.specs.Lists.{Has}
use Rattle.kasa_influence.specs.declared.map.Arrow.{Arrow}
use Rattle.kasa_influence.specs.Arrows.{IsArrowBelow}
use Rattle.kasa_influence.specs.contracts.map.ArrowOrd.TheImpl as arrow
use Rattle.kasa_influence.specs.contracts.map.ArrowOrd.TheImpl.Laws.{total-law as arrows_total, matches_eq-law as arrows_match}
use Rattle.kasa_influence.specs.contracts.map.ArrowPartialEq.TheImpl as arrow_equal
use Rattle.kasa_influence.specs.contracts.map.ArrowEq.TheImpl.Laws.{laws-law as arrows_equivalence}

by_number : (i j : ℕ) → MatchOrdering (nat_cmp i j) (i < j) (i ≡ j) (j < i)
by_number i j = ranked i j (nat_cmp i j) refl

module _ (p q : Arrow) where
  by_two : (one two : Ordering) → MatchOrdering one (p.from < q.from) (p.from ≡ q.from) (q.from < p.from) → MatchOrdering two (p.to < q.to) (p.to ≡ q.to) (q.to < p.to) →
      MatchOrdering (ordering_then one two) (IsArrowBelow p q) (p ≡ q) (IsArrowBelow q p)
  by_two Less two first second = inl first
  by_two Greater two first second = inl first
  by_two Equal Less first second = inr (first, second)
  by_two Equal Greater first second = inr (sym first, second)
  by_two Equal Equal first second = λ i. record { from = first i; to = second i }

by_arrow : (p q : Arrow) → MatchOrdering ((arrow.ghosts).cmp p q) (IsArrowBelow p q) (p ≡ q) (IsArrowBelow q p)
by_arrow p q = by_two p q (nat_cmp p.from q.from) (nat_cmp p.to q.to) (by_number p.from q.from) (by_number p.to q.to)

-- ---- what is left of a list that is sorted, without repeats

Has-contains : {X : Type 0} (xs : List X) (x : X) → Has xs x → Contains xs x
Has-contains xs x h = (h.0, slice_get_within xs h.0 x h.1, get_or_from_slice_get xs h.0 x x h.1)

Contains-has : {X : Type 0} (xs : List X) (x : X) → Contains xs x → Has xs x
Contains-has xs x h = (h.0, slice_get-get_or xs h.0 x h.1 ∙ ap Some h.2)

module _ {X : Type 0} (Before : X → X → Type 0) (cmp : X → X → Ordering) (by : (x y : X) → MatchOrdering (cmp x y) (Before x y) (x ≡ y) (Before y x)) where
  at_less : (x y : X) (o : Ordering) → MatchOrdering o (Before x y) (x ≡ y) (Before y x) → o ≡ Less → Before x y
  at_less x y Less h e = h
  at_less x y Equal h e = absurd cc
  at_less x y Greater h e = absurd cc

  all_before : (x : X) (xs : List X) → AllByRecursion (λ y. cmp x y ≡ Less) xs → All (Before x) xs
  all_before x [] less k d h = absurd (omega arith)
  all_before x (y ∷ xs) less zero d h = at_less x y (cmp x y) (by x y) less.0
  all_before x (y ∷ xs) less (suc k) d h = all_before x xs less.1 k d (omega arith)

  AllPairs-strictly_sorted : (xs : List X) → IsStrictlySortedBy cmp xs → AllPairs Before xs
  unfolding IsStrictlySortedBy
  AllPairs-strictly_sorted [] sorted = λ i j d h l. absurd (omega arith)
  AllPairs-strictly_sorted (x ∷ xs) sorted = AllPairs-cons Before x xs (all_before x xs sorted.0) (AllPairs-strictly_sorted xs sorted.1)

  at_equal : (x y : X) (o : Ordering) → MatchOrdering o (Before x y) (x ≡ y) (Before y x) → is_eq o ≡ true → x ≡ y
  at_equal x y Less h e = absurd cc
  at_equal x y Equal h e = h
  at_equal x y Greater h e = absurd cc

  equal_from : {E : X → X → Bool} → ((x y : X) → E x y ≡ eq_by_cmp cmp x y) → (x y : X) → E x y ≡ true → x ≡ y
  equal_from match x y e = at_equal x y (cmp x y) (by x y) (sym (match x y) ∙ e)

-- `sort` and `dedup` keep the elements
module _ {X : Type 0} {E : X → X → Bool} (equivalence : IsEquivalence E) (same : (x y : X) → E x y ≡ true → x ≡ y) (xs moved : List X) (moves : IsPermutation xs moved) (x : X) where
  Has-in_order : Has (dedup E moved) x ↔ Has xs x
  Has-in_order = (
    λ h. Contains-has xs x (Contains-permutation _ _ x (IsPermutation-sym _ _ moves) (Contains-from_dedup _ moved x (Has-contains _ x h))),
    λ h. Contains-has _ x (Contains-dedup equivalence same moved x (Contains-permutation _ _ x moves (Has-contains xs x h))),
  )

pub arrows_kept : (xs moved : List Arrow) → IsPermutation xs moved → (p : Arrow) → Has (dedup (arrow_equal.ghosts).eq moved) p ↔ Has xs p
arrows_kept xs moved moves p = Has-in_order arrows_equivalence (equal_from IsArrowBelow (arrow.ghosts).cmp by_arrow arrows_match) xs moved moves p

pub arrows_ascend : (xs : List Arrow) → IsSorted (arrow.ghosts).cmp xs → AllPairs IsArrowBelow (dedup (arrow_equal.ghosts).eq xs)
arrows_ascend xs sorted = AllPairs-strictly_sorted IsArrowBelow (arrow.ghosts).cmp by_arrow _ (IsStrictlySortedBy-dedup arrows_total arrows_match xs sorted)
