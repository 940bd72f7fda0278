-- The orders of bonds and of states are strict and total, and comparisons answer by them.
use Rattle.std.proofs.Common.{◌≡◌, ℕ, zero, suc, ◌+◌, ◌<◌, ◌⊎◌, inl, inr, List, [], ◌∷◌, refl, sym, ap, ◌∙◌, arith}
use Rattle.std.specs.Prelude.{Bool, true, Some, slice_get, ◌↔◌}
use Rattle.std.specs.declared.cmp.Ordering.{Ordering}
use Rattle.std.specs.declared.cmp.Ordering.TheVariants.{Less, Equal, Greater}
use Rattle.std.specs.Ordering.{nat_cmp, ordering_then, is_eq, eq_by_cmp, MatchOrdering}
use Rattle.std.specs.Cmp.{IsEquivalence}
use Rattle.std.specs.List.{All, AllPairs, AllByRecursion, Contains, dedup}
use Rattle.std.specs.List.Sorted.{IsSorted, IsPermutation, IsStrictlySortedBy}
use Rattle.std.proofs.lemmas.Cmp.{ranked}
use Rattle.std.proofs.lemmas.Option.{slice_get_within, get_or_from_slice_get, slice_get-get_or}
use Rattle.std.proofs.lemmas.List.Kept.{AllPairs-cons, Contains-dedup, Contains-from_dedup, IsStrictlySortedBy-dedup}
use Rattle.std.proofs.lemmas.List.Sorted.{Contains-permutation, IsPermutation-sym}
use Rattle.kasa_graph.specs.Lists.{Has, AllDifferent}
use Rattle.kasa_graph.proofs.ListLemmas.{below_or, same_or_not}
use Rattle.kasa_polymers.specs.declared.map.Bond.{Bond}
use Rattle.kasa_polymers.specs.declared.map.StateSeen.{StateSeen}
use Rattle.kasa_polymers.specs.Order.{IsBondBelow, IsStateBelow}
use Rattle.kasa_polymers.specs.contracts.map.BondOrd.TheImpl as bond
use Rattle.kasa_polymers.specs.contracts.map.BondOrd.TheImpl.Laws.{total-law as bonds_total, matches_eq-law as bonds_match}
use Rattle.kasa_polymers.specs.contracts.map.BondPartialEq.TheImpl as bond_equal
use Rattle.kasa_polymers.specs.contracts.map.BondEq.TheImpl.Laws.{laws-law as bonds_equivalence}
use Rattle.kasa_polymers.specs.contracts.map.StateSeenOrd.TheImpl as state
use Rattle.kasa_polymers.specs.contracts.map.StateSeenOrd.TheImpl.Laws.{total-law as states_total, matches_eq-law as states_match}
use Rattle.kasa_polymers.specs.contracts.map.StateSeenPartialEq.TheImpl as state_equal
use Rattle.kasa_polymers.specs.contracts.map.StateSeenEq.TheImpl.Laws.{laws-law as states_equivalence}

-- ---- bonds

pub bond_same : (p q : Bond) → p.a ≡ q.a → p.x ≡ q.x → p.b ≡ q.b → p.y ≡ q.y → p ≡ q
bond_same p q a x b y = λ i. record { a = a i; x = x i; b = b i; y = y i }

by_number : (i j : ℕ) → MatchOrdering (nat_cmp i j) (i < j) (i ≡ j) (j < i)
by_number i j = ranked i j (nat_cmp i j) refl

module _ (p q : Bond) where
  by_parts : (one two three four : Ordering) → MatchOrdering one (p.a < q.a) (p.a ≡ q.a) (q.a < p.a) → MatchOrdering two (p.x < q.x) (p.x ≡ q.x) (q.x < p.x) → MatchOrdering three (p.b < q.b) (p.b ≡ q.b) (q.b < p.b) → MatchOrdering four (p.y < q.y) (p.y ≡ q.y) (q.y < p.y) →
      MatchOrdering (ordering_then one (ordering_then two (ordering_then three four))) (IsBondBelow p q) (p ≡ q) (IsBondBelow q p)
  by_parts Less two three four a x b y = inl a
  by_parts Greater two three four a x b y = inl a
  by_parts Equal Less three four a x b y = inr (inl (a, x))
  by_parts Equal Greater three four a x b y = inr (inl (sym a, x))
  by_parts Equal Equal Less four a x b y = inr (inr (inl (a, x, b)))
  by_parts Equal Equal Greater four a x b y = inr (inr (inl (sym a, sym x, b)))
  by_parts Equal Equal Equal Less a x b y = inr (inr (inr (a, x, b, y)))
  by_parts Equal Equal Equal Greater a x b y = inr (inr (inr (sym a, sym x, sym b, y)))
  by_parts Equal Equal Equal Equal a x b y = bond_same p q a x b y

by_bond : (p q : Bond) → MatchOrdering ((bond.ghosts).cmp p q) (IsBondBelow p q) (p ≡ q) (IsBondBelow q p)
by_bond p q = by_parts p q (nat_cmp p.a q.a) (nat_cmp p.x q.x) (nat_cmp p.b q.b) (nat_cmp p.y q.y) (by_number p.a q.a) (by_number p.x q.x) (by_number p.b q.b) (by_number p.y q.y)

pub not_below_self : (p : Bond) → ¬ IsBondBelow p p
not_below_self p (inl h) = omega arith
not_below_self p (inr (inl h)) = let less = h.1 in omega arith
not_below_self p (inr (inr (inl h))) = let less = h.2 in omega arith
not_below_self p (inr (inr (inr h))) = let less = h.3 in omega arith

pub below-trans : (p q r : Bond) → IsBondBelow p q → IsBondBelow q r → IsBondBelow p r
below-trans p q r (inl h) (inl g) = inl (omega arith)
below-trans p q r (inl h) (inr (inl g)) = inl (let e = g.0 in omega arith)
below-trans p q r (inl h) (inr (inr (inl g))) = inl (let e = g.0 in omega arith)
below-trans p q r (inl h) (inr (inr (inr g))) = inl (let e = g.0 in omega arith)
below-trans p q r (inr (inl h)) (inl g) = inl (let e = h.0 in omega arith)
below-trans p q r (inr (inr (inl h))) (inl g) = inl (let e = h.0 in omega arith)
below-trans p q r (inr (inr (inr h))) (inl g) = inl (let e = h.0 in omega arith)
below-trans p q r (inr (inl h)) (inr (inl g)) = inr (inl (h.0 ∙ g.0, let f = h.1 in let e = g.1 in omega arith))
below-trans p q r (inr (inl h)) (inr (inr (inl g))) = inr (inl (h.0 ∙ g.0, let f = h.1 in let e = g.1 in omega arith))
below-trans p q r (inr (inl h)) (inr (inr (inr g))) = inr (inl (h.0 ∙ g.0, let f = h.1 in let e = g.1 in omega arith))
below-trans p q r (inr (inr (inl h))) (inr (inl g)) = inr (inl (h.0 ∙ g.0, let f = h.1 in let e = g.1 in omega arith))
below-trans p q r (inr (inr (inr h))) (inr (inl g)) = inr (inl (h.0 ∙ g.0, let f = h.1 in let e = g.1 in omega arith))
below-trans p q r (inr (inr (inl h))) (inr (inr (inl g))) = inr (inr (inl (h.0 ∙ g.0, h.1 ∙ g.1, let f = h.2 in let e = g.2 in omega arith)))
below-trans p q r (inr (inr (inl h))) (inr (inr (inr g))) = inr (inr (inl (h.0 ∙ g.0, h.1 ∙ g.1, let f = h.2 in let e = g.2 in omega arith)))
below-trans p q r (inr (inr (inr h))) (inr (inr (inl g))) = inr (inr (inl (h.0 ∙ g.0, h.1 ∙ g.1, let f = h.2 in let e = g.2 in omega arith)))
below-trans p q r (inr (inr (inr h))) (inr (inr (inr g))) = inr (inr (inr (h.0 ∙ g.0, h.1 ∙ g.1, h.2 ∙ g.2, let f = h.3 in let e = g.3 in omega arith)))

bonds_by : (p q : Bond) (o : Ordering) → MatchOrdering o (IsBondBelow p q) (p ≡ q) (IsBondBelow q p) → IsBondBelow p q ⊎ (p ≡ q) ⊎ IsBondBelow q p
bonds_by p q Less h = inl h
bonds_by p q Equal h = inr (inl h)
bonds_by p q Greater h = inr (inr h)

pub bonds_ordered : (p q : Bond) → IsBondBelow p q ⊎ (p ≡ q) ⊎ IsBondBelow q p
bonds_ordered p q = bonds_by p q ((bond.ghosts).cmp p q) (by_bond p q)

-- ---- states

module _ (s t : StateSeen) where
  by_three : (one two three : Ordering) → MatchOrdering one (s.a < t.a) (s.a ≡ t.a) (t.a < s.a) → MatchOrdering two (s.x < t.x) (s.x ≡ t.x) (t.x < s.x) → MatchOrdering three (s.u < t.u) (s.u ≡ t.u) (t.u < s.u) →
      MatchOrdering (ordering_then one (ordering_then two three)) (IsStateBelow s t) (s ≡ t) (IsStateBelow t s)
  by_three Less two three a x u = inl a
  by_three Greater two three a x u = inl a
  by_three Equal Less three a x u = inr (inl (a, x))
  by_three Equal Greater three a x u = inr (inl (sym a, x))
  by_three Equal Equal Less a x u = inr (inr (a, x, u))
  by_three Equal Equal Greater a x u = inr (inr (sym a, sym x, u))
  by_three Equal Equal Equal a x u = λ i. record { a = a i; x = x i; u = u i }

by_state : (s t : StateSeen) → MatchOrdering ((state.ghosts).cmp s t) (IsStateBelow s t) (s ≡ t) (IsStateBelow t s)
by_state s t = by_three s t (nat_cmp s.a t.a) (nat_cmp s.x t.x) (nat_cmp s.u t.u) (by_number s.a t.a) (by_number s.x t.x) (by_number s.u t.u)

-- ---- what is left of a list that is sorted, without repeats

pub Has-contains : {X : Type 0} (xs : List X) (x : X) → Has xs x → Contains xs x
Has-contains xs x h = (h.0, slice_get_within xs h.0 x h.1, get_or_from_slice_get xs h.0 x x h.1)

pub Contains-has : {X : Type 0} (xs : List X) (x : X) → Contains xs x → Has xs x
Contains-has xs x h = (h.0, slice_get-get_or xs h.0 x h.1 ∙ ap Some h.2)

module _ {X : Type 0} (Before : X → X → Type 0) (cmp : X → X → Ordering) (by : (x y : X) → MatchOrdering (cmp x y) (Before x y) (x ≡ y) (Before y x)) where
  at_less : (x y : X) (o : Ordering) → MatchOrdering o (Before x y) (x ≡ y) (Before y x) → o ≡ Less → Before x y
  at_less x y Less h e = h
  at_less x y Equal h e = absurd cc
  at_less x y Greater h e = absurd cc

  all_before : (x : X) (xs : List X) → AllByRecursion (λ y. cmp x y ≡ Less) xs → All (Before x) xs
  all_before x [] less k d h = absurd (omega arith)
  all_before x (y ∷ xs) less zero d h = at_less x y (cmp x y) (by x y) less.0
  all_before x (y ∷ xs) less (suc k) d h = all_before x xs less.1 k d (omega arith)

  pub AllPairs-strictly_sorted : (xs : List X) → IsStrictlySortedBy cmp xs → AllPairs Before xs
  unfolding IsStrictlySortedBy
  AllPairs-strictly_sorted [] sorted = λ i j d h l. absurd (omega arith)
  AllPairs-strictly_sorted (x ∷ xs) sorted = AllPairs-cons Before x xs (all_before x xs sorted.0) (AllPairs-strictly_sorted xs sorted.1)

  at_equal : (x y : X) (o : Ordering) → MatchOrdering o (Before x y) (x ≡ y) (Before y x) → is_eq o ≡ true → x ≡ y
  at_equal x y Less h e = absurd cc
  at_equal x y Equal h e = h
  at_equal x y Greater h e = absurd cc

  pub equal_from : {E : X → X → Bool} → ((x y : X) → E x y ≡ eq_by_cmp cmp x y) → (x y : X) → E x y ≡ true → x ≡ y
  equal_from match x y e = at_equal x y (cmp x y) (by x y) (sym (match x y) ∙ e)

-- `sort` and `dedup` keep the elements
module _ {X : Type 0} {E : X → X → Bool} (equivalence : IsEquivalence E) (same : (x y : X) → E x y ≡ true → x ≡ y) (xs moved : List X) (moves : IsPermutation xs moved) (x : X) where
  pub Has-in_order : Has (dedup E moved) x ↔ Has xs x
  Has-in_order = (
    λ h. Contains-has xs x (Contains-permutation _ _ x (IsPermutation-sym _ _ moves) (Contains-from_dedup _ moved x (Has-contains _ x h))),
    λ h. Contains-has _ x (Contains-dedup equivalence same moved x (Contains-permutation _ _ x moves (Has-contains xs x h))),
  )

pub bonds_kept : (xs moved : List Bond) → IsPermutation xs moved → (p : Bond) → Has (dedup (bond_equal.ghosts).eq moved) p ↔ Has xs p
bonds_kept xs moved moves p = Has-in_order bonds_equivalence (equal_from IsBondBelow (bond.ghosts).cmp by_bond bonds_match) xs moved moves p

pub bonds_ascend : (xs : List Bond) → IsSorted (bond.ghosts).cmp xs → AllPairs IsBondBelow (dedup (bond_equal.ghosts).eq xs)
bonds_ascend xs sorted = AllPairs-strictly_sorted IsBondBelow (bond.ghosts).cmp by_bond _ (IsStrictlySortedBy-dedup bonds_total bonds_match xs sorted)

pub states_kept : (xs moved : List StateSeen) → IsPermutation xs moved → (s : StateSeen) → Has (dedup (state_equal.ghosts).eq moved) s ↔ Has xs s
states_kept xs moved moves s = Has-in_order states_equivalence (equal_from IsStateBelow (state.ghosts).cmp by_state states_match) xs moved moves s

pub states_ascend : (xs : List StateSeen) → IsSorted (state.ghosts).cmp xs → AllPairs IsStateBelow (dedup (state_equal.ghosts).eq xs)
states_ascend xs sorted = AllPairs-strictly_sorted IsStateBelow (state.ghosts).cmp by_state _ (IsStrictlySortedBy-dedup states_total states_match xs sorted)

-- ---- ascending lists

-- of two elements the earlier comes before the later
pub pair_at : {X : Type 0} (R : X → X → Type 0) (xs : List X) (i j : ℕ) (x y : X) → AllPairs R xs → i < j → slice_get xs i ≡ Some x → slice_get xs j ≡ Some y → R x y
pair_at R xs i j x y pairs less at there =
    rw (← get_or_from_slice_get xs i x x at, ← get_or_from_slice_get xs j y x there) (pairs i j x less (slice_get_within xs j y there))

module _ (points : List Bond) (ascend : AllPairs IsBondBelow points) where
  -- what comes before stands at a lesser number
  pub below_number : (i j : ℕ) (p q : Bond) → slice_get points i ≡ Some p → slice_get points j ≡ Some q → IsBondBelow p q → i < j
  below_number i j p q at there less = elim (below_or i j) [
    | inl h ↦ h
    | inr k ↦ absurd (not_above k.0 k.1)
  ]
    where
      not_above : (k : ℕ) → j + k ≡ i → ⊥
      not_above zero e = let same : j ≡ i = omega arith in let is : Some q ≡ Some p = sym there ∙ ap (slice_get points) same ∙ at in let one : q ≡ p = cc in not_below_self p (rw one at less)
      not_above (suc k) e = not_below_self p (below-trans p q p less (pair_at IsBondBelow points j i q p ascend (omega arith) there at))

  pub AllDifferent-ascend : AllDifferent points
  AllDifferent-ascend i j p at there = elim (same_or_not i j) [
    | inl e ↦ e
    | inr ne ↦ elim (below_or i j) [
      | inl h ↦ absurd (not_below_self p (pair_at IsBondBelow points i j p p ascend h at there))
      | inr k ↦ absurd (not_below_self p (pair_at IsBondBelow points j i p p ascend (let e = k.1 in omega arith) there at))
    ]
  ]
