-- Laws of the numbers of the elements that pass a test.
use Rattle.std.proofs.Common.{◌≡◌, ℕ, zero, suc, ◌+◌, ◌<◌, ◌≤◌, ◌↔◌, ◌⊎◌, inl, inr, Bool, true, false, ltb, List, [], ◌∷◌, ◌++◌, length, refl, sym, ap, ◌∙◌, Some, None, Option, min, arith, append_assoc, zero-add, get_or, subst}
use Rattle.std.specs.Prelude.{slice_get}
use Rattle.std.specs.List.Sorted.{IsPartitionedBy, IsPartitionPoint}
use Rattle.std.proofs.lemmas.Bool.{cases_lt, ltb-true, lt-ltb}
use Rattle.std.proofs.lemmas.Option.{slice_get-get_or, slice_get_within, get_or_from_slice_get}
use Rattle.kasa_graph.specs.Lists.{Has}
use Rattle.kasa_families.specs.First.{IsLeastFrom}
use Rattle.kasa_tables.specs.Post.{number_if}
use Rattle.kasa_tables.specs.Index.{numbers, IsRising, lesser}

-- ---- numbers of elements

module _ {X : Type 0} (test : X → Bool) where
  -- one element more, behind the others
  pub numbers-push : (n : ℕ) (xs : List X) (x : X) → numbers test n (xs ++ x ∷ []) ≡ numbers test n xs ++ number_if (test x) (n + length xs)
  numbers-push n [] x = by (test x)
    where
      by : (b : Bool) → number_if b n ++ [] ≡ number_if b (n + 0)
      by true = let e : n ≡ n + 0 = omega arith in rw (← e) refl
      by false = refl
  numbers-push n (y ∷ xs) x =
      let e : suc n + length xs ≡ n + suc (length xs) = omega arith in
      rw (numbers-push (suc n) xs x, e) (sym (append_assoc (number_if (test y) n) (numbers test (suc n) xs) (number_if (test x) (n + suc (length xs)))))

  -- where a number comes from
  abbrev pub IsFrom : ℕ → List X → ℕ → Type 0
  IsFrom n xs k = (i : ℕ) × (x : X) × (k ≡ n + i) × (slice_get xs i ≡ Some x) × (test x ≡ true)

  from_later : (n : ℕ) (y : X) (xs : List X) (k : ℕ) → IsFrom (suc n) xs k → IsFrom n (y ∷ xs) k
  from_later n y xs k h = (suc h.0, h.1, (let e = h.2 in omega arith), h.3, h.4)

  pub numbers-from : (n : ℕ) (xs : List X) (j k : ℕ) → slice_get (numbers test n xs) j ≡ Some k → IsFrom n xs k
  numbers-from n [] j k at = absurd cc
  numbers-from n (y ∷ xs) j k at = by (test y) refl j at (numbers-from (suc n) xs)
    where
      by : (b : Bool) → b ≡ test y → (j : ℕ) → slice_get (number_if b n ++ numbers test (suc n) xs) j ≡ Some k → ((j k : ℕ) → slice_get (numbers test (suc n) xs) j ≡ Some k → IsFrom (suc n) xs k) → IsFrom n (y ∷ xs) k
      by true e zero at rest = (0, y, (let is : n ≡ k = cc in omega arith), refl, sym e)
      by true e (suc j) at rest = from_later n y xs k (rest j k at)
      by false e j at rest = from_later n y xs k (rest j k at)

  -- each element that passes has its number among them
  pub numbers-has : (n : ℕ) (xs : List X) (i : ℕ) (x : X) → slice_get xs i ≡ Some x → test x ≡ true → Has (numbers test n xs) (n + i)
  numbers-has n [] i x at passes = absurd cc
  numbers-has n (y ∷ xs) zero x at passes =
      let same : y ≡ x = cc in
      let e : n ≡ n + 0 = omega arith in
      rw (ap test same, passes) (0, ap Some e)
  numbers-has n (y ∷ xs) (suc i) x at passes = by (test y) (numbers-has (suc n) xs i x at passes)
    where
      e : suc n + i ≡ n + suc i
      e = omega arith

      by : (b : Bool) → Has (numbers test (suc n) xs) (suc n + i) → Has (number_if b n ++ numbers test (suc n) xs) (n + suc i)
      by true h = (suc h.0, h.1 ∙ ap Some e)
      by false h = (h.0, h.1 ∙ ap Some e)

  -- they rise
  pub numbers-rising : (n : ℕ) (xs : List X) → IsRising (numbers test n xs)
  numbers-rising n [] = λ i j x y below at_i at_j. absurd cc
  numbers-rising n (z ∷ xs) = by (test z) (numbers-rising (suc n) xs)
    where
      by : (b : Bool) → IsRising (numbers test (suc n) xs) → IsRising (number_if b n ++ numbers test (suc n) xs)
      by true rest zero zero x y below at_i at_j = absurd (omega arith)
      by true rest zero (suc j) x y below at_i at_j =
          let from = numbers-from (suc n) xs j y at_j in
          let is : n ≡ x = cc in
          let at = from.2 in
          omega arith
      by true rest (suc i) zero x y below at_i at_j = absurd (omega arith)
      by true rest (suc i) (suc j) x y below at_i at_j = rest i j x y (omega arith) at_i at_j
      by false rest i j x y below at_i at_j = rest i j x y below at_i at_j

  -- the numbers from 0 are those of the elements that pass
  from_zero : (xs : List X) (k i : ℕ) (x : X) → k ≡ 0 + i → slice_get xs i ≡ Some x → slice_get xs k ≡ Some x
  from_zero xs k i x e there = let same : k ≡ i = omega arith in ap (slice_get xs) same ∙ there

  pub numbers-at : (xs : List X) (k : ℕ) → Has (numbers test 0 xs) k → (x : X) × (slice_get xs k ≡ Some x) × (test x ≡ true)
  numbers-at xs k has = let from = numbers-from 0 xs has.0 k has.1 in (from.1, from_zero xs k from.0 from.1 from.2 from.3, from.4)

  pub numbers-there : (xs : List X) (k : ℕ) (x : X) → slice_get xs k ≡ Some x → test x ≡ true → Has (numbers test 0 xs) k
  numbers-there xs k x there passes = subst (Has (numbers test 0 xs)) (zero-add k) (numbers-has 0 xs k x there passes)

  -- the same test of the same elements
  pub numbers-map : {Y : Type 0} (other : Y → Bool) (n : ℕ) (xs : List X) (ys : List Y) → length xs ≡ length ys → ((i : ℕ) (x : X) (y : Y) → slice_get xs i ≡ Some x → slice_get ys i ≡ Some y → test x ≡ other y) → numbers test n xs ≡ numbers other n ys
  numbers-map other n [] [] long same = refl
  numbers-map other n [] (y ∷ ys) long same = absurd (omega arith)
  numbers-map other n (x ∷ xs) [] long same = absurd (omega arith)
  numbers-map other n (x ∷ xs) (y ∷ ys) long same =
      let head : test x ≡ other y = same 0 x y refl refl in
      let tail : numbers test (suc n) xs ≡ numbers other (suc n) ys = numbers-map other (suc n) xs ys (omega arith) (λ i. same (suc i)) in
      ap (λ b. number_if b n ++ numbers test (suc n) xs) head ∙ ap (λ rest. number_if (other y) n ++ rest) tail

-- ---- numbers that rise

below_or : (a b : ℕ) → (a < b) ⊎ (b ≤ a)
below_or a b = cases_lt a b

-- what `partition_point` asks of numbers that rise, and what it answers
pub parts_rising : (list : List ℕ) (from : ℕ) → IsRising list → IsPartitionedBy (λ k. ltb k from) list
parts_rising list from rising i j d below within passes = cases (below_or i j)
  where
    cases : (i < j) ⊎ (j ≤ i) → ltb (get_or list i d) from ≡ true
    cases (inl less) =
        let inside : i < length list = omega arith in
        let up = rising i j (get_or list i d) (get_or list j d) less (slice_get-get_or list i d inside) (slice_get-get_or list j d within) in
        let low = ltb-true (get_or list j d) from passes in
        lt-ltb (get_or list i d) from (omega arith)
    cases (inr less) = let e : i ≡ j = omega arith in rw e passes

pub splits_at : (list : List ℕ) (from start : ℕ) → start ≤ length list → IsPartitionPoint (λ k. ltb k from ≡ true) (λ k. ltb k from ≡ false) list start →
    (i k : ℕ) → slice_get list i ≡ Some k → k < from ↔ i < start
splits_at list from start bound point i k at = (λ low. up (below_or i start) low, λ less. let t = point.0 i k (omega arith) less in ltb-true k from (rw is at t))
  where
    is : get_or list i k ≡ k
    is = get_or_from_slice_get list i k k at

    up : (i < start) ⊎ (start ≤ i) → k < from → i < start
    up (inl h) low = h
    up (inr h) low = let f = point.1 i k h (slice_get_within list i k at) in let g : ltb k from ≡ false = rw is at f in let t = lt-ltb k from low in absurd cc

-- the number at the first place at or after `from` is the least such, and past the list there is none
module _ (list : List ℕ) (from start : ℕ) (rising : IsRising list) (splits : (i k : ℕ) → slice_get list i ≡ Some k → k < from ↔ i < start) where
  pub IsLeastFrom-start : (k : ℕ) → slice_get list start ≡ Some k → IsLeastFrom (Has list) from (Some k)
  IsLeastFrom-start k at = (
    (let low : k < from → ⊥ = λ h. let less = (splits start k at).0 h in omega arith in omega (arith, low)),
    (start, at),
    λ j above below has. later j above below has.0 has.1 (below_or has.0 start),
  )
    where
      later : (j : ℕ) → from ≤ j → j < k → (p : ℕ) → slice_get list p ≡ Some j → (p < start) ⊎ (start ≤ p) → ⊥
      later j above below p at_p (inl less) = let low = (splits p j at_p).1 less in omega arith
      later j above below p at_p (inr past) = apart (below_or start p)
        where
          apart : (start < p) ⊎ (p ≤ start) → ⊥
          apart (inl less) = let up = rising start p k j less at at_p in omega arith
          apart (inr less) = let e : p ≡ start = omega arith in let a : slice_get list start ≡ Some j = rw e at at_p in let same : j ≡ k = cc in omega arith

  pub IsLeastFrom-past : length list ≤ start → IsLeastFrom (Has list) from None
  IsLeastFrom-past past j above has = let inside = slice_get_within list has.0 j has.1 in let low = (splits has.0 j has.1).1 (omega arith) in omega arith

-- ---- least numbers

-- the lesser of two least numbers is the least that has either property
pub IsLeastFrom-lesser : (P Q : ℕ → Type 0) (from : ℕ) (a b : Option ℕ) → IsLeastFrom P from a → IsLeastFrom Q from b → IsLeastFrom (λ k. P k ⊎ Q k) from (lesser a b)
IsLeastFrom-lesser P Q from None None p q = λ j up either. elim either [ inl h ↦ p j up h | inr h ↦ q j up h ]
IsLeastFrom-lesser P Q from None (Some k) p q = (q.0, inr q.1, λ j up below either. elim either [ inl h ↦ p j up h | inr h ↦ q.2 j up below h ])
IsLeastFrom-lesser P Q from (Some j) None p q = (p.0, inl p.1, λ i up below either. elim either [ inl h ↦ p.2 i up below h | inr h ↦ q i up h ])
IsLeastFrom-lesser P Q from (Some j) (Some k) p q = by (below_or k j)
  where
    by : (k < j) ⊎ (j ≤ k) → IsLeastFrom (λ k. P k ⊎ Q k) from (Some (min j k))
    by (inl less) =
        let e : min j k ≡ k = omega arith in
        rw e (q.0, inr q.1, λ i up below either. elim either [ inl h ↦ p.2 i up (omega arith) h | inr h ↦ q.2 i up below h ])
    by (inr less) =
        let e : min j k ≡ j = omega arith in
        rw e (p.0, inl p.1, λ i up below either. elim either [ inl h ↦ p.2 i up below h | inr h ↦ q.2 i up (omega arith) h ])

-- least numbers of properties that hold of the same numbers
pub IsLeastFrom-same : (P Q : ℕ → Type 0) (from : ℕ) (o : Option ℕ) → ((k : ℕ) → P k ↔ Q k) → IsLeastFrom P from o → IsLeastFrom Q from o
IsLeastFrom-same P Q from None same none = λ j up h. none j up ((same j).1 h)
IsLeastFrom-same P Q from (Some k) same least = (least.0, (same k).0 least.1, λ j up below h. least.2 j up below ((same j).1 h))

-- the search goes on behind a number that is none
pub none_before : (P Q : ℕ → Type 0) (first from k : ℕ) → ((j : ℕ) → P j → Q j) → IsLeastFrom Q from (Some k) → ¬ P k → ((j : ℕ) → first ≤ j → j < from → ¬ P j) → (j : ℕ) → first ≤ j → j < k + 1 → ¬ P j
none_before P Q first from k to least not_here before j up below h = by (below_or j from) (below_or j k)
  where
    by : (j < from) ⊎ (from ≤ j) → (j < k) ⊎ (k ≤ j) → ⊥
    by (inl low) other = before j up low h
    by (inr high) (inl less) = least.2 j high less (to j h)
    by (inr high) (inr past) = let e : j ≡ k = omega arith in not_here (rw e at h)

-- what the search has found, or not found, when it ends
pub found_first : (P Q : ℕ → Type 0) (first from k : ℕ) → ((j : ℕ) → P j → Q j) → first ≤ from → IsLeastFrom Q from (Some k) → P k → ((j : ℕ) → first ≤ j → j < from → ¬ P j) → IsLeastFrom P first (Some k)
found_first P Q first from k to reached least here before = (let above = least.0 in omega arith, here, λ j up below h. by j up below h (below_or j from))
  where
    by : (j : ℕ) → first ≤ j → j < k → P j → (j < from) ⊎ (from ≤ j) → ⊥
    by j up below h (inl low) = before j up low h
    by j up below h (inr high) = least.2 j high below (to j h)

pub none_left : (P Q : ℕ → Type 0) (first from : ℕ) → ((j : ℕ) → P j → Q j) → IsLeastFrom Q from None → ((j : ℕ) → first ≤ j → j < from → ¬ P j) → IsLeastFrom P first None
none_left P Q first from to none before j up h = by (below_or j from)
  where
    by : (j < from) ⊎ (from ≤ j) → ⊥
    by (inl low) = before j up low h
    by (inr high) = none j high (to j h)

pub none_past : {X : Type 0} (xs : List X) (P : ℕ → Type 0) (first from : ℕ) → ((j : ℕ) → P j → (x : X) × (slice_get xs j ≡ Some x)) → length xs ≤ from → ((j : ℕ) → first ≤ j → j < from → ¬ P j) → IsLeastFrom P first None
none_past xs P first from there past before j up h = let x = there j h in let inside = slice_get_within xs j x.0 x.1 in before j up (omega arith) h
