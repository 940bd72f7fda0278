-- Ascending lists of numbers, and which numbers stand in them.
use Rattle.kasa_families.proofs.RowTests.{Ascends-tail}
use Rattle.std.proofs.Common.{Bool, true, false, IsTrue, ◌≡◌, ◌≢◌, ℕ, zero, suc, ◌+◌, ◌-◌, ◌<◌, ◌≤◌, ◌⊎◌, inl, inr, List, [], ◌∷◌, ◌++◌, length, get_or, refl, ap, subst, sym, ◌∙◌, arith}
use Rattle.std.specs.Prelude.{Some, slice_get}
use Rattle.std.proofs.Math.Dec.{eqb}
use Rattle.std.proofs.lemmas.Bool.{eq-eqb}
use Rattle.std.proofs.lemmas.Option.{slice_get_read, slice_get_within}
use Rattle.kasa_graph.specs.Lists.{Has, AllDifferent}
use Rattle.kasa_graph.proofs.ListLemmas.{below_or, Has-append, Has-left, Has-right, AllDifferent-tail, AllDifferent-head}
use Rattle.kasa_families.specs.Family.{Ascends}
use Rattle.kasa_choose.specs.ViewPlan.{IsListOf, IsWithin}

-- a test that was false, of a fact that would make it true
pub told_not : (P : Type 0) (b : Bool) → b ≡ false → (P → IsTrue b) → P → ⊥
told_not P b is_false would p = let yes : b ≡ true = would p in cc

-- less than the next number: less, or equal
pub less_or : (s n : ℕ) → s < n + 1 → (s < n) ⊎ (s ≡ n)
less_or s n h = elim (below_or s n) [ inl less ↦ inl less | inr above ↦ let e : n + above.0 ≡ s = above.1 in inr (omega arith) ]

-- ---- elements

-- two elements at one place
pub same_at : {X : Type 0} (xs : List X) (k : ℕ) (x y : X) → slice_get xs k ≡ Some x → slice_get xs k ≡ Some y → x ≡ y
same_at xs k x y e f = cc

pub Has-[] : {X : Type 0} (x : X) → Has [] x → ⊥
Has-[] x (k, e) = cc

pub Has-head : {X : Type 0} (x : X) (xs : List X) → Has (x ∷ xs) x
Has-head x xs = (zero, refl)

pub Has-later : {X : Type 0} (x : X) (xs : List X) (y : X) → Has xs y → Has (x ∷ xs) y
Has-later x xs y (k, e) = (suc k, e)

-- the first element, or one of the others
pub Has-cons : {X : Type 0} (x : X) (xs : List X) (y : X) → Has (x ∷ xs) y → (y ≡ x) ⊎ Has xs y
Has-cons x xs y (zero, e) = inl cc
Has-cons x xs y (suc k, e) = inr (k, e)

-- one of them, or the last
pub Has-push : {X : Type 0} (xs : List X) (y x : X) → Has (xs ++ y ∷ []) x → Has xs x ⊎ (x ≡ y)
Has-push xs y x h = elim (Has-append xs (y ∷ []) x h) [
  | inl old ↦ inl old
  | inr last ↦ elim (Has-cons y [] x last) [ inl e ↦ inr e | inr none ↦ absurd (Has-[] x none) ]
]

-- the element that a loop reads at its index
pub element_at : {X : Type 0} (xs ys : List X) (i : ℕ) (x : X) → xs ≡ ys → i < length xs → x ≡ get_or xs i x → slice_get ys i ≡ Some x
element_at xs ys i x same within is = rw (← same) (slice_get_read xs (length xs) i x refl within is)

-- ---- what holds of each element, as far as a loop has come

abbrev pub IsEachBefore : {X : Type 0} → (X → Type 0) → List X → ℕ → Type 0
IsEachBefore {X} P xs i = (k : ℕ) → k < i → (x : X) → slice_get xs k ≡ Some x → P x

pub each_more : {X : Type 0} (P : X → Type 0) (xs : List X) (i : ℕ) (x : X) → slice_get xs i ≡ Some x → P x → IsEachBefore P xs i → IsEachBefore P xs (i + 1)
each_more P xs i x at here before k less y e = by (less_or k i less)
  where
    by : (k < i) ⊎ (k ≡ i) → P y
    by (inl lower) = before k lower y e
    by (inr same) = subst P (same_at xs i x y at (rw same at e)) here

pub each_end : {X : Type 0} (P : X → Type 0) (xs : List X) (i : ℕ) → length xs ≤ i → IsEachBefore P xs i → (x : X) → Has xs x → P x
each_end P xs i all before x (k, e) = let within : k < length xs = slice_get_within xs k x e in before k (omega arith) x e

-- ---- a test for no elements

pub some_listed : {X : Type 0} (xs : List X) (b : Bool) → b ≡ eqb (length xs) 0 → b ≡ false → xs ≢ []
some_listed xs b told is_false none = let both : eqb (length xs) 0 ≡ true = eq-eqb (length xs) 0 (ap length none) in cc

-- ---- ascending lists

-- the first is less than each other one
pub Ascends-head : (x : ℕ) (xs : List ℕ) (y : ℕ) → Ascends (x ∷ xs) → Has xs y → x < y
Ascends-head x [] y up h = absurd (Has-[] y h)
Ascends-head x (z ∷ xs) y up h = elim (Has-cons z xs y h) [
  | inl e ↦ let first : x < z = up.0 in omega arith
  | inr more ↦ let first : x < z = up.0 in let later : z < y = Ascends-head z xs y up.1 more in omega arith
]

pub Ascends-push : (xs : List ℕ) (n : ℕ) → Ascends xs → ((y : ℕ) → Has xs y → y < n) → Ascends (xs ++ n ∷ [])
Ascends-push [] n up below = tt
Ascends-push (x ∷ []) n up below = (below x (Has-head x []), tt)
Ascends-push (x ∷ y ∷ xs) n up below = (up.0, Ascends-push (y ∷ xs) n up.1 (λ z h. below z (Has-later x (y ∷ xs) z h)))

-- two ascending lists with the same elements are the same
pub Ascends-same : (xs ys : List ℕ) → Ascends xs → Ascends ys → IsWithin xs ys → IsWithin ys xs → xs ≡ ys
Ascends-same [] [] up too there back = refl
Ascends-same [] (y ∷ ys) up too there back = absurd (Has-[] y (back y (Has-head y ys)))
Ascends-same (x ∷ xs) [] up too there back = absurd (Has-[] x (there x (Has-head x xs)))
Ascends-same (x ∷ xs) (y ∷ ys) up too there back =
    let first : x ≡ y = heads (Has-cons y ys x (there x (Has-head x xs))) (Has-cons x xs y (back y (Has-head y ys))) in
    let rest : xs ≡ ys = Ascends-same xs ys (Ascends-tail x xs up) (Ascends-tail y ys too)
    (λ s h. others (y ∷ ys) ys s x y (Has-cons y ys s) first (Ascends-head x xs s up h) (there s (Has-later x xs s h)))
    (λ s h. others (x ∷ xs) xs s y x (Has-cons x xs s) (sym first) (Ascends-head y ys s too h) (back s (Has-later y ys s h))) in
    cc
  where
    heads : (x ≡ y) ⊎ Has ys x → (y ≡ x) ⊎ Has xs y → x ≡ y
    heads (inl e) b = e
    heads (inr h) (inl e) = sym e
    heads (inr h) (inr k) = let one : y < x = Ascends-head y ys x too h in let two : x < y = Ascends-head x xs y up k in absurd (omega arith)

    others : (whole rest : List ℕ) (s x y : ℕ) → (Has whole s → (s ≡ y) ⊎ Has rest s) → x ≡ y → x < s → Has whole s → Has rest s
    others whole rest s x y split e less h = elim (split h) [ inl same ↦ absurd (omega arith) | inr more ↦ more ]

-- numbers from m to n, of which there are at most as many as that
pub length-between : (xs : List ℕ) (m n : ℕ) → Ascends xs → ((y : ℕ) → Has xs y → (m ≤ y) × (y < n)) → length xs ≤ n - m
length-between [] m n up within = omega arith
length-between (x ∷ xs) m n up within =
    let here : (m ≤ x) × (x < n) = within x (Has-head x xs) in
    let rest : length xs ≤ n - suc x = length-between xs (suc x) n (Ascends-tail x xs up) (λ y h. (Ascends-head x xs y up h, (within y (Has-later x xs y h)).1)) in
    let low : m ≤ x = here.0 in let high : x < n = here.1 in omega arith

-- ---- ascending lists of the numbers with a property

pub IsListOf-same : (P : ℕ → Type 0) (xs ys : List ℕ) → IsListOf P xs → IsListOf P ys → xs ≡ ys
IsListOf-same P xs ys a b = Ascends-same xs ys a.ascends b.ascends (λ s h. (b.exact s).1 ((a.exact s).0 h)) (λ s h. (a.exact s).1 ((b.exact s).0 h))

pub IsListOf-along : (P Q : ℕ → Type 0) (xs : List ℕ) → ((s : ℕ) → P s → Q s) → ((s : ℕ) → Q s → P s) → IsListOf P xs → IsListOf Q xs
IsListOf-along P Q xs there back a = record { ascends = a.ascends; exact = λ s. (λ h. there s ((a.exact s).0 h), λ q. (a.exact s).1 (back s q)) }

-- the numbers below n with the property, as a loop finds them
abbrev pub IsListBelow : (ℕ → Type 0) → ℕ → List ℕ → Type 0
IsListBelow P n xs = IsListOf (λ s. (s < n) × P s) xs

pub IsListBelow-start : (P : ℕ → Type 0) → IsListBelow P 0 []
IsListBelow-start P = record { ascends = tt; exact = λ s. (λ h. absurd (Has-[] s h), λ p. let no : s < 0 = p.0 in absurd (omega arith)) }

pub IsListBelow-add : (P : ℕ → Type 0) (n : ℕ) (xs : List ℕ) → P n → IsListBelow P n xs → IsListBelow P (n + 1) (xs ++ n ∷ [])
IsListBelow-add P n xs here a = record {
  ascends = Ascends-push xs n a.ascends (λ y h. ((a.exact y).0 h).0);
  exact = λ s. (
    λ h. elim (Has-push xs n s h) [ inl old ↦ let p = (a.exact s).0 old in let low : s < n = p.0 in (omega arith, p.1) | inr e ↦ (omega arith, subst P (sym e) here) ],
    λ p. added s p.0 p.1,
  );
}
  where
    by : (s : ℕ) → P s → (s < n) ⊎ (s ≡ n) → Has (xs ++ n ∷ []) s
    by s p (inl less) = Has-left xs (n ∷ []) s ((a.exact s).1 (less, p))
    by s p (inr e) = rw e (Has-right xs (n ∷ []) n (Has-head n []))

    added : (s : ℕ) → s < n + 1 → P s → Has (xs ++ n ∷ []) s
    added s less p = by s p (less_or s n less)

pub IsListBelow-skip : (P : ℕ → Type 0) (n : ℕ) (xs : List ℕ) → (P n → ⊥) → IsListBelow P n xs → IsListBelow P (n + 1) xs
IsListBelow-skip P n xs not_here a = record {
  ascends = a.ascends;
  exact = λ s. (λ h. let p = (a.exact s).0 h in let low : s < n = p.0 in (omega arith, p.1), λ p. kept s p.0 p.1);
}
  where
    by : (s : ℕ) → P s → (s < n) ⊎ (s ≡ n) → Has xs s
    by s p (inl less) = (a.exact s).1 (less, p)
    by s p (inr e) = absurd (not_here (subst P e p))

    kept : (s : ℕ) → s < n + 1 → P s → Has xs s
    kept s less p = by s p (less_or s n less)

pub IsListBelow-end : (P : ℕ → Type 0) (n : ℕ) (xs : List ℕ) → ((s : ℕ) → P s → s < n) → IsListBelow P n xs → IsListOf P xs
IsListBelow-end P n xs within a = IsListOf-along (λ s. (s < n) × P s) P xs (λ s p. p.1) (λ s p. (within s p, p)) a

-- ---- different elements

-- what stands at place k is left out
abbrev without : {X : Type 0} → List X → ℕ → List X
without [] k = []
without (x ∷ xs) zero = xs
without (x ∷ xs) (suc k) = x ∷ without xs k

length-without : {X : Type 0} (xs : List X) (k : ℕ) → k < length xs → length xs ≡ length (without xs k) + 1
length-without [] k less = absurd (omega arith)
length-without (x ∷ xs) zero less = omega arith
length-without (x ∷ xs) (suc k) less = let e : length xs ≡ length (without xs k) + 1 = length-without xs k (omega arith) in omega arith

has_without : {X : Type 0} (xs : List X) (k : ℕ) (x y : X) → slice_get xs k ≡ Some x → (y ≡ x → ⊥) → Has xs y → Has (without xs k) y
has_without [] k x y at other h = absurd (Has-[] y h)
has_without (z ∷ xs) zero x y at other h = elim (Has-cons z xs y h) [ inl e ↦ let same : z ≡ x = cc in absurd (other (e ∙ same)) | inr more ↦ more ]
has_without (z ∷ xs) (suc k) x y at other h = elim (Has-cons z xs y h) [
  | inl e ↦ let first : Has (z ∷ without xs k) y = (zero, ap Some (sym e)) in first
  | inr more ↦ Has-later z (without xs k) y (has_without xs k x y at other more)
]

-- different elements that all stand in another list are no more than there
pub length-different : {X : Type 0} (xs ys : List X) → AllDifferent xs → ((x : X) → Has xs x → Has ys x) → length xs ≤ length ys
length-different [] ys different within = omega arith
length-different (x ∷ xs) ys different within =
    let at : Has ys x = within x (Has-head x xs) in
    let fewer : length xs ≤ length (without ys at.0) = length-different xs (without ys at.0) (AllDifferent-tail x xs different)
    (λ y h. has_without ys at.0 x y at.1 (λ e. AllDifferent-head x xs h.0 different (h.1 ∙ ap Some e)) (within y (Has-later x xs y h))) in
    let long : length ys ≡ length (without ys at.0) + 1 = length-without ys at.0 (slice_get_within ys at.0 x at.1) in
    omega arith
