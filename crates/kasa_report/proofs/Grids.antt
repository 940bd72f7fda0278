-- Grids: the lists with one element of each of some columns, and how many there are.
use Rattle.std.proofs.Common.{◌≡◌, ◌≢◌, ℕ, zero, suc, ◌*◌, ◌≤◌, ◌⊎◌, inl, inr, List, [], ◌∷◌, ◌++◌, length, map, refl, sym, ap, subst, ◌∙◌, arith}
use Rattle.std.specs.Prelude.{Some, slice_get, ⊤}
use Rattle.std.proofs.lemmas.List.{length-append}
use Rattle.kasa_lists.specs.Lists.{Has, AllDifferent}
use Rattle.kasa_lists.proofs.Having.{Has-[], Has-head, Has-later, Has-cons, Has-append, Has-left, Has-right, Has-map, Has-of_map}
use Rattle.kasa_lists.proofs.Different.{AllDifferent-[], AllDifferent-tail, AllDifferent-head, AllDifferent-cons, length-within}
use Rattle.kasa_lists.proofs.Maps.{length-map}

-- ---- different elements

pub AllDifferent-append : {X : Type 0} (xs ys : List X) → AllDifferent xs → AllDifferent ys → ((x : X) → Has xs x → ¬ Has ys x) → AllDifferent (xs ++ ys)
AllDifferent-append [] ys first second apart = second
AllDifferent-append (x ∷ xs) ys first second apart = AllDifferent-cons x (xs ++ ys)
    (λ i at. elim (Has-append xs ys x (i, at)) [
      | inl h ↦ AllDifferent-head x xs h.0 first h.1
      | inr h ↦ apart x (Has-head x xs) h
    ])
    (AllDifferent-append xs ys (AllDifferent-tail x xs first) second (λ y h. apart y (Has-later x xs y h)))

-- of a map that keeps these apart
pub AllDifferent-map : {X Y : Type 0} (f : X → Y) (xs : List X) → ((x y : X) → Has xs x → Has xs y → f x ≡ f y → x ≡ y) → AllDifferent xs → AllDifferent (map f xs)
AllDifferent-map f [] apart different = AllDifferent-[]
AllDifferent-map f (x ∷ xs) apart different = AllDifferent-cons (f x) (map f xs)
    (λ i at.
    let y = Has-of_map f xs (f x) (i, at) in
    let same : y.0 ≡ x = apart y.0 x (Has-later x xs y.0 y.1) (Has-head x xs) y.2 in
    let there = subst (Has xs) same y.1 in
    AllDifferent-head x xs there.0 different there.1)
    (AllDifferent-map f xs (λ y z h k. apart y z (Has-later x xs y h) (Has-later x xs z k)) (AllDifferent-tail x xs different))

-- different elements that are no fewer than those they stand among are all of them
pub has_all : {X : Type 0} (xs ys : List X) → AllDifferent xs → ((x : X) → Has xs x → Has ys x) → length ys ≤ length xs → ((x : X) → Has xs x ⊎ (¬ Has xs x)) → (y : X) → Has ys y → Has xs y
has_all xs ys different within full decide y there = elim (decide y) [
  | inl h ↦ h
  | inr isnt_so ↦ (
      let more = length-within (y ∷ xs) ys (AllDifferent-cons y xs (λ i at. isnt_so (i, at)) different)
      (λ z h. elim (Has-cons y xs z h) [ inl is ↦ subst (Has ys) (sym is) there | inr old ↦ within z old ]) in
      absurd (omega arith))
]

pub has_or_not : {X : Type 0} → ((x y : X) → (x ≡ y) ⊎ (x ≢ y)) → (xs : List X) (x : X) → Has xs x ⊎ (¬ Has xs x)
has_or_not same [] x = inr (Has-[] x)
has_or_not same (y ∷ xs) x = elim (same x y) [
  | inl is ↦ inl (0, ap Some (sym is))
  | inr isnt ↦ elim (has_or_not same xs x) [
    | inl h ↦ inl (Has-later y xs x h)
    | inr isnt_so ↦ inr (λ h. elim (Has-cons y xs x h) [ inl e ↦ isnt e | inr k ↦ isnt_so k ])
  ]
]

-- ---- grids

-- each element of the list stands in its column
abbrev pub AreAmong : {X : Type 0} → List (List X) → List X → Type 0
AreAmong [] [] = ⊤
AreAmong (c ∷ columns) (x ∷ xs) = Has c x × AreAmong columns xs
AreAmong [] (x ∷ xs) = ⊥
AreAmong (c ∷ columns) [] = ⊥

abbrev pub begun : {X : Type 0} → List (List X) → List X → List (List X)
begun more [] = []
begun more (x ∷ c) = map (λ xs. x ∷ xs) more ++ begun more c

abbrev pub grid : {X : Type 0} → List (List X) → List (List X)
grid [] = [] ∷ []
grid (c ∷ columns) = begun (grid columns) c

abbrev pub sizes : {X : Type 0} → List (List X) → ℕ
sizes [] = 1
sizes (c ∷ columns) = length c * sizes columns

length-begun : {X : Type 0} (more : List (List X)) (c : List X) → length (begun more c) ≡ length c * length more
length-begun more [] = omega arith
length-begun more (x ∷ c) =
    let first = length-append (map (λ xs. x ∷ xs) more) (begun more c) in
    let same = length-map (λ xs. x ∷ xs) more in
    let rest = length-begun more c in
    first ∙ omega arith

pub length-grid : {X : Type 0} (columns : List (List X)) → length (grid columns) ≡ sizes columns
length-grid [] = refl
length-grid (c ∷ columns) = length-begun (grid columns) c ∙ ap (λ n. length c * n) (length-grid columns)

pub sizes-push : {X : Type 0} (columns : List (List X)) (c : List X) → sizes (columns ++ c ∷ []) ≡ sizes columns * length c
sizes-push [] c = omega arith
sizes-push (d ∷ columns) c = ap (λ n. length d * n) (sizes-push columns c) ∙ omega arith

module _ {X : Type 0} (more : List (List X)) where
  has_begun : (c : List X) (x : X) (xs : List X) → Has c x → Has more xs → Has (begun more c) (x ∷ xs)
  has_begun [] x xs h k = absurd (Has-[] x h)
  has_begun (y ∷ c) x xs h k = elim (Has-cons y c x h) [
    | inl is ↦ Has-left (map (λ ys. y ∷ ys) more) (begun more c) (x ∷ xs) (subst (λ (z : X). Has (map (λ ys. y ∷ ys) more) (z ∷ xs)) (sym is) (Has-map (λ ys. y ∷ ys) more xs k))
    | inr later ↦ Has-right (map (λ ys. y ∷ ys) more) (begun more c) (x ∷ xs) (has_begun c x xs later k)
  ]

  record IsBegun (c xs : List X) : Type 0 where
    first : X
    rest : List X
    parts : first ∷ rest ≡ xs
    among : Has c first
    has_rest : Has more rest

  of_begun : (c xs : List X) → Has (begun more c) xs → IsBegun c xs
  of_begun [] xs h = absurd (Has-[] xs h)
  of_begun (y ∷ c) xs h = elim (Has-append (map (λ ys. y ∷ ys) more) (begun more c) xs h) [
    | inl here ↦ (let r = Has-of_map (λ ys. y ∷ ys) more xs here in record { first = y; rest = r.0; parts = r.2; among = Has-head y c; has_rest = r.1 })
    | inr later ↦ (let b = of_begun c xs later in record { first = b.first; rest = b.rest; parts = b.parts; among = Has-later y c b.first b.among; has_rest = b.has_rest })
  ]

  different_begun : (c : List X) → AllDifferent c → AllDifferent more → AllDifferent (begun more c)
  different_begun [] different rest = AllDifferent-[]
  different_begun (y ∷ c) different rest = AllDifferent-append (map (λ ys. y ∷ ys) more) (begun more c)
      (AllDifferent-map (λ ys. y ∷ ys) more (λ xs ys h k e. cc) rest)
      (different_begun c (AllDifferent-tail y c different) rest)
      (λ xs here later.
      let r = Has-of_map (λ ys. y ∷ ys) more xs here in
      let b = of_begun c xs later in
      let whole : b.first ∷ b.rest ≡ y ∷ r.0 = b.parts ∙ sym r.2 in
      let same : b.first ≡ y = cc in
      let there = subst (Has c) same b.among in
      AllDifferent-head y c there.0 different there.1)

pub has_grid : {X : Type 0} (columns : List (List X)) (xs : List X) → AreAmong columns xs → Has (grid columns) xs
has_grid [] [] among = (0, refl)
has_grid [] (x ∷ xs) among = absurd among
has_grid (c ∷ columns) [] among = absurd among
has_grid (c ∷ columns) (x ∷ xs) among = has_begun (grid columns) c x xs among.0 (has_grid columns xs among.1)

pub of_grid : {X : Type 0} (columns : List (List X)) (xs : List X) → Has (grid columns) xs → AreAmong columns xs
of_grid [] [] h = tt
of_grid [] (x ∷ xs) (zero, at) = let e : [] ≡ x ∷ xs = cc in absurd cc
of_grid [] (x ∷ xs) (suc k, at) = absurd cc
of_grid (c ∷ columns) xs h =
    let b = of_begun (grid columns) c xs h in
    subst (AreAmong (c ∷ columns)) b.parts (b.among, of_grid columns b.rest b.has_rest)

abbrev pub AreDifferent : {X : Type 0} → List (List X) → Type 0
AreDifferent [] = ⊤
AreDifferent (c ∷ columns) = AllDifferent c × AreDifferent columns

pub different_grid : {X : Type 0} (columns : List (List X)) → AreDifferent columns → AllDifferent (grid columns)
different_grid [] different = AllDifferent-cons [] [] (λ i at. absurd cc) AllDifferent-[]
different_grid (c ∷ columns) different = different_begun (grid columns) c different.0 (different_grid columns different.1)

-- ---- what stands in the columns, place by place

pub length-among : {X : Type 0} (columns : List (List X)) (xs : List X) → AreAmong columns xs → length xs ≡ length columns
length-among [] [] among = refl
length-among [] (x ∷ xs) among = absurd among
length-among (c ∷ columns) [] among = absurd among
length-among (c ∷ columns) (x ∷ xs) among = ap suc (length-among columns xs among.1)

pub among_at : {X : Type 0} (columns : List (List X)) (xs : List X) (k : ℕ) (c : List X) (x : X) → AreAmong columns xs → slice_get columns k ≡ Some c → slice_get xs k ≡ Some x → Has c x
among_at [] xs k c x among at there = absurd cc
among_at (d ∷ columns) [] k c x among at there = absurd among
among_at {X = X} (d ∷ columns) (y ∷ xs) zero c x among at there = let one : d ≡ c = cc in let other : y ≡ x = cc in subst (λ (e : List X). Has e x) one (subst (Has d) other among.0)
among_at (d ∷ columns) (y ∷ xs) (suc k) c x among at there = among_at columns xs k c x among.1 at there

pub among_all : {X : Type 0} (columns : List (List X)) (xs : List X) → length xs ≡ length columns → ((k : ℕ) (c : List X) (x : X) → slice_get columns k ≡ Some c → slice_get xs k ≡ Some x → Has c x) → AreAmong columns xs
among_all [] [] long each = tt
among_all [] (x ∷ xs) long each = absurd (omega arith)
among_all (c ∷ columns) [] long each = absurd (omega arith)
among_all (c ∷ columns) (x ∷ xs) long each = (each zero c x refl refl, among_all columns xs (omega arith) (λ k. each (suc k)))

pub different_all : {X : Type 0} (columns : List (List X)) → ((k : ℕ) (c : List X) → slice_get columns k ≡ Some c → AllDifferent c) → AreDifferent columns
different_all [] each = tt
different_all (c ∷ columns) each = (each zero c refl, different_all columns (λ k. each (suc k)))
