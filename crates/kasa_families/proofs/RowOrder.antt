-- The comparison of rows is their order, which is total and agrees with equality.
use Rattle.std.specs.Prelude.{◌≡◌, ℕ, ◌≢◌, ◌<◌, Bool, false, List, [], ◌∷◌, Option, Some, None, refl}
use Rattle.std.specs.declared.cmp.Ordering.{Ordering}
use Rattle.std.specs.declared.cmp.Ordering.TheVariants.{Less, Equal, Greater}
use Rattle.std.specs.Option.{option_cmp}
use Rattle.std.specs.Ordering.{nat_cmp, ordering_then, is_lt, MatchOrdering}
use Rattle.std.specs.Cmp.Lexicographic.{slice_cmp}
use Rattle.std.specs.List.Sorted.{IsSorted, IsSortedBy, IsStrictlySortedBy}
use Rattle.std.proofs.Common.{arith, add-one, suc, ap, sym, inl, inr, ◌∙◌}
use Rattle.std.proofs.lemmas.Cmp.{ranked}
use Rattle.kasa_graph.specs.Lists.{AllDifferent}
use Rattle.kasa_graph.proofs.ListLemmas.{AllDifferent-tail}
use Rattle.kasa_families.specs.declared.row.LocalLink.{LocalLink}
use Rattle.kasa_families.specs.declared.row.LocalLink.TheVariants.{Free, Partner}
use Rattle.kasa_families.specs.declared.row.Local.{Local}
use Rattle.kasa_families.specs.declared.row.Row.{Row}
use Rattle.kasa_families.specs.declared.row.Row.TheVariants.{Locals, Same, Different}
use Rattle.kasa_families.specs.contracts.row.RowOrd.TheImpl as order
use Rattle.kasa_families.specs.contracts.row.LocalOrd.TheImpl as local
use Rattle.kasa_families.specs.contracts.row.LocalLinkOrd.TheImpl as link
use Rattle.kasa_families.specs.Row.{IsStateBelow, IsLinkBelow, IsLocalBelow, AreLocalsBelow, IsRowBelow, AreAscending}

-- the second comparison counts only where the first finds its values equal
module _ {P Q R : Type 0} {P' Q' R' : Type 0} {S T U : Type 0} (less : P → S) (then_less : Q → P' → S) (same : Q → Q' → T) (then_greater : Q → R' → U) (greater : R → U) where
  both : (first second : Ordering) → MatchOrdering first P Q R → MatchOrdering second P' Q' R' → MatchOrdering (ordering_then first second) S T U
  both Less second p q = less p
  both Equal Less p q = then_less p q
  both Equal Equal p q = same p q
  both Equal Greater p q = then_greater p q
  both Greater second p q = greater p

-- equal values are equal under a constructor
under : (P : Type 0) {Q : Type 0} (R : Type 0) {S : Type 0} → (Q → S) → (o : Ordering) → MatchOrdering o P Q R → MatchOrdering o P S R
under P R f Less h = h
under P R f Equal h = f h
under P R f Greater h = h

by_number : (x y : ℕ) → MatchOrdering (nat_cmp x y) (x < y) (x ≡ y) (y < x)
by_number x y = ranked x y (nat_cmp x y) refl

by_state : (l k : Option ℕ) → MatchOrdering (option_cmp nat_cmp l k) (IsStateBelow l k) (l ≡ k) (IsStateBelow k l)
by_state None None = refl
by_state None (Some w) = tt
by_state (Some u) None = tt
by_state (Some u) (Some w) = under _ _ (λ e. ap Some e) (nat_cmp u w) (by_number u w)

by_link : (l k : LocalLink) → MatchOrdering ((link.ghosts).cmp l k) (IsLinkBelow l k) (l ≡ k) (IsLinkBelow k l)
by_link Free Free = refl
by_link Free (Partner b y) = tt
by_link (Partner a x) Free = tt
by_link (Partner a x) (Partner b y) =
    both inl (λ e h. inr (e, h)) (λ e f. λ i. Partner (e i) (f i)) (λ e h. inr (sym e, h)) inl (nat_cmp a b) (nat_cmp x y) (by_number a b) (by_number x y)

pub by_local : (l k : Local) → MatchOrdering ((local.ghosts).cmp l k) (IsLocalBelow l k) (l ≡ k) (IsLocalBelow k l)
by_local l k =
    both inl (λ e h. inr (e, h)) (λ e f. λ i. record { state = e i; link = f i }) (λ e h. inr (sym e, h)) inl
    (option_cmp nat_cmp l.state k.state) ((link.ghosts).cmp l.link k.link) (by_state l.state k.state) (by_link l.link k.link)

by_locals : (ls ks : List Local) → MatchOrdering (slice_cmp (local.ghosts).cmp ls ks) (AreLocalsBelow ls ks) (ls ≡ ks) (AreLocalsBelow ks ls)
by_locals [] [] = refl
by_locals [] (k ∷ ks) = tt
by_locals (l ∷ ls) [] = tt
by_locals (l ∷ ls) (k ∷ ks) =
    both inl (λ e h. inr (e, h)) (λ e f. λ i. e i ∷ f i) (λ e h. inr (sym e, h)) inl
    ((local.ghosts).cmp l k) (slice_cmp (local.ghosts).cmp ls ks) (by_local l k) (by_locals ls ks)

pub by_row : (row other : Row) → MatchOrdering ((order.ghosts).cmp row other) (IsRowBelow row other) (row ≡ other) (IsRowBelow other row)
by_row (Locals ls) (Locals ks) = under _ _ (λ e. ap Locals e) (slice_cmp (local.ghosts).cmp ls ks) (by_locals ls ks)
by_row (Locals ls) Same = tt
by_row (Locals ls) Different = tt
by_row Same (Locals ks) = tt
by_row Same Same = refl
by_row Same Different = tt
by_row Different (Locals ks) = tt
by_row Different Same = tt
by_row Different Different = refl

-- ---- the order is strict and transitive

state_trans : (k l j : Option ℕ) → IsStateBelow k l → IsStateBelow l j → IsStateBelow k j
state_trans None (Some u) (Some w) h g = tt
state_trans (Some u) (Some v) (Some w) h g = omega arith
state_trans None None j h g = absurd h
state_trans (Some u) None j h g = absurd h
state_trans None (Some u) None h g = absurd g
state_trans (Some w) (Some u) None h g = absurd g

link_trans : (k l j : LocalLink) → IsLinkBelow k l → IsLinkBelow l j → IsLinkBelow k j
link_trans Free (Partner a x) (Partner b y) h g = tt
link_trans (Partner a x) (Partner b y) (Partner c z) (inl h) (inl g) = inl (omega arith)
link_trans (Partner a x) (Partner b y) (Partner c z) (inl h) (inr g) = inl (rw g.0 at h)
link_trans (Partner a x) (Partner b y) (Partner c z) (inr h) (inl g) = inl (rw h.0 g)
link_trans (Partner a x) (Partner b y) (Partner c z) (inr h) (inr g) = inr (h.0 ∙ g.0, let first = h.1 in let second = g.1 in omega arith)
link_trans Free Free j h g = absurd h
link_trans (Partner a x) Free j h g = absurd h
link_trans Free (Partner a x) Free h g = absurd g
link_trans (Partner b y) (Partner a x) Free h g = absurd g

local_trans : (k l j : Local) → IsLocalBelow k l → IsLocalBelow l j → IsLocalBelow k j
local_trans k l j (inl h) (inl g) = inl (state_trans k.state l.state j.state h g)
local_trans k l j (inl h) (inr g) = inl (rw g.0 at h)
local_trans k l j (inr h) (inl g) = inl (rw h.0 g)
local_trans k l j (inr h) (inr g) = inr (h.0 ∙ g.0, link_trans k.link l.link j.link h.1 g.1)

locals_trans : (ks ls js : List Local) → AreLocalsBelow ks ls → AreLocalsBelow ls js → AreLocalsBelow ks js
locals_trans [] (l ∷ ls) (j ∷ js) h g = tt
locals_trans (k ∷ ks) (l ∷ ls) (j ∷ js) (inl h) (inl g) = inl (local_trans k l j h g)
locals_trans (k ∷ ks) (l ∷ ls) (j ∷ js) (inl h) (inr g) = inl (rw g.0 at h)
locals_trans (k ∷ ks) (l ∷ ls) (j ∷ js) (inr h) (inl g) = inl (rw h.0 g)
locals_trans (k ∷ ks) (l ∷ ls) (j ∷ js) (inr h) (inr g) = inr (h.0 ∙ g.0, locals_trans ks ls js h.1 g.1)
locals_trans [] [] js h g = absurd h
locals_trans (k ∷ ks) [] js h g = absurd h
locals_trans [] (l ∷ ls) [] h g = absurd g
locals_trans (k ∷ ks) (l ∷ ls) [] h g = absurd g

pub IsRowBelow-trans : (first second third : Row) → IsRowBelow first second → IsRowBelow second third → IsRowBelow first third
IsRowBelow-trans (Locals ks) (Locals ls) (Locals js) h g = locals_trans ks ls js h g
IsRowBelow-trans (Locals ks) (Locals ls) Same h g = tt
IsRowBelow-trans (Locals ks) (Locals ls) Different h g = tt
IsRowBelow-trans (Locals ks) Same Different h g = tt
IsRowBelow-trans (Locals ks) Same (Locals js) h g = absurd g
IsRowBelow-trans (Locals ks) Same Same h g = absurd g
IsRowBelow-trans Same (Locals ls) third h g = absurd h
IsRowBelow-trans Same Same third h g = absurd h
IsRowBelow-trans Different (Locals ls) third h g = absurd h
IsRowBelow-trans Different Same third h g = absurd h
IsRowBelow-trans Different Different third h g = absurd h
IsRowBelow-trans first Different (Locals js) h g = absurd g
IsRowBelow-trans first Different Same h g = absurd g
IsRowBelow-trans first Different Different h g = absurd g

local_strict : (l : Local) → IsLocalBelow l l → ⊥
local_strict l (inl h) = state_strict l.state h
  where
    state_strict : (k : Option ℕ) → IsStateBelow k k → ⊥
    state_strict None h = h
    state_strict (Some u) h = omega arith
local_strict l (inr h) = link_strict l.link h.1
  where
    link_strict : (k : LocalLink) → IsLinkBelow k k → ⊥
    link_strict Free h = h
    link_strict (Partner a x) (inl h) = omega arith
    link_strict (Partner a x) (inr h) = let less = h.1 in omega arith

locals_strict : (ls : List Local) → AreLocalsBelow ls ls → ⊥
locals_strict [] h = h
locals_strict (l ∷ ls) (inl h) = local_strict l h
locals_strict (l ∷ ls) (inr h) = locals_strict ls h.1

pub IsRowBelow-strict : (row : Row) → IsRowBelow row row → ⊥
IsRowBelow-strict (Locals ls) h = locals_strict ls h
IsRowBelow-strict Same h = h
IsRowBelow-strict Different h = h

-- ---- a sorted list of different rows ascends

above : (row next : Row) (o : Ordering) → MatchOrdering o (IsRowBelow next row) (next ≡ row) (IsRowBelow row next) → is_lt o ≡ false → row ≢ next → IsRowBelow row next
above row next Less h e ne = absurd cc
above row next Equal h e ne = absurd (ne (sym h))
above row next Greater h e ne = h

IsSortedBy-tail : {X : Type 0} (lt : X → X → Bool) (x : X) (xs : List X) → IsSortedBy lt (x ∷ xs) → IsSortedBy lt xs
IsSortedBy-tail lt x xs sorted k d low high = rw add-one (rw add-one at (sorted (suc k) d (omega arith) (omega arith)))

pub AreAscending-sorted : (rows : List Row) → IsSorted (order.ghosts).cmp rows → AllDifferent rows → AreAscending rows
AreAscending-sorted [] sorted different = tt
AreAscending-sorted (row ∷ []) sorted different = tt
AreAscending-sorted (row ∷ next ∷ rows) sorted different = (
  above row next ((order.ghosts).cmp next row) (by_row next row) (sorted 0 row (omega arith) (omega arith)) (λ e. let apart = different 0 1 row refl (ap Some (sym e)) in absurd (omega arith)),
  AreAscending-sorted (next ∷ rows) (IsSortedBy-tail (λ r s. is_lt ((order.ghosts).cmp r s)) row (next ∷ rows) sorted) (AllDifferent-tail row (next ∷ rows) different),
)

below : (row next : Row) (o : Ordering) → MatchOrdering o (IsRowBelow row next) (row ≡ next) (IsRowBelow next row) → o ≡ Less → IsRowBelow row next
below row next Less h e = h
below row next Equal h e = absurd cc
below row next Greater h e = absurd cc

pub AreAscending-strictly_sorted : (rows : List Row) → IsStrictlySortedBy (order.ghosts).cmp rows → AreAscending rows
unfolding IsStrictlySortedBy
AreAscending-strictly_sorted [] sorted = tt
AreAscending-strictly_sorted (row ∷ []) sorted = tt
AreAscending-strictly_sorted (row ∷ next ∷ rows) sorted = (
  below row next ((order.ghosts).cmp row next) (by_row row next) sorted.0.0,
  AreAscending-strictly_sorted (next ∷ rows) sorted.1,
)
