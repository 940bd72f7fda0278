-- What is left while bonds and local states are put into a pattern, and local states are looked at, by number.
use Rattle.std.proofs.Common.{◌≡◌, ℕ, zero, suc, ◌+◌, ◌≤◌, List, [], ◌∷◌, refl, sym, ap, ◌∙◌, length, drop, add-one, arith}
use Rattle.std.specs.Prelude.{Some, None, slice_get}
use Rattle.std.specs.List.{AllByRecursion, AllZip}
use Rattle.std.proofs.lemmas.List.{drop_all}
use Rattle.std.proofs.lemmas.Option.{slice_get_within}
use Rattle.std.proofs.lemmas.Slice.Zip.{AllZip-long}
use Rattle.kasa_graph.proofs.ListLemmas.{some_at}
use Rattle.kasa_graph.specs.declared.pattern.Node.{Node}
use Rattle.kasa_families.specs.declared.row.Local.{Local}
use Rattle.kasa_families.specs.declared.shape.NodeSite.{NodeSite}
use Rattle.kasa_families.specs.declared.shape.Bond.{Bond}
use Rattle.kasa_families.specs.Local.{with_local}
use Rattle.kasa_families.specs.Join.{IsOpen, CanJoin}
use Rattle.kasa_families.specs.Shape.{Nth, ends, AreApart, with_bonds, with_columns}
use Rattle.kasa_families.proofs.ColumnLemmas.{nth_of, to_nth, bonded, AreOpen-with_bond, AreOpen-with_local}

pub drop_next : {X : Type 0} (xs : List X) (k : ℕ) (x : X) → slice_get xs k ≡ Some x → drop k xs ≡ x ∷ drop (suc k) xs
drop_next [] k x e = absurd cc
drop_next (y ∷ xs) zero x e = let same : y ≡ x = cc in ap (λ z. z ∷ xs) same
drop_next (y ∷ xs) (suc k) x e = drop_next xs k x e

pub length-past : {X : Type 0} (xs : List X) (k : ℕ) → slice_get xs k ≡ None → length xs ≤ k
length-past [] k e = omega arith
length-past (y ∷ xs) zero e = absurd cc
length-past (y ∷ xs) (suc k) e = let rest = length-past xs k e in omega arith

drop_past : {X : Type 0} (xs : List X) (k : ℕ) → slice_get xs k ≡ None → (j : ℕ) → k ≤ j → drop j xs ≡ []
drop_past xs k e j h = drop_all j xs (let past = length-past xs k e in omega arith)

-- ---- bonds

pub record BondsLeft (before g : List Node) (all left : List Bond) : Type 0 where
  pub same : with_bonds g left ≡ with_bonds before all
  pub apart : AreApart (ends left)
  pub unbound : AllByRecursion (IsOpen g) (ends left)

pub CanJoin-next : (before g : List Node) (all left : List Bond) (b : Bond) → BondsLeft before g all (b ∷ left) → CanJoin g b
CanJoin-next before g all left b h = record { first = h.unbound.0; second = h.unbound.1.0; differ = h.apart.0.0 }

pub BondsLeft-next : (before g : List Node) (all left : List Bond) (b : Bond) → BondsLeft before g all (b ∷ left) → BondsLeft before (bonded g b) all left
BondsLeft-next before g all left b h = record {
  same = h.same;
  apart = h.apart.1.1;
  unbound = AreOpen-with_bond g b (ends left) h.apart.0.1 h.apart.1.0 h.unbound.1.1;
}

module _ (before g : List Node) (all : List Bond) (k : ℕ) (left : BondsLeft before g all (drop k all)) where
  next_bond : (b : Bond) → slice_get all k ≡ Some b → BondsLeft before g all (b ∷ drop (suc k) all)
  next_bond b e = rw (drop_next all k b e) at left

  pub CanJoin-at : (b : Bond) → slice_get all k ≡ Some b → CanJoin g b
  CanJoin-at b e = CanJoin-next before g all (drop (suc k) all) b (next_bond b e)

  pub BondsLeft-at : (b : Bond) → slice_get all k ≡ Some b → BondsLeft before (bonded g b) all (drop (k + 1) all)
  BondsLeft-at b e = rw add-one (BondsLeft-next before g all (drop (suc k) all) b (next_bond b e))

  pub BondsLeft-past : slice_get all k ≡ None → BondsLeft before g all (drop (k + 1) all)
  BondsLeft-past e = rw (drop_past all k e (k + 1) (omega arith)) (rw (drop_past all k e k (omega arith)) at left)

-- ---- local states

pub record ColumnsLeft (before g : List Node) (all left : List NodeSite) (locals rest : List Local) : Type 0 where
  pub same : with_columns g left rest ≡ with_columns before all locals
  pub apart : AreApart left
  pub unbound : AllByRecursion (IsOpen g) left

pub ColumnsLeft-next : (before g : List Node) (all left : List NodeSite) (locals rest : List Local) (s : NodeSite) (l : Local) → ColumnsLeft before g all (s ∷ left) locals (l ∷ rest) → ColumnsLeft before (with_local g s.node s.site l) all left locals rest
ColumnsLeft-next before g all left locals rest s l h = record {
  same = h.same;
  apart = h.apart.1;
  unbound = AreOpen-with_local g s l left h.apart.0 h.unbound.1;
}

no_locals : (g : List Node) (columns : List NodeSite) → with_columns g columns [] ≡ g
no_locals g [] = refl
no_locals g (s ∷ columns) = refl

module _ (before g : List Node) (all : List NodeSite) (locals : List Local) (k : ℕ) (left : ColumnsLeft before g all (drop k all) locals (drop k locals)) where
  open_next : (s : NodeSite) → ColumnsLeft before g all (s ∷ drop (suc k) all) locals (drop k locals) → IsOpen g s
  open_next s h = h.unbound.0

  pub IsOpen-at : (s : NodeSite) → slice_get all k ≡ Some s → IsOpen g s
  IsOpen-at s e = open_next s (rw (drop_next all k s e) at left)

  pub ColumnsLeft-at : (s : NodeSite) (l : Local) → slice_get all k ≡ Some s → slice_get locals k ≡ Some l → ColumnsLeft before (with_local g s.node s.site l) all (drop (k + 1) all) locals (drop (k + 1) locals)
  ColumnsLeft-at s l e f = rw add-one (ColumnsLeft-next before g all (drop (suc k) all) locals (drop (suc k) locals) s l (rw (drop_next all k s e, drop_next locals k l f) at left))

  pub ColumnsLeft-ended : length locals ≤ k → g ≡ with_columns before all locals
  ColumnsLeft-ended h = sym (no_locals g (drop k all)) ∙ (let ended : ColumnsLeft before g all (drop k all) locals [] = rw (drop_all k locals h) at left in ended.same)

-- ---- pairs of a column and its local state

-- P holds of all pairs where it holds of those from number k on
pub record PairsLeft {X Y : Type 0} (P : X → Y → Type 0) (xs : List X) (ys : List Y) (k : ℕ) : Type 0 where
  pub to : AllZip P (drop k xs) (drop k ys) → AllZip P xs ys
  pub from : AllZip P xs ys → AllZip P (drop k xs) (drop k ys)

module _ {X Y : Type 0} (P : X → Y → Type 0) (xs : List X) (ys : List Y) (k : ℕ) (left : PairsLeft P xs ys k) where
  module _ (y : Y) (on : slice_get ys k ≡ Some y) where
    here_of : (x : X) → slice_get xs k ≡ Some x → AllZip P xs ys → P x y × AllZip P (drop (suc k) xs) (drop (suc k) ys)
    here_of x e all = rw (drop_next xs k x e, drop_next ys k y on) at (left.from all)

    pub PairsLeft-at : Nth xs k (λ x. P x y) → PairsLeft P xs ys (k + 1)
    PairsLeft-at holds = let x = nth_of xs k (λ x. P x y) holds in record {
      to = λ rest. left.to (rw (drop_next xs k x.0 x.1, drop_next ys k y on) (x.2, rw add-one at rest));
      from = λ all. rw add-one (here_of x.0 x.1 all).1;
    }

    -- the same, where the k-th column was read
    module _ (x : X) (at : slice_get xs k ≡ Some x) where
      pub PairsLeft-read : P x y → PairsLeft P xs ys (k + 1)
      PairsLeft-read holds = PairsLeft-at (to_nth xs k (λ x. P x y) x at holds)

      pub PairsLeft-unread : (P x y → ⊥) → AllZip P xs ys → ⊥
      PairsLeft-unread not all = not (here_of x at all).0

  pub PairsLeft-ended : length xs ≤ k → length ys ≤ k → AllZip P xs ys
  PairsLeft-ended few few' = left.to (rw (drop_all k xs few, drop_all k ys few') tt)

pub PairsLeft-all : {X Y : Type 0} (P : X → Y → Type 0) (xs : List X) (ys : List Y) → PairsLeft P xs ys 0
PairsLeft-all P xs ys = record { to = λ all. all; from = λ all. all }
