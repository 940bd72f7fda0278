-- Laws of stands: the places of nodes, and the cells and the types of the nodes outside.
use Rattle.std.proofs.Common.{◌≡◌, ℕ, zero, suc, ◌+◌, ◌⊎◌, inl, inr, List, [], ◌∷◌, ◌++◌, refl, sym, ap, ◌∙◌, length, map, arith}
use Rattle.std.specs.Prelude.{Option, Some, None, slice_get}
use Rattle.kasa_graph.specs.declared.pattern.Node.{Node}
use Rattle.kasa_graph.specs.Lists.{AllDifferent}
use Rattle.kasa_graph.proofs.ListLemmas.{below_or, slice_get-append_left, slice_get-append_right}
use Rattle.kasa_pre.specs.declared.Stand.{Stand}
use Rattle.kasa_pre.specs.declared.Stand.TheVariants.{Left, Made, Outside}
use Rattle.kasa_pre.specs.Before.{place_from, outside_types}
use Rattle.kasa_pre.specs.LiesOn.{AllLieOn, outside_cells}

pub place_from-left : (k : ℕ) (stands : List Stand) (i n : ℕ) → slice_get stands i ≡ Some (Left n) → place_from k stands i ≡ Some n
place_from-left k [] i n e = absurd cc
place_from-left k (Left j ∷ stands) zero n e = cc
place_from-left k (Made j ∷ stands) zero n e = absurd cc
place_from-left k (Outside ∷ stands) zero n e = absurd cc
place_from-left k (Left j ∷ stands) (suc i) n e = place_from-left k stands i n e
place_from-left k (Made j ∷ stands) (suc i) n e = place_from-left k stands i n e
place_from-left k (Outside ∷ stands) (suc i) n e = place_from-left (suc k) stands i n e

pub place_from-made : (k : ℕ) (stands : List Stand) (i n : ℕ) → slice_get stands i ≡ Some (Made n) → place_from k stands i ≡ None
place_from-made k [] i n e = absurd cc
place_from-made k (Left j ∷ stands) zero n e = absurd cc
place_from-made k (Made j ∷ stands) zero n e = refl
place_from-made k (Outside ∷ stands) zero n e = absurd cc
place_from-made k (Left j ∷ stands) (suc i) n e = place_from-made k stands i n e
place_from-made k (Made j ∷ stands) (suc i) n e = place_from-made k stands i n e
place_from-made k (Outside ∷ stands) (suc i) n e = place_from-made (suc k) stands i n e

-- the place of a node outside is where its cell comes among those outside
pub place_from-outside : (k : ℕ) (stands : List Stand) (after : List ℕ) (i c : ℕ) → slice_get stands i ≡ Some Outside → slice_get after i ≡ Some c → (j : ℕ) × (place_from k stands i ≡ Some (k + j)) × (slice_get (outside_cells stands after) j ≡ Some c)
place_from-outside k [] after i c e f = absurd cc
place_from-outside k (stand ∷ stands) [] i c e f = absurd cc
place_from-outside k (Left n ∷ stands) (d ∷ after) zero c e f = absurd cc
place_from-outside k (Made n ∷ stands) (d ∷ after) zero c e f = absurd cc
place_from-outside k (Outside ∷ stands) (d ∷ after) zero c e f = (zero, ap Some (omega arith), f)
place_from-outside k (Left n ∷ stands) (d ∷ after) (suc i) c e f = place_from-outside k stands after i c e f
place_from-outside k (Made n ∷ stands) (d ∷ after) (suc i) c e f = place_from-outside k stands after i c e f
place_from-outside k (Outside ∷ stands) (d ∷ after) (suc i) c e f =
    let j = place_from-outside (suc k) stands after i c e f in
    (suc j.0, j.1 ∙ ap Some (omega arith), j.2)

-- a cell among those outside is that of a node outside
pub outside_cells-node : (k : ℕ) (stands : List Stand) (after : List ℕ) (j c : ℕ) → slice_get (outside_cells stands after) j ≡ Some c → (i : ℕ) × (slice_get stands i ≡ Some Outside) × (slice_get after i ≡ Some c) × (place_from k stands i ≡ Some (k + j))
outside_cells-node k [] after j c e = absurd cc
outside_cells-node k (Left n ∷ stands) [] j c e = absurd cc
outside_cells-node k (Made n ∷ stands) [] j c e = absurd cc
outside_cells-node k (Outside ∷ stands) [] j c e = absurd cc
outside_cells-node k (Left n ∷ stands) (d ∷ after) j c e = let i = outside_cells-node k stands after j c e in (suc i.0, i.1, i.2, i.3)
outside_cells-node k (Made n ∷ stands) (d ∷ after) j c e = let i = outside_cells-node k stands after j c e in (suc i.0, i.1, i.2, i.3)
outside_cells-node k (Outside ∷ stands) (d ∷ after) zero c e = (zero, refl, e, ap Some (omega arith))
outside_cells-node k (Outside ∷ stands) (d ∷ after) (suc j) c e =
    let i = outside_cells-node (suc k) stands after j c e in
    (suc i.0, i.1, i.2, i.3 ∙ ap Some (omega arith))

-- the types of the nodes outside are those of their cells
pub outside_types-cells : (type_of : ℕ → ℕ) (v : List Node) (stands : List Stand) (after : List ℕ) → length stands ≡ length after → length after ≡ length v → ((i c : ℕ) (node : Node) → slice_get stands i ≡ Some Outside → slice_get after i ≡ Some c → slice_get v i ≡ Some node → type_of c ≡ node.agent) → map type_of (outside_cells stands after) ≡ outside_types v stands
outside_types-cells type_of [] [] after e f same = refl
outside_types-cells type_of [] (stand ∷ stands) [] e f same = absurd (omega arith)
outside_types-cells type_of [] (stand ∷ stands) (c ∷ after) e f same = absurd (omega arith)
outside_types-cells type_of (node ∷ v) [] after e f same = refl
outside_types-cells type_of (node ∷ v) (stand ∷ stands) [] e f same = absurd (omega arith)
outside_types-cells type_of (node ∷ v) (Left n ∷ stands) (c ∷ after) e f same = outside_types-cells type_of v stands after (omega arith) (omega arith) (λ i. same (suc i))
outside_types-cells type_of (node ∷ v) (Made n ∷ stands) (c ∷ after) e f same = outside_types-cells type_of v stands after (omega arith) (omega arith) (λ i. same (suc i))
outside_types-cells type_of (node ∷ v) (Outside ∷ stands) (c ∷ after) e f same =
    let rest = outside_types-cells type_of v stands after (omega arith) (omega arith) (λ i. same (suc i)) in
    let first = same zero c node refl refl refl in
    rw (first, rest) refl

-- lists that agree at each number are equal
pub same_elements : {X : Type 0} (xs ys : List X) → length xs ≡ length ys → ((i : ℕ) (x y : X) → slice_get xs i ≡ Some x → slice_get ys i ≡ Some y → x ≡ y) → xs ≡ ys
same_elements [] [] e same = refl
same_elements [] (y ∷ ys) e same = absurd (omega arith)
same_elements (x ∷ xs) [] e same = absurd (omega arith)
same_elements (x ∷ xs) (y ∷ ys) e same =
    let rest = same_elements xs ys (omega arith) (λ i. same (suc i)) in
    let first = same zero x y refl refl in
    rw (first, rest) refl

-- an element of two lists joined is one of either
pub in_append : {X : Type 0} (xs ys : List X) (i : ℕ) (x : X) → slice_get (xs ++ ys) i ≡ Some x → (slice_get xs i ≡ Some x) ⊎ ((j : ℕ) × (length xs + j ≡ i) × (slice_get ys j ≡ Some x))
in_append xs ys i x e =
    elim (below_or i (length xs)) [
      | inl within ↦ inl (sym (slice_get-append_left xs ys i within) ∙ e)
      | inr j ↦ inr (j.0, j.1, sym (slice_get-append_right xs ys j.0 i j.1) ∙ e)
    ]

-- the cells of a firing and those outside are different
pub AllDifferent-outside : (cells : List ℕ) (first : ℕ) (stands : List Stand) (after : List ℕ) → AllDifferent cells → AllDifferent after → AllLieOn cells first stands after → AllDifferent (cells ++ outside_cells stands after)
AllDifferent-outside cells first stands after apart apart' lie i j c e f =
    elim (in_append cells (outside_cells stands after) i c e) [
      | inl a ↦ elim (in_append cells (outside_cells stands after) j c f) [
        | inl b ↦ apart i j c a b
        | inr b ↦ let k = outside_cells-node zero stands after b.0 c b.2 in absurd ((lie.each k.0 c Outside k.1 k.2).1 (i, a))
      ]
      | inr a ↦ let k = outside_cells-node zero stands after a.0 c a.2 in
          elim (in_append cells (outside_cells stands after) j c f) [
            | inl b ↦ absurd ((lie.each k.0 c Outside k.1 k.2).1 (j, b))
            | inr b ↦
                let l = outside_cells-node zero stands after b.0 c b.2 in
                let same : k.0 ≡ l.0 = apart' k.0 l.0 c k.2 l.2 in
                let places : ◌≡◌ {A = Option ℕ} (Some (zero + a.0)) (Some (zero + b.0)) = sym k.3 ∙ ap (place_from zero stands) same ∙ l.3 in
                let number : zero + a.0 ≡ zero + b.0 = cc in
                omega (arith, number, a.1, b.1)
          ]
    ]
