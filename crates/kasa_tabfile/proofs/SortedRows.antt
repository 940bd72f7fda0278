-- Rows that are moved: they are the same ones, and stay different.
use Rattle.std.proofs.Common.{◌≡◌, ◌≢◌, ℕ, ◌<◌, List, get_or, true, false, refl, sym, ap, ◌∙◌, arith, Some, inl, inr}
use Rattle.std.specs.Prelude.{slice_get}
use Rattle.std.specs.List.{IsDistinct}
use Rattle.std.specs.List.Sorted.{IsPermutation, IsSorted}
use Rattle.std.proofs.lemmas.Bool.{cases_Bool, cases_lt, cases_eq}
use Rattle.std.proofs.lemmas.Option.{slice_get_within, get_or_from_slice_get, slice_get-get_or}
use Rattle.std.proofs.lemmas.Map.Keys.{apart_from_distinct, IsDistinct-from_apart, IsDistinct-IsPermutation}
use Rattle.kasa_lists.specs.Lists.{AllDifferent}
use Rattle.kasa_lists.proofs.Having.{Has-moved}
use Rattle.kasa_families.specs.declared.row.Row.{Row}
use Rattle.kasa_families.specs.contracts.row.RowOrd.TheImpl as order
use Rattle.kasa_families.specs.contracts.row.RowPartialEq.TheImpl as equal
use Rattle.kasa_families.specs.contracts.row.RowEq.TheImpl.Laws.{laws-law as equivalence}
use Rattle.kasa_families.proofs.SameValue.{same_row}
use Rattle.kasa_families.proofs.RowOrder.{AreAscending-sorted}
use Rattle.kasa_tabfile.specs.inner.Written.{AreInRowOrder}

-- different rows, by their equality
unequal : (x y : Row) → x ≢ y → (equal.ghosts).eq x y ≡ false
unequal x y differ = elim (cases_Bool ((equal.ghosts).eq x y)) [
  | inl e ↦ absurd (differ ((same_row x y).0 e))
  | inr e ↦ e
]

distinct : (rows : List Row) → AllDifferent rows → IsDistinct (equal.ghosts).eq rows
distinct rows different = IsDistinct-from_apart _ rows (λ i j d less within.
    unequal (get_or rows i d) (get_or rows j d) (λ e.
    let same : i ≡ j = different i j (get_or rows i d) (slice_get-get_or rows i d (omega arith)) (slice_get-get_or rows j d within ∙ ap Some (sym e)) in
    absurd (omega (arith, same))))

not_apart : (rows : List Row) → IsDistinct (equal.ghosts).eq rows → (i j : ℕ) (row : Row) → slice_get rows i ≡ Some row → slice_get rows j ≡ Some row → i < j → ⊥
not_apart rows apart i j row at_i at_j less =
    let differ = apart_from_distinct _ rows i j row apart less (slice_get_within rows j row at_j) in
    let unlike : (equal.ghosts).eq row row ≡ false = rw (get_or_from_slice_get rows i row row at_i, get_or_from_slice_get rows j row row at_j) at differ in
    let like : (equal.ghosts).eq row row ≡ true = (same_row row row).1 refl in
    let no : true ≡ false = sym like ∙ unlike in cc

different : (rows : List Row) → IsDistinct (equal.ghosts).eq rows → AllDifferent rows
different rows apart i j row at_i at_j = elim (cases_eq i j) [
  | inl e ↦ e
  | inr ne ↦ elim (cases_lt i j) [
    | inl less ↦ absurd (not_apart rows apart i j row at_i at_j less)
    | inr more ↦ absurd (not_apart rows apart j i row at_j at_i (omega (arith, ne)))
  ]
]

AllDifferent-moved : (rows moved : List Row) → IsPermutation rows moved → AllDifferent rows → AllDifferent moved
AllDifferent-moved rows moved same differ = different moved (IsDistinct-IsPermutation _ equivalence.symm rows moved same (distinct rows differ))

-- different rows that were sorted
pub in_row_order : (rows sorted : List Row) → AllDifferent rows → IsPermutation rows sorted → IsSorted (order.ghosts).cmp sorted → AreInRowOrder rows sorted
in_row_order rows sorted differ moved ascend = record {
  same = Has-moved rows sorted moved;
  ascend = AreAscending-sorted sorted ascend (AllDifferent-moved rows sorted moved differ);
}
