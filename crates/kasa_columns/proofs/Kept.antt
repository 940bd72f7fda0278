-- Rows and local states that are sorted, each once.
use Rattle.std.proofs.Common.{◌↔◌, ◌∙◌, List, ap, Some}
use Rattle.std.specs.List.{Contains, dedup}
use Rattle.std.specs.List.Sorted.{IsSorted, IsPermutation}
use Rattle.std.proofs.lemmas.Option.{slice_get_within, get_or_from_slice_get, slice_get-get_or}
use Rattle.std.proofs.lemmas.List.Kept.{Contains-dedup, Contains-from_dedup, IsStrictlySortedBy-dedup}
use Rattle.std.proofs.lemmas.List.Sorted.{Contains-permutation, IsPermutation-sym}
use Rattle.kasa_graph.specs.Lists.{Has}
use Rattle.kasa_families.specs.declared.row.Local.{Local}
use Rattle.kasa_families.specs.declared.row.Row.{Row}
use Rattle.kasa_families.specs.Row.{AreAscending}
use Rattle.kasa_families.specs.contracts.row.RowOrd.TheImpl as order
use Rattle.kasa_families.specs.contracts.row.RowOrd.TheImpl.Laws.{total-law, matches_eq-law}
use Rattle.kasa_families.specs.contracts.row.RowPartialEq.TheImpl as equal
use Rattle.kasa_families.specs.contracts.row.RowEq.TheImpl.Laws.{laws-law as equivalence}
use Rattle.kasa_families.specs.contracts.row.LocalPartialEq.TheImpl as local
use Rattle.kasa_families.specs.contracts.row.LocalEq.TheImpl.Laws.{laws-law as local_equivalence}
use Rattle.kasa_families.proofs.SameValue.{same_row, same_local}
use Rattle.kasa_families.proofs.RowOrder.{AreAscending-strictly_sorted}

Has-contains : {X : Type 0} (xs : List X) (x : X) → Has xs x → Contains xs x
Has-contains xs x h = (h.0, slice_get_within xs h.0 x h.1, get_or_from_slice_get xs h.0 x x h.1)

Contains-has : {X : Type 0} (xs : List X) (x : X) → Contains xs x → Has xs x
Contains-has xs x h = (h.0, slice_get-get_or xs h.0 x h.1 ∙ ap Some h.2)

pub rows_ascend : (rows : List Row) → IsSorted (order.ghosts).cmp rows → AreAscending (dedup (equal.ghosts).eq rows)
rows_ascend rows sorted = AreAscending-strictly_sorted _ (IsStrictlySortedBy-dedup total-law matches_eq-law rows sorted)

-- sorting and `dedup` keep the elements
pub rows_kept : (rows moved : List Row) → IsPermutation rows moved → (row : Row) → Has (dedup (equal.ghosts).eq moved) row ↔ Has rows row
rows_kept rows moved same row = (
  λ h. Contains-has rows row (Contains-permutation _ _ row (IsPermutation-sym _ _ same) (Contains-from_dedup _ moved row (Has-contains _ row h))),
  λ h. Contains-has _ row (Contains-dedup equivalence (λ x y e. (same_row x y).0 e) moved row (Contains-permutation _ _ row same (Has-contains rows row h))),
)

pub locals_kept : (locals moved : List Local) → IsPermutation locals moved → (l : Local) → Has (dedup (local.ghosts).eq moved) l ↔ Has locals l
locals_kept locals moved same l = (
  λ h. Contains-has locals l (Contains-permutation _ _ l (IsPermutation-sym _ _ same) (Contains-from_dedup _ moved l (Has-contains _ l h))),
  λ h. Contains-has _ l (Contains-dedup local_equivalence (λ x y e. (same_local x y).0 e) moved l (Contains-permutation _ _ l same (Has-contains locals l h))),
)
