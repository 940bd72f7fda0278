-- What is asked of the rows of a family is asked of its list of rows.
use Rattle.std.proofs.Common.{◌≡◌, ℕ, List}
use Rattle.std.specs.Prelude.{Option, Some, None, slice_get}
use Rattle.kasa_graph.specs.declared.pattern.Node.{Node}
use Rattle.kasa_families.specs.declared.row.Row.{Row}
use Rattle.kasa_families.specs.declared.family.Family.{Family}
use Rattle.kasa_families.proofs.TableLemmas.{rows_of-some, family_at}
use Rattle.kasa_families.specs.declared.place.Spot.{Spot}
use Rattle.kasa_families.specs.Spot.{place_of}
use Rattle.kasa_families.specs.Compatible.{IsCompatible}
use Rattle.kasa_families.specs.Table.{Table}
use Rattle.kasa_families.specs.First.{IsLeastFrom, IsCompatibleRow}

module _ (tables : List Table) (f : ℕ) (t : Table) (at : Some t ≡ slice_get tables f) (g : List Node) (spot : Spot) where
  abbrev pub IsCompatibleAmong : ℕ → Type 0
  IsCompatibleAmong k = (row : Row) × (slice_get t.rows k ≡ Some row) × IsCompatible g t.family (place_of g t.family spot) row

  among : (k : ℕ) → IsCompatibleAmong k → IsCompatibleRow tables f g spot k
  among k (row, is, ok) = (t.family, row, family_at tables f t at, rw (rows_of-some tables f t at) is, ok)

  of_row : (k : ℕ) → IsCompatibleRow tables f g spot k → IsCompatibleAmong k
  of_row k (family, row, named, is, ok) =
      let same : family ≡ t.family = let e = family_at tables f t at in cc in
      (row, rw (rows_of-some tables f t at) at is, rw same at ok)

  pub IsLeastFrom-rows : (from : ℕ) (k : Option ℕ) → IsLeastFrom IsCompatibleAmong from k → IsLeastFrom (IsCompatibleRow tables f g spot) from k
  IsLeastFrom-rows from None none = λ j up h. none j up (of_row j h)
  IsLeastFrom-rows from (Some k) least = (least.0, among k least.1, λ j up before h. least.2 j up before (of_row j h))
