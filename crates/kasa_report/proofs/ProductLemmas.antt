-- When the rows of a family are a product, by their number.
use Rattle.std.proofs.Common.{◌≡◌, ◌≢◌, ℕ, ◌≤◌, inl, inr, List, [], ◌∷◌, length, refl, sym, subst, arith}
use Rattle.std.specs.Prelude.{◌↔◌, false, ◌==◌}
use Rattle.kasa_lists.specs.Lists.{Has, AllDifferent}
use Rattle.kasa_lists.proofs.Having.{Has-[], Has-cons}
use Rattle.kasa_lists.proofs.Different.{AllDifferent-[], AllDifferent-cons, length-within}
use Rattle.kasa_families.specs.declared.family.Family.{Family}
use Rattle.kasa_families.specs.declared.family.Family.TheVariants.{View, Across, Parallel, Chain}
use Rattle.kasa_families.specs.declared.row.Row.{Row}
use Rattle.kasa_families.specs.declared.row.Row.TheVariants.{Locals, Same, Different}
use Rattle.kasa_families.specs.Family.{shape_of}
use Rattle.kasa_families.specs.Table.{HasShape}
use Rattle.kasa_report.specs.Product.{IsProductRows, IsProductOf}
use Rattle.kasa_report.specs.inner.Mixed.{AreWide}
use Rattle.kasa_report.proofs.Grids.{has_all, has_or_not}
use Rattle.kasa_report.proofs.MixedLemmas.{same_or_not}

-- ---- parallel families

both : List Row
both = Same ∷ Different ∷ []

different_both : AllDifferent both
unfolding both
different_both = AllDifferent-cons Same (Different ∷ [])
    (λ i at. elim (Has-cons Different [] Same (i, at)) [ inl e ↦ (let f : Same ≡ Different = e in cc) | inr h ↦ Has-[] Same h ])
    (AllDifferent-cons Different [] (λ i at. Has-[] Different (i, at)) AllDifferent-[])

module _ (a x u b y w : ℕ) (rows : List Row) (shaped : (row : Row) → Has rows row → HasShape (Parallel a x u b y w) row) (differ : AllDifferent rows) where
  one_of : (row : Row) → HasShape (Parallel a x u b y w) row → Has both row
  unfolding both
  one_of (Locals ls) shape = absurd shape
  one_of Same shape = (0, refl)
  one_of Different shape = (1, refl)

  among_both : (row : Row) → Has rows row → Has both row
  among_both row has = one_of row (shaped row has)

  pub two_are_both : length rows ≡ 2 → IsProductRows (Parallel a x u b y w) rows
  unfolding both
  two_are_both two =
      let all = has_all rows both differ among_both (omega arith) (has_or_not same_or_not rows) in
      (all Same (0, refl), all Different (1, refl))

  pub both_are_two : IsProductRows (Parallel a x u b y w) rows → length rows ≡ 2
  unfolding both
  both_are_two (first, second) =
      let less = length-within rows both differ among_both in
      let more = length-within both rows different_both (λ row h. elim (Has-cons Same (Different ∷ []) row h) [
        | inl is ↦ subst (Has rows) (sym is) first
        | inr later ↦ elim (Has-cons Different [] row later) [ inl is ↦ subst (Has rows) (sym is) second | inr none ↦ absurd (Has-[] row none) ]
      ]) in omega arith

-- ---- other families

-- rows of the shape of such a family are of as many local states as it has columns
pub AreWide-shaped : (family : Family) (rows : List Row) → ((a x u b y w : ℕ) → family ≢ Parallel a x u b y w) → ((row : Row) → Has rows row → HasShape family row) → AreWide rows (length (shape_of family).columns)
AreWide-shaped (View a sites) rows other shaped (Locals ls) has = shaped (Locals ls) has
AreWide-shaped (View a sites) rows other shaped Same has = absurd (shaped Same has)
AreWide-shaped (View a sites) rows other shaped Different has = absurd (shaped Different has)
AreWide-shaped (Across a x p b y q) rows other shaped (Locals ls) has = shaped (Locals ls) has
AreWide-shaped (Across a x p b y q) rows other shaped Same has = absurd (shaped Same has)
AreWide-shaped (Across a x p b y q) rows other shaped Different has = absurd (shaped Different has)
AreWide-shaped (Parallel a x u b y w) rows other shaped row has = absurd (other a x u b y w refl)
AreWide-shaped (Chain a x p b y z c w q) rows other shaped (Locals ls) has = shaped (Locals ls) has
AreWide-shaped (Chain a x p b y z c w q) rows other shaped Same has = absurd (shaped Same has)
AreWide-shaped (Chain a x p b y z c w q) rows other shaped Different has = absurd (shaped Different has)

-- and their table is a product where they are as many as can be mixed
pub product_rows : (family : Family) (rows : List Row) → ((a x u b y w : ℕ) → family ≢ Parallel a x u b y w) → IsProductOf (length (shape_of family).columns) rows ↔ IsProductRows family rows
product_rows (View a sites) rows other = (λ h. h, λ h. h)
product_rows (Across a x p b y q) rows other = (λ h. h, λ h. h)
product_rows (Parallel a x u b y w) rows other = absurd (other a x u b y w refl)
product_rows (Chain a x p b y z c w q) rows other = (λ h. h, λ h. h)

-- where there is a row
pub some_rows : (rows : List Row) → false ≡ (length rows == 0) → 1 ≤ length rows
some_rows [] e = absurd cc
some_rows (row ∷ rows) e = omega arith
