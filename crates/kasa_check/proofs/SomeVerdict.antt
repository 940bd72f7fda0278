-- There is a verdict, where the rows that each origin gives are listed.
use Rattle.std.proofs.Common.{◌≡◌, ℕ, zero, suc, ◌+◌, ◌<◌, ◌≤◌, ◌⊎◌, inl, inr, List, [], ◌∷◌, length, refl, sym, ◌∙◌, arith}
use Rattle.std.specs.Prelude.{Option, Some, None, slice_get}
use Rattle.std.specs.declared.cmp.Ordering.{Ordering}
use Rattle.std.specs.declared.cmp.Ordering.TheVariants.{Less, Equal, Greater}
use Rattle.std.specs.Ordering.{MatchOrdering}
use Rattle.kasa_lists.specs.Lists.{Has}
use Rattle.kasa_lists.proofs.Elements.{some_at}
use Rattle.kasa_lists.proofs.Having.{Has-[], Has-head, Has-later, Has-cons}
use Rattle.kasa_families.specs.declared.family.Family.{Family}
use Rattle.kasa_families.specs.declared.row.Row.{Row}
use Rattle.kasa_families.specs.declared.rows.Origin.{Origin}
use Rattle.kasa_families.specs.declared.rows.Origin.TheVariants.{Init, Rule}
use Rattle.kasa_families.specs.declared.rows.Missing.{Missing}
use Rattle.kasa_families.specs.declared.rows.Verdict.{Verdict}
use Rattle.kasa_families.specs.declared.rows.Verdict.TheVariants as verdict
use Rattle.kasa_families.specs.Row.{IsRowBelow}
use Rattle.kasa_families.specs.Table.{Table, AreTables, families_of, rows_of}
use Rattle.kasa_families.specs.contracts.row.RowOrd.TheImpl as order
use Rattle.kasa_families.proofs.TableLemmas.{family_at}
use Rattle.kasa_families.proofs.RowOrder.{by_row, IsRowBelow-trans}
use Rattle.kasa_rules.specs.declared.model.Model.{Model}
use Rattle.kasa_check.specs.Lacked.{AreGiven, IsLacked, IsOriginBelow}
use Rattle.kasa_check.specs.Verdict.{IsVerdict}
use Rattle.kasa_check.specs.Search.{IsFirstOf, IsFrom, IsOf, IsFromInit, IsFromRule, IsLeastNew}
use Rattle.kasa_check.proofs.FirstLemmas.{family_found, family_none, origin_found, origin_none, init_there, yield_there, family_there}
use Rattle.kasa_check.proofs.PairLemmas.{from, no_given, first_given}
use Rattle.kasa_check.proofs.ClosedLemmas.{has_or_not, first_initial, first_yielded, all_held}

-- ---- the least of listed rows that isn't stored

module _ (stored : List Row) (row : Row) (rows : List Row) where
  skipped : Has stored row → (o : Option Row) → IsLeastNew stored rows o → IsLeastNew stored (row ∷ rows) o
  skipped has None all = λ other among. elim (Has-cons row rows other among) [
    | inl same ↦ rw same has
    | inr later ↦ all other later
  ]
  skipped has (Some least) is = (
    Has-later row rows least is.0,
    is.1,
    λ other among new. elim (Has-cons row rows other among) [
      | inl same ↦ absurd (new (rw same has))
      | inr later ↦ is.2 other later new
    ],
  )

  alone : (Has stored row → ⊥) → IsLeastNew stored rows None → IsLeastNew stored (row ∷ rows) (Some row)
  alone new all = (
    Has-head row rows,
    new,
    λ other among apart. elim (Has-cons row rows other among) [
      | inl same ↦ inl (sym same)
      | inr later ↦ absurd (apart (all other later))
    ],
  )

  lower : (least : Row) → (Has stored row → ⊥) → IsLeastNew stored rows (Some least) → (o : Ordering) → MatchOrdering o (IsRowBelow row least) (row ≡ least) (IsRowBelow least row) → (one : Row) × IsLeastNew stored (row ∷ rows) (Some one)
  lower least new is Less below = (
    row,
    (
      Has-head row rows,
      new,
      λ other among apart. elim (Has-cons row rows other among) [
        | inl same ↦ inl (sym same)
        | inr later ↦ elim (is.2 other later apart) [
          | inl equal ↦ inr (rw equal at below)
          | inr above ↦ inr (IsRowBelow-trans row least other below above)
        ]
      ],
    ),
  )
  lower least new is Equal equal = (
    least,
    (
      Has-later row rows least is.0,
      is.1,
      λ other among apart. elim (Has-cons row rows other among) [
        | inl same ↦ inl (sym equal ∙ sym same)
        | inr later ↦ is.2 other later apart
      ],
    ),
  )
  lower least new is Greater above = (
    least,
    (
      Has-later row rows least is.0,
      is.1,
      λ other among apart. elim (Has-cons row rows other among) [
        | inl same ↦ inr (rw same above)
        | inr later ↦ is.2 other later apart
      ],
    ),
  )

least_of : (stored rows : List Row) → (o : Option Row) × IsLeastNew stored rows o
least_of stored [] = (None, λ row has. absurd (Has-[] row has))
least_of stored (row ∷ rows) = by (has_or_not stored row) (least_of stored rows)
  where
    by : Has stored row ⊎ (Has stored row → ⊥) → (o : Option Row) × IsLeastNew stored rows o → (o : Option Row) × IsLeastNew stored (row ∷ rows) o
    by (inl has) (o, is) = (o, skipped stored row rows has o is)
    by (inr new) (None, all) = (Some row, alone stored row rows new all)
    by (inr new) (Some least, is) = let one = lower stored row rows least new is ((order.ghosts).cmp row least) (by_row row least) in (Some one.0, one.1)

-- ---- the verdict

module _ (model : Model) (tables : List Table) (ok : AreTables model.sig tables) (given : (origin : Origin) (family : Family) → Has (families_of tables) family → (rows : List Row) × AreGiven model tables origin family rows) where
  pair_exists : (origin : Origin) (f : ℕ) (family : Family) → slice_get (families_of tables) f ≡ Some family → (found : Option Missing) × IsFirstOf model tables (IsOf origin f) found
  pair_exists origin f family named = by (least_of (rows_of tables f) rows.0)
    where
      rows : (list : List Row) × AreGiven model tables origin family list
      rows = given origin family (f, named)

      by : (o : Option Row) × IsLeastNew (rows_of tables f) rows.0 o → (found : Option Missing) × IsFirstOf model tables (IsOf origin f) found
      by (None, all) = (None, no_given model tables ok f family named origin rows.0 rows.1 all)
      by (Some row, least) = (Some (from origin f row), first_given model tables ok f family named origin rows.0 rows.1 row least)

  abbrev NoneBefore : Origin → ℕ → Type 0
  NoneBefore origin f = (other : Missing) → other.origin ≡ origin → other.family < f → ¬ IsLacked model tables other

  families_before : (origin : Origin) (n : ℕ) → n ≤ length tables → ((m : Missing) × IsFirstOf model tables (IsFrom origin) (Some m)) ⊎ NoneBefore origin n
  families_before origin zero few = inr (λ other from less lacked. absurd (omega arith))
  families_before origin (suc n) few = elim (families_before origin n (omega arith)) [
    | inl found ↦ inl found
    | inr none ↦ let t = some_at tables n (omega arith) in by none (pair_exists origin n t.0.family (family_at tables n t.0 (sym t.1)))
  ]
    where
      by : NoneBefore origin n → (found : Option Missing) × IsFirstOf model tables (IsOf origin n) found → ((m : Missing) × IsFirstOf model tables (IsFrom origin) (Some m)) ⊎ NoneBefore origin (suc n)
      by none (None, all) = inr (λ other from less lacked. family_none model tables origin n None (λ some. absurd cc) all none other from (omega arith) lacked)
      by none (Some m, first) = inl (m, family_found model tables origin n (Some m) refl first none)

  origin_exists : (origin : Origin) → (found : Option Missing) × IsFirstOf model tables (IsFrom origin) found
  origin_exists origin = elim (families_before origin (length tables) (omega arith)) [
    | inl (m, first) ↦ (Some m, first)
    | inr none ↦ (None, λ m from lacked. none m from (family_there model tables m lacked) lacked)
  ]

  module _ (make : ℕ → Origin) (ordered : (i j : ℕ) → i < j → IsOriginBelow (make i) (make j)) (start : (m : Missing) (n : ℕ) → m.origin ≡ make n → IsLacked model tables m → 0 < n) where
    abbrev NoneUpTo : ℕ → Type 0
    NoneUpTo k = (other : Missing) (n : ℕ) → other.origin ≡ make n → n < k + 1 → ¬ IsLacked model tables other

    origins_before : (k : ℕ) → ((m : Missing) × IsFirstOf model tables (λ x. (n : ℕ) × (x.origin ≡ make n)) (Some m)) ⊎ NoneUpTo k
    origins_before zero = inr (λ other n from less lacked. absurd (let there = start other n from lacked in omega arith))
    origins_before (suc k) = elim (origins_before k) [
      | inl found ↦ inl found
      | inr none ↦ by none (origin_exists (make (k + 1)))
    ]
      where
        by : NoneUpTo k → (found : Option Missing) × IsFirstOf model tables (IsFrom (make (k + 1))) found → ((m : Missing) × IsFirstOf model tables (λ x. (n : ℕ) × (x.origin ≡ make n)) (Some m)) ⊎ NoneUpTo (suc k)
        by none (None, all) = inr (λ other n from less lacked. origin_none model tables make ordered k None (λ some. absurd cc) all none other n from (omega arith) lacked)
        by none (Some m, first) = inl (m, origin_found model tables make ordered k (Some m) refl first none)

  pub some_verdict : (v : Verdict) × IsVerdict model tables v
  some_verdict = by inits rules
    where
      inits : ((m : Missing) × IsFirstOf model tables IsFromInit (Some m)) ⊎ ((other : Missing) (n : ℕ) → other.origin ≡ Init n → n < length model.inits + 1 → ¬ IsLacked model tables other)
      inits = origins_before (λ n. Init n) (λ i j less. less) (λ m n from lacked. (init_there model tables m n from lacked).0) (length model.inits)

      rules : ((m : Missing) × IsFirstOf model tables IsFromRule (Some m)) ⊎ ((other : Missing) (n : ℕ) → other.origin ≡ Rule n → n < length model.rules + 1 → ¬ IsLacked model tables other)
      rules = origins_before (λ n. Rule n) (λ i j less. less) (λ m n from lacked. (yield_there model tables m n from lacked).0) (length model.rules)

      by : ((m : Missing) × IsFirstOf model tables IsFromInit (Some m)) ⊎ ((other : Missing) (n : ℕ) → other.origin ≡ Init n → n < length model.inits + 1 → ¬ IsLacked model tables other) → ((m : Missing) × IsFirstOf model tables IsFromRule (Some m)) ⊎ ((other : Missing) (n : ℕ) → other.origin ≡ Rule n → n < length model.rules + 1 → ¬ IsLacked model tables other) → (v : Verdict) × IsVerdict model tables v
      by (inl (m, first)) yielded = (verdict.Missing m, first_initial model tables ok m first)
      by (inr none) (inl (m, first)) = (verdict.Missing m, first_yielded model tables ok m (no_inits none) first)
        where
          no_inits : ((other : Missing) (n : ℕ) → other.origin ≡ Init n → n < length model.inits + 1 → ¬ IsLacked model tables other) → IsFirstOf model tables IsFromInit None
          no_inits none m (n, from) lacked = none m n from (init_there model tables m n from lacked).1 lacked
      by (inr none) (inr free) = (verdict.Closed, all_held model tables ok (λ m (n, from) lacked. none m n from (init_there model tables m n from lacked).1 lacked) (λ m (n, from) lacked. free m n from (yield_there model tables m n from lacked).1 lacked))
