-- What is kept of the rows that a search comes to.
use Rattle.std.proofs.Common.{◌≡◌, ℕ, suc, ◌<◌, ◌≤◌, ◌⊎◌, inl, inr, Bool, true, false, not, List, [], ◌∷◌, ◌++◌, refl, sym, length, arith, Some}
use Rattle.std.specs.Prelude.{slice_get, IsTrue, MatchOption}
use Rattle.std.proofs.lemmas.List.{length-append}
use Rattle.std.specs.List.{list_any}
use Rattle.std.specs.Ordering.{MatchOrdering, is_lt}
use Rattle.std.proofs.Common.{Ordering, Less, Equal, Greater}
use Rattle.std.specs.Bool.{MatchBool, OnTrue, OnFalse}
use Rattle.indexmap.specs.IndexSet.{insert_key}
use Rattle.kasa_graph.specs.Lists.{Has}
use Rattle.kasa_graph.proofs.ListLemmas.{pushed_or, Has-left, Has-right, AllDifferent-[]}
use Rattle.kasa_graph.proofs.NewNameLemmas.{AllDifferent-push}
use Rattle.kasa_families.specs.declared.row.Row.{Row}
use Rattle.kasa_families.specs.Row.{IsRowBelow}
use Rattle.kasa_families.specs.contracts.row.RowPartialEq.TheImpl as rows
use Rattle.kasa_families.specs.contracts.row.RowOrd.TheImpl as order
use Rattle.kasa_tables.proofs.RowSets.{has_any, none_any, insert_new}
use Rattle.kasa_families.proofs.RowOrder.{IsRowBelow-trans, by_row}
use Rattle.kasa_columns.specs.declared.collect.Aim.{Aim}
use Rattle.kasa_columns.specs.declared.collect.Aim.TheVariants.{UpTo, NewUpTo, FirstMissing}
use Rattle.kasa_columns.specs.Ask.{Ask, stored, IsResultOf, kept_by, FitsAim, IsSettledFor, IsWantedFor, IsWanted, AreFound, GoesOn}

-- ---- one row more

module _ (stored : List Row) where
  pub still_settled : (aim : Aim) (old : List Row) (row : Row) → IsWantedFor stored aim old row → (other : Row) → IsSettledFor stored aim old other → IsSettledFor stored aim (kept_by aim old ++ row ∷ []) other
  still_settled (UpTo most) old row wanted other (inl more) = inl (let few = wanted.0 in absurd (omega arith))
  still_settled (UpTo most) old row wanted other (inr has) = inr (Has-left old (row ∷ []) other has)
  still_settled (NewUpTo most) old row wanted other (inl has) = inl has
  still_settled (NewUpTo most) old row wanted other (inr (inl more)) = inr (inl (let few = wanted.1 in absurd (omega arith)))
  still_settled (NewUpTo most) old row wanted other (inr (inr has)) = inr (inr (Has-left old (row ∷ []) other has))
  still_settled FirstMissing old row wanted other (inl has) = inl has
  still_settled FirstMissing old row wanted other (inr (least, has, below)) = inr (row, refl, inr (by below))
    where
      by : (least ≡ other) ⊎ IsRowBelow least other → IsRowBelow row other
      by (inl e) = rw (← e) (wanted.1 least has)
      by (inr h) = IsRowBelow-trans row least other (wanted.1 least has) h

  length_pushed : (most : ℕ) (old : List Row) (row : Row) → length old ≤ most → length (old ++ row ∷ []) ≤ suc most
  length_pushed most old row few = let l = length-append old (row ∷ []) in omega arith

  -- only what was found, and the row, are found afterwards
  pub old_or_row : (aim : Aim) (old : List Row) (row x : Row) → Has (kept_by aim old ++ row ∷ []) x → Has old x ⊎ (x ≡ row)
  old_or_row (UpTo most) old row x h = elim (pushed_or old row x h.0 h.1) [ inl at ↦ inl (h.0, at) | inr e ↦ inr e ]
  old_or_row (NewUpTo most) old row x h = elim (pushed_or old row x h.0 h.1) [ inl at ↦ inl (h.0, at) | inr e ↦ inr e ]
  old_or_row FirstMissing old row x h = elim (pushed_or [] row x h.0 h.1) [ inl at ↦ absurd cc | inr e ↦ inr e ]

  fits_more : (aim : Aim) (old : List Row) (row : Row) → IsWantedFor stored aim old row → FitsAim stored aim old → FitsAim stored aim (kept_by aim old ++ row ∷ [])
  fits_more (UpTo most) old row wanted fit = (AllDifferent-push old row fit.0 wanted.1, length_pushed most old row wanted.0)
  fits_more (NewUpTo most) old row wanted fit = (
    AllDifferent-push old row fit.0 wanted.2,
    length_pushed most old row wanted.1,
    λ x h. elim (old_or_row (NewUpTo most) old row x h) [ inl had ↦ fit.2 x had | inr e ↦ rw e wanted.0 ],
  )
  fits_more FirstMissing old row wanted fit = λ x h. elim (old_or_row FirstMissing old row x h) [ inl had ↦ fit x had | inr e ↦ rw e wanted.0 ]

  pub settled_kept : (aim : Aim) (old : List Row) (row : Row) → IsSettledFor stored aim (kept_by aim old ++ row ∷ []) row
  settled_kept (UpTo most) old row = inr (Has-right old (row ∷ []) row (0, refl))
  settled_kept (NewUpTo most) old row = inr (inr (Has-right old (row ∷ []) row (0, refl)))
  settled_kept FirstMissing old row = inr (row, refl, inl refl)

  pub new_kept : (aim : Aim) (old : List Row) (row : Row) → IsWantedFor stored aim old row → insert_key (rows.ghosts).eq (kept_by aim old) row ≡ kept_by aim old ++ row ∷ []
  new_kept (UpTo most) old row wanted = insert_new old row wanted.1
  new_kept (NewUpTo most) old row wanted = insert_new old row wanted.2
  new_kept FirstMissing old row wanted = insert_new [] row (λ h. let e = h.1 in cc)

  fits_none : (aim : Aim) → FitsAim stored aim []
  fits_none (UpTo most) = (AllDifferent-[], omega arith)
  fits_none (NewUpTo most) = (AllDifferent-[], omega arith, λ row h. absurd (let e = h.1 in cc))
  fits_none FirstMissing = λ row h. absurd (let e = h.1 in cc)

module _ (a : Ask) where
  pub GoesOn-kept : (old : List Row) (row : Row) → IsWanted a old row → IsResultOf a row → GoesOn a old (kept_by a.aim old ++ row ∷ [])
  GoesOn-kept old row wanted is = record {
    found = λ found. record {
      results = λ x h. elim (old_or_row (stored a) a.aim old row x h) [ inl had ↦ found.results x had | inr e ↦ rw e is ];
      fit = fits_more (stored a) a.aim old row wanted found.fit;
    };
    settled = still_settled (stored a) a.aim old row wanted;
  }

  pub AreFound-none : AreFound a []
  AreFound-none = record { results = λ row h. absurd (let e = h.1 in cc); fit = fits_none (stored a) a.aim }

  pub GoesOn-refl : (old : List Row) → GoesOn a old old
  GoesOn-refl old = record { found = λ h. h; settled = λ row h. h }

  pub GoesOn-trans : (old middle new : List Row) → GoesOn a old middle → GoesOn a middle new → GoesOn a old new
  GoesOn-trans old middle new first second = record { found = λ h. second.found (first.found h); settled = λ row h. second.settled row (first.settled row h) }

-- ---- tests of a row

pub open_unless : (found : List Row) (most : ℕ) (row : Row) (b : Bool) → length found ≤ most → b ≡ list_any ((rows.ghosts).eq row) found → OnTrue (not b) ((length found ≤ most) × ¬ Has found row)
open_unless found most row true few e = tt
open_unless found most row false few e = (few, none_any found row (sym e))

pub closed_if : (found : List Row) (most : ℕ) (row : Row) (b : Bool) → b ≡ list_any ((rows.ghosts).eq row) found → OnFalse (not b) ((most < length found) ⊎ Has found row)
closed_if found most row true e = inr (has_any found row (sym e))
closed_if found most row false e = tt

pub wanted_new : (held found : List Row) (most : ℕ) (row : Row) (b : Bool) → ¬ Has held row → OnTrue b ((length found ≤ most) × ¬ Has found row) → OnTrue b (IsWantedFor held (NewUpTo most) found row)
wanted_new held found most row true new h = (new, h.0, h.1)
wanted_new held found most row false new h = tt

pub settled_new : (held found : List Row) (most : ℕ) (row : Row) (b : Bool) → OnFalse b ((most < length found) ⊎ Has found row) → OnFalse b (IsSettledFor held (NewUpTo most) found row)
settled_new held found most row true h = tt
settled_new held found most row false h = inr h

pub below_first : (found : List Row) (row least : Row) → slice_get found 0 ≡ Some least → (b : Bool) → b ≡ is_lt ((order.ghosts).cmp row least) → MatchOption (slice_get found 0) (IsTrue b) (λ l. MatchBool b (IsRowBelow row l) ((l ≡ row) ⊎ IsRowBelow l row))
below_first found row least first b e = rw first (by ((order.ghosts).cmp row least) (by_row row least) b e)
  where
    by : (o : Ordering) → MatchOrdering o (IsRowBelow row least) (row ≡ least) (IsRowBelow least row) → (b : Bool) → b ≡ is_lt o → MatchBool b (IsRowBelow row least) ((least ≡ row) ⊎ IsRowBelow least row)
    by Less h true e = h
    by Equal h true e = absurd cc
    by Greater h true e = absurd cc
    by Less h false e = absurd cc
    by Equal h false e = inl (sym h)
    by Greater h false e = inr h
