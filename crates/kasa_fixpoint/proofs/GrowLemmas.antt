-- Tables that take in one row, and then more of them.
use Rattle.std.proofs.Common.{◌≡◌, ◌≢◌, ℕ, zero, suc, ◌⊎◌, inl, inr, Bool, true, false, ◌||◌, List, [], ◌∷◌, ◌++◌, length, take, refl, sym, ◌∙◌, arith, length-append}
use Rattle.std.specs.Prelude.{Option, Some, Ok, Err, Result, ◌↔◌, ◌<◌, slice_get}
use Rattle.kasa_tables.specs.declared.plain.InsertFault.{InsertFault}
use Rattle.kasa_tables.specs.declared.plain.InsertFault.TheVariants.{Full as full_fault}
use Rattle.std.specs.Iterator.{Yields}
use Rattle.std.proofs.lemmas.Iterator.{YieldsList}
use Rattle.std.proofs.lemmas.Iterator.Consumers.{YieldsList-so_far, YieldsList-turn}
use Rattle.std.proofs.lemmas.Option.{slice_get_read}
use Rattle.kasa_graph.specs.Lists.{Has}
use Rattle.kasa_graph.proofs.ListLemmas.{same_or_not, slice_get-update_same, slice_get-update_other, pushed_or, map-update_same, map-same, take-next, Has-left, Has-right, Has-append}
use Rattle.kasa_graph.proofs.NewNameLemmas.{AllDifferent-push}
use Rattle.kasa_families.specs.declared.family.Family.{Family}
use Rattle.kasa_families.specs.declared.row.Row.{Row}
use Rattle.kasa_families.specs.Table.{Table, families_of, rows_of}
use Rattle.kasa_families.proofs.TableLemmas.{table_of}
use Rattle.kasa_tables.specs.Insert.{with_last, with_row, row_count}
use Rattle.kasa_tables.proofs.PlainLemmas.{row_count-with_row}
use Rattle.kasa_fixpoint.specs.Growing.{HaveDifferentRows, HaveRowsOf, HasRoomForRows, HaveMoreRows, TakesIn, LacksRoom}
use Rattle.kasa_fixpoint.proofs.CountLemmas.{row_count-within}

-- ---- one row

rows_of-with_row_same : (tables : List Table) (f : ℕ) (t : Table) (row : Row) → slice_get tables f ≡ Some t → rows_of (with_row tables f row) f ≡ rows_of tables f ++ row ∷ []
unfolding rows_of
rows_of-with_row_same tables f t row at = rw (slice_get-update_same tables f (with_last row), at) refl

rows_of-with_row_other : (tables : List Table) (f k : ℕ) (row : Row) → f ≢ k → rows_of (with_row tables f row) k ≡ rows_of tables k
unfolding rows_of
rows_of-with_row_other tables f k row ne = rw (slice_get-update_other tables f k (with_last row) ne) refl

only_one : (row other : Row) → Has (row ∷ []) other → other ≡ row
only_one row other has = elim (pushed_or [] row other has.0 has.1) [ inl e ↦ absurd cc | inr e ↦ e ]

module _ (tables : List Table) (f : ℕ) (t : Table) (row : Row) (at : slice_get tables f ≡ Some t) where
  differ : ¬ Has (rows_of tables f) row → HaveDifferentRows tables → HaveDifferentRows (with_row tables f row)
  differ new different k = elim (same_or_not f k) [
    | inl e ↦ rw (← e, rows_of-with_row_same tables f t row at) (AllDifferent-push (rows_of tables f) row (different f) new)
    | inr ne ↦ rw (rows_of-with_row_other tables f k row ne) (different k)
  ]

  kept : HaveRowsOf tables (with_row tables f row)
  kept k other has = elim (same_or_not f k) [
    | inl e ↦ rw (← e, rows_of-with_row_same tables f t row at) (Has-left (rows_of tables f) (row ∷ []) other (rw (← e) at has))
    | inr ne ↦ rw (rows_of-with_row_other tables f k row ne) has
  ]

  held : Has (rows_of (with_row tables f row) f) row
  held = rw (rows_of-with_row_same tables f t row at) (Has-right (rows_of tables f) (row ∷ []) row (0, refl))

  only : (k : ℕ) (other : Row) → Has (rows_of (with_row tables f row) k) other → Has (rows_of tables k) other ⊎ ((k ≡ f) × Has (row ∷ []) other)
  only k other has = elim (same_or_not f k) [
    | inl e ↦ elim (Has-append (rows_of tables f) (row ∷ []) other (rw (← e, rows_of-with_row_same tables f t row at) at has)) [
      | inl before ↦ inl (rw (← e) before)
      | inr here ↦ inr (sym e, here)
    ]
    | inr ne ↦ inl (rw (rows_of-with_row_other tables f k row ne) at has)
  ]

  within : (others : List Table) → HaveRowsOf tables others → Has (rows_of others f) row → HaveRowsOf (with_row tables f row) others
  within others have has k other there = elim (only k other there) [
    | inl before ↦ have k other before
    | inr here ↦ rw (here.0, only_one row other here.1) has
  ]

pub HaveMoreRows-none : (f : ℕ) (tables : List Table) → HaveMoreRows f tables tables false
HaveMoreRows-none f tables = record { more = λ e. absurd cc; others = λ k ne. refl; same = λ e k. refl }

module _ (f : ℕ) (family : Family) (row : Row) (old : List Table) (room : HasRoomForRows old) (named : slice_get (families_of old) f ≡ Some family) where
  module _ (fresh : ¬ Has (rows_of old f) row) where
    pub TakesIn-with_row : (new : List Table) → new ≡ with_row old f row → row_count old < 200000 → TakesIn f (row ∷ []) old new
    TakesIn-with_row new same less =
        let t = table_of old f family named in
        let more = row_count-with_row old f t.0 row t.1 in
        record {
          has_room = record {
            different = rw same (differ old f t.0 row t.1 fresh room.different);
            few = rw same (omega arith);
          };
          families = rw same (map-update_same (λ (t : Table). t.family) (with_last row) old f t.0 t.1 refl);
          kept = rw same (kept old f t.0 row t.1);
          held = λ other has. rw (same, only_one row other has) (held old f t.0 row t.1);
          only = rw same (only old f t.0 row t.1);
        }

    pub LacksRoom-full : row_count old ≡ 200000 → LacksRoom f (row ∷ []) old
    LacksRoom-full full others have has =
        let t = table_of old f family named in
        let more = row_count-with_row old f t.0 row t.1 in
        let count = row_count-within (with_row old f row) others (differ old f t.0 row t.1 fresh room.different) (within old f t.0 row t.1 others have (has row (0, refl))) in
        omega arith

  pub HaveMoreRows-with_row : (new : List Table) → new ≡ with_row old f row → HaveMoreRows f old new true
  HaveMoreRows-with_row new same =
      let t = table_of old f family named in
      record {
        more = λ e. rw (same, rows_of-with_row_same old f t.0 row t.1) (let longer = length-append (rows_of old f) (row ∷ []) in omega arith);
        others = λ k ne. rw (same, rows_of-with_row_other old f k row (λ e. ne (sym e))) refl;
        same = λ e. absurd cc;
      }

  pub TakesIn-there : (new : List Table) → new ≡ old → Has (rows_of old f) row → TakesIn f (row ∷ []) old new
  TakesIn-there new same there = rw same (record {
    has_room = room;
    families = refl;
    kept = λ k other has. has;
    held = λ other has. rw (only_one row other has) there;
    only = λ k other has. inl has;
  })

  -- an answer of the tables
  module _ (new : List Table) (r : Result Bool InsertFault) (added : r ≡ Ok true → new ≡ with_row old f row) (there : r ≡ Ok false ↔ Has (rows_of old f) row) (same : r ≢ Ok true → new ≡ old) (full : r ≡ Err full_fault ↔ ((¬ Has (rows_of old f) row) × (row_count old ≡ 200000))) where
    is_fresh : r ≡ Ok true → ¬ Has (rows_of old f) row
    is_fresh e has = let no = there.1 has in cc

    is_less : r ≡ Ok true → row_count old < 200000
    is_less e = elim (same_or_not (row_count old) 200000) [
      | inl h ↦ absurd (let no = full.1 (is_fresh e, h) in cc)
      | inr ne ↦ let few = room.few in omega (arith, ne)
    ]

    pub TakesIn-inserted : (is_new : Bool) → r ≡ Ok is_new → TakesIn f (row ∷ []) old new
    TakesIn-inserted true e = TakesIn-with_row (is_fresh e) new (added e) (is_less e)
    TakesIn-inserted false e = TakesIn-there new (same (λ h. cc)) (there.0 e)

    pub HaveMoreRows-inserted : (is_new : Bool) → r ≡ Ok is_new → HaveMoreRows f old new is_new
    HaveMoreRows-inserted true e = HaveMoreRows-with_row new (added e)
    HaveMoreRows-inserted false e = rw (same (λ h. cc)) (HaveMoreRows-none f old)

    pub LacksRoom-inserted : r ≡ Err full_fault → LacksRoom f (row ∷ []) old
    LacksRoom-inserted e = let f = full.0 e in LacksRoom-full f.0 f.1

-- ---- one after another

Has-take : {X : Type 0} (xs : List X) (n : ℕ) (x : X) → Has (take n xs) x → Has xs x
Has-take xs zero x has = absurd (let e = has.1 in cc)
Has-take [] (suc n) x has = absurd (let e = has.1 in cc)
Has-take (y ∷ xs) (suc n) x (zero, e) = (0, e)
Has-take (y ∷ xs) (suc n) x (suc k, e) = let h = Has-take xs n x (k, e) in (suc h.0, h.1)

-- in a loop over a list, the elements so far and the next one are among the list's
pub yielded-among : {S A : Type 0} {steps : S → Option A → S → Type 0} {s : S} {all : List A} → YieldsList steps (λ y. y) s all → (xs : List A) (t : S) → Yields steps s xs t → (r : Option A) (u : S) (x : A) → r ≡ Some x → steps t r u → (y : A) → Has (xs ++ x ∷ []) y → Has all y
yielded-among {all = all} list xs t so_far r u x is step y has =
    let first = YieldsList-so_far list xs t so_far in
    let turn = YieldsList-turn list xs t so_far r u x is step in
    let each : xs ≡ take (length xs) all = sym (map-same (λ z. z) xs (λ i z at. refl)) ∙ first in
    let next = take-next all (length xs) x (slice_get_read all _ (length xs) x refl turn.0 turn.1) in
    Has-take all (suc (length xs)) y (rw (next, ← each) has)

pub TakesIn-[] : (f : ℕ) (tables : List Table) → HasRoomForRows tables → TakesIn f [] tables tables
TakesIn-[] f tables room = record {
  has_room = room;
  families = refl;
  kept = λ k row has. has;
  held = λ row has. absurd (let e = has.1 in cc);
  only = λ k row has. inl has;
}

pub TakesIn-then : (f : ℕ) (rows : List Row) (row : Row) (a b c : List Table) → TakesIn f rows a b → TakesIn f (row ∷ []) b c → TakesIn f (rows ++ row ∷ []) a c
TakesIn-then f rows row a b c first second = record {
  has_room = second.has_room;
  families = second.families ∙ first.families;
  kept = λ k other has. second.kept k other (first.kept k other has);
  held = λ other has. elim (Has-append rows (row ∷ []) other has) [
    | inl before ↦ second.kept f other (first.held other before)
    | inr here ↦ second.held other here
  ];
  only = λ k other has. elim (second.only k other has) [
    | inl before ↦ elim (first.only k other before) [
      | inl at_first ↦ inl at_first
      | inr in_rows ↦ inr (in_rows.0, Has-left rows (row ∷ []) other in_rows.1)
    ]
    | inr here ↦ inr (here.0, Has-right rows (row ∷ []) other here.1)
  ];
}

pub LacksRoom-then : (f : ℕ) (rows all : List Row) (row : Row) (a b : List Table) → TakesIn f rows a b → ((other : Row) → Has (rows ++ row ∷ []) other → Has all other) → LacksRoom f (row ∷ []) b → LacksRoom f all a
LacksRoom-then f rows all row a b takes among lacks others have has =
    lacks others (λ k other there. elim (takes.only k other there) [
      | inl before ↦ have k other before
      | inr here ↦ rw here.0 (has other (among other (Has-left rows (row ∷ []) other here.1)))
    ]) (λ other here. has other (among other (Has-right rows (row ∷ []) other here)))

-- where something grew, it did so in one of two steps, or in both
pub HaveMoreRows-then : (f : ℕ) (a b c : List Table) (first second : Bool) → HaveMoreRows f a b first → HaveMoreRows f b c second → HaveMoreRows f a c (first || second)
HaveMoreRows-then f a b c true true h k = record {
  more = λ e. let p = h.more refl in let q = k.more refl in omega arith;
  others = λ i ne. k.others i ne ∙ h.others i ne;
  same = λ e. absurd cc;
}
HaveMoreRows-then f a b c true false h k = record {
  more = λ e. rw (k.same refl f) (h.more refl);
  others = λ i ne. k.others i ne ∙ h.others i ne;
  same = λ e. absurd cc;
}
HaveMoreRows-then f a b c false true h k = record {
  more = λ e. rw (sym (h.same refl f)) (k.more refl);
  others = λ i ne. k.others i ne ∙ h.others i ne;
  same = λ e. absurd cc;
}
HaveMoreRows-then f a b c false false h k = record {
  more = λ e. absurd cc;
  others = λ i ne. k.others i ne ∙ h.others i ne;
  same = λ e i. k.same refl i ∙ h.same refl i;
}
