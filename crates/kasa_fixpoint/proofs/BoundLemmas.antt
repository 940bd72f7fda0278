-- Sums over families and pairs by number are sums over tables and pairs.
use Rattle.std.proofs.Common.{◌≡◌, ℕ, zero, suc, ◌+◌, ◌*◌, Bool, true, false, cond, if◌then◌else◌, List, [], ◌∷◌, length, refl, sym, ap, ◌∙◌, arith}
use Rattle.std.specs.Prelude.{Some, slice_get}
use Rattle.std.specs.List.{sum_by}
use Rattle.std.proofs.lemmas.List.Sums.{sum_by-cons}
use Rattle.kasa_lists.proofs.Maps.{length-map}
use Rattle.kasa_families.specs.Table.{Table, families_of, rows_of}
use Rattle.kasa_families.proofs.TableLemmas.{family_at, rows_of-some}
use Rattle.kasa_tables.specs.Insert.{row_count}
use Rattle.kasa_worklist.specs.Sums.{sum_below}
use Rattle.kasa_worklist.specs.System.{rows_in_all}
use Rattle.kasa_worklist.specs.Counts.{reader_count, read_count}
use Rattle.kasa_fixpoint.specs.declared.pairs.Pair.{Pair}
use Rattle.kasa_fixpoint.specs.Bounds.{reading_pairs, rows_read}
use Rattle.kasa_fixpoint.specs.System.{SystemParts, pair_reads, reads_at, system_of}

sum_below-front : (n : ℕ) (h : ℕ → ℕ) → sum_below (suc n) h ≡ h 0 + sum_below n (λ k. h (suc k))
unfolding sum_below
sum_below-front zero h = omega arith
sum_below-front (suc n) h = let rest = sum_below-front n h in omega arith

-- a sum over the elements of a list, by their numbers
sum_by-numbers : {X : Type 0} (g : X → ℕ) (xs : List X) (h : ℕ → ℕ) → ((k : ℕ) (x : X) → slice_get xs k ≡ Some x → h k ≡ g x) → sum_below (length xs) h ≡ sum_by g xs
unfolding sum_below
sum_by-numbers g [] h each = refl
sum_by-numbers g (x ∷ xs) h each =
    let front = sum_below-front (length xs) h in
    let rest = sum_by-numbers g xs (λ k. h (suc k)) (λ k y at. each (suc k) y at) in
    let here = each 0 x refl in
    let cons = sum_by-cons g x xs in
    omega arith

one_or_none : (b : Bool) → ◌≡◌ {A = ℕ} (if b then 1 else 0) (cond b 1 0)
one_or_none true = refl
one_or_none false = refl

module _ (s : SystemParts) (tables : List Table) (same : families_of tables ≡ s.families) where
  count : length s.families ≡ length tables
  count = ap length (sym same) ∙ length-map (λ (t : Table). t.family) tables

  pub rows_in_all-count : rows_in_all (system_of s) tables ≡ row_count tables
  rows_in_all-count = rw count (sum_by-numbers (λ (t : Table). length t.rows) tables (λ k. length (rows_of tables k)) (λ k t at. ap length (rows_of-some tables k t (sym at))))

  reads_there : (k : ℕ) (t : Table) → slice_get tables k ≡ Some t → (p : ℕ) (pair : Pair) → slice_get s.pairs p ≡ Some pair → reads_at s p k ≡ pair_reads s.model s.families pair t.family
  unfolding reads_at
  reads_there k t at p pair at_p = let there : slice_get s.families k ≡ Some t.family = rw same at (family_at tables k t (sym at)) in rw (at_p, there) refl

  readers_of : (k : ℕ) (t : Table) → slice_get tables k ≡ Some t → reader_count (system_of s) k ≡ reading_pairs s.model s.families s.pairs t.family
  readers_of k t at = sum_by-numbers (λ (pair : Pair). cond (pair_reads s.model s.families pair t.family) 1 0) s.pairs (λ p. if reads_at s p k then 1 else 0)
      (λ p pair at_p. rw (reads_there k t at p pair at_p) (one_or_none (pair_reads s.model s.families pair t.family)))

  pub read_count-rows : read_count (system_of s) tables ≡ rows_read s.model s.families s.pairs tables
  read_count-rows = rw count (sum_by-numbers (λ (t : Table). reading_pairs s.model s.families s.pairs t.family * length t.rows) tables (λ k. reader_count (system_of s) k * length (rows_of tables k))
      (λ k t at. rw (readers_of k t at, rows_of-some tables k t (sym at)) refl))
