-- The laws of the system of pairs that act.
use Rattle.std.proofs.Common.{◌≡◌, ℕ, ◌<◌, ◌⊎◌, inl, inr, Bool, true, false, ◌||◌, List, [], ◌∷◌, ◌++◌, length, refl, sym, ◌∙◌}
use Rattle.std.specs.Prelude.{Some, slice_get, nat_eq}
use Rattle.std.proofs.lemmas.Option.{slice_get_within}
use Rattle.std.proofs.lemmas.Bool.Decides.{Decides-eqb}
use Rattle.kasa_lists.specs.Lists.{Has}
use Rattle.kasa_lists.proofs.Elements.{some_at}
use Rattle.kasa_lists.proofs.Having.{Has-[], Has-head, Has-later, Has-cons, Has-left, Has-right, Has-append}
use Rattle.kasa_graph.specs.Pattern.{types_of}
use Rattle.kasa_families.specs.declared.family.Family.{Family}
use Rattle.kasa_families.specs.declared.row.Row.{Row}
use Rattle.kasa_families.specs.Family.{family_types}
use Rattle.kasa_families.specs.Table.{Table, rows_of, Holds}
use Rattle.kasa_rules.specs.Rule.{RuleParts}
use Rattle.kasa_pre.specs.Acts.{ActsOn}
use Rattle.kasa_worklist.specs.System.{AreLawful, AreReaders, RowsAreAmong}
use Rattle.kasa_fixpoint.specs.declared.pairs.Pair.{Pair}
use Rattle.kasa_fixpoint.specs.Pairs.{IsPairOf}
use Rattle.kasa_fixpoint.specs.Reads.{ReadsType, ReadsFamily}
use Rattle.kasa_fixpoint.specs.Readers.{of_type}
use Rattle.kasa_fixpoint.specs.System.{SystemParts, is_among, reads_family, pair_reads, reads_at, pair_family, PairYields, AreTablesOf, system_of, IsPlanned}
use Rattle.kasa_fixpoint.proofs.ReadLemmas.{Yields-within, Yields-read}
use Rattle.kasa_fixpoint.proofs.TableRows.{Holds-at, number_of, IsWithin-rows}

-- ---- reading, decided

or-true : (b c : Bool) → (b || c) ≡ true → (b ≡ true) ⊎ (c ≡ true)
or-true true c e = inl refl
or-true false c e = inr e

or-left : (b c : Bool) → b ≡ true → (b || c) ≡ true
or-left true c e = refl
or-left false c e = absurd cc

or-right : (b c : Bool) → c ≡ true → (b || c) ≡ true
or-right true c e = refl
or-right false c e = e

is_among-has : (a : ℕ) (numbers : List ℕ) → is_among a numbers ≡ true → Has numbers a
is_among-has a [] e = absurd cc
is_among-has a (b ∷ numbers) e = elim (or-true (nat_eq a b) (is_among a numbers) e) [
  | inl here ↦ rw (← (Decides-eqb a b).0 here) (Has-head a numbers)
  | inr later ↦ Has-later b numbers a (is_among-has a numbers later)
]

has-is_among : (a : ℕ) (numbers : List ℕ) → Has numbers a → is_among a numbers ≡ true
has-is_among a [] has = absurd (Has-[] a has)
has-is_among a (b ∷ numbers) has = elim (Has-cons b numbers a has) [
  | inl e ↦ or-left (nat_eq a b) (is_among a numbers) ((Decides-eqb a b).1 e)
  | inr later ↦ or-right (nat_eq a b) (is_among a numbers) (has-is_among a numbers later)
]

module _ (r : RuleParts) (family other : Family) (a : ℕ) (first : slice_get (family_types other) 0 ≡ Some a) where
  reads_type : reads_family r family other ≡ is_among a (types_of r.left ++ family_types family)
  unfolding reads_family
  reads_type = rw first refl

  pub reads-true : ReadsType r family a → reads_family r family other ≡ true
  reads-true reads = reads_type ∙ has-is_among a (types_of r.left ++ family_types family) (elim reads [
    | inl left ↦ Has-left (types_of r.left) (family_types family) a left
    | inr own ↦ Has-right (types_of r.left) (family_types family) a own
  ])

  pub true-reads : reads_family r family other ≡ true → ReadsType r family a
  true-reads is = Has-append (types_of r.left) (family_types family) a (is_among-has a (types_of r.left ++ family_types family) (sym reads_type ∙ is))

module _ (s : SystemParts) (p : ℕ) (pair : Pair) (at : slice_get s.pairs p ≡ Some pair) where
  pub pair_family-at : pair_family s p ≡ pair.family
  unfolding pair_family
  pair_family-at = rw at refl

  module _ (r : RuleParts) (family : Family) (is : IsPairOf s.model s.families pair r family) (g : ℕ) (other : Family) (there : slice_get s.families g ≡ Some other) where
    pub reads_at-family : reads_at s p g ≡ reads_family r family other
    unfolding reads_at pair_reads
    reads_at-family = rw (at, there, is.ruled, is.named) refl

-- ---- the laws

-- the pair of a number acts
pub record PairAt (s : SystemParts) (p : ℕ) : Type 0 where
  pub pair : Pair
  pub numbered : slice_get s.pairs p ≡ Some pair
  pub r : RuleParts
  pub family : Family
  pub is : IsPairOf s.model s.families pair r family
  pub acts : ActsOn r family

module _ (s : SystemParts) (lists : List (List ℕ)) (planned : IsPlanned s lists) where
  pub pair_at : (p : ℕ) → p < length s.pairs → PairAt s p
  pair_at p below =
      let at = some_at s.pairs p below in
      let acts = (planned.acting.exact at.0).0 (p, at.1) in
      record { pair = at.0; numbered = at.1; r = acts.0; family = acts.1; is = acts.2; acts = acts.3 }

  family_within : (p : ℕ) → p < length s.pairs → pair_family s p < length s.families
  family_within p below =
      let at = pair_at p below in
      rw (pair_family-at s p at.pair at.numbered) (slice_get_within s.families at.pair.family at.family at.is.named)

  monotone : (first second : List Table) (p : ℕ) (row : Row) → p < length s.pairs → AreTablesOf s first → AreTablesOf s second → RowsAreAmong (system_of s) first second → PairYields s first p row → PairYields s second p row
  monotone first second p row below ok also within y = record {
    pair = y.pair;
    numbered = y.numbered;
    r = y.r;
    family = y.family;
    is = y.is;
    valid = y.valid;
    yielded = Yields-within s.model.sig first second y.r y.family row (also.1 ∙ sym ok.1) (IsWithin-rows first second (also.1 ∙ sym ok.1) within) y.yielded;
  }

  local : (first second : List Table) (p : ℕ) (row : Row) → p < length s.pairs → AreTablesOf s first → AreTablesOf s second → ((g : ℕ) → reads_at s p g ≡ true → (other : Row) → Has (rows_of second g) other → Has (rows_of first g) other) → PairYields s second p row → PairYields s first p row
  local first second p row below ok also within y = record {
    pair = y.pair;
    numbered = y.numbered;
    r = y.r;
    family = y.family;
    is = y.is;
    valid = y.valid;
    yielded = Yields-read s.model.sig first second y.r y.family row (also.1 ∙ sym ok.1) y.valid is_within y.yielded;
  }
    where
      is_within : (other : Family) → ReadsFamily y.r y.family other → (one : Row) → Holds second other one → Holds first other one
      is_within other (a, begins, reads) one holds =
          let n = number_of second other one holds in
          let there : slice_get s.families n.0 ≡ Some other = rw also.1 at n.1 in
          let does = reads_at-family s p y.pair y.numbered y.r y.family y.is n.0 other there ∙ reads-true y.r y.family other a begins reads in
          Holds-at first n.0 other one (rw ok.1 there) (within n.0 does one n.2)

  pub lawful : AreLawful (system_of s)
  lawful = record { family = family_within; monotone = monotone; local = local }

  -- the list of the first type of a family has just the pairs that read the family
  pub are_readers : (g : ℕ) (other : Family) (a : ℕ) → slice_get s.families g ≡ Some other → slice_get (family_types other) 0 ≡ Some a → AreReaders (system_of s) g (of_type lists a)
  are_readers g other a there begins = record {
    different = planned.readers.different a;
    exact = λ p. (
      λ has.
          let listed = (planned.readers.exact a p).0 has in
          let reads = listed.1 in
          (listed.0, reads_at-family s p reads.pair reads.numbered reads.r reads.family reads.is g other there ∙ reads-true reads.r reads.family other a begins reads.reads),
      λ (below, does).
          let at = pair_at p below in
          (planned.readers.exact a p).1 (
            below,
            record {
              pair = at.pair;
              numbered = at.numbered;
              r = at.r;
              family = at.family;
              is = at.is;
              reads = true-reads at.r at.family other a begins (sym (reads_at-family s p at.pair at.numbered at.r at.family at.is g other there) ∙ does);
            },
          ),
    );
  }
