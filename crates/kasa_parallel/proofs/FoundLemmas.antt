-- What a search of a parallel family's rows found in the end: the results, the new ones, or the first missing row.
use Rattle.std.proofs.Common.{◌≡◌, ◌≢◌, ℕ, zero, suc, ◌<◌, ◌≤◌, ◌⊎◌, inl, inr, List, [], ◌∷◌, ◌++◌, refl, sym, ap, ◌∙◌, subst, length, arith, Some, Bool, true, false}
use Rattle.std.specs.Prelude.{slice_get}
use Rattle.std.proofs.lemmas.Option.{same_Some}
use Rattle.kasa_graph.specs.Lists.{Has, AllDifferent}
use Rattle.kasa_graph.specs.Signature.{TypeEntry}
use Rattle.kasa_graph.proofs.ListLemmas.{AllDifferent-[], AllDifferent-cons}
use Rattle.kasa_families.specs.declared.family.Family.{Family}
use Rattle.kasa_families.specs.declared.family.Family.TheVariants.{Parallel}
use Rattle.kasa_families.specs.declared.row.Row.{Row}
use Rattle.kasa_families.specs.declared.row.Row.TheVariants.{Locals, Same, Different}
use Rattle.kasa_families.specs.Row.{IsRow}
use Rattle.kasa_families.specs.Table.{Table, families_of}
use Rattle.kasa_rules.specs.Rule.{RuleParts}
use Rattle.kasa_columns.specs.Results.{IsResult, AreResults, IsMissing, AreNewResults, IsFirstMissing}
use Rattle.kasa_parallel.specs.Parallel.{IsParallel}
use Rattle.kasa_parallel.specs.Sought.{ParallelAsk, IsParallelAsk, AsksFor, IsSought, IsKnownRow, AreSought}

-- ---- lists of these rows

one_row : (x y : Row) → Has (x ∷ []) y → x ≡ y
one_row x y (zero, e) = cc
one_row x y (suc n, e) = absurd cc

two_rows : (x z y : Row) → Has (x ∷ z ∷ []) y → (x ≡ y) ⊎ (z ≡ y)
two_rows x z y (zero, e) = inl cc
two_rows x z y (suc n, e) = inr (one_row z y (n, e))

no_row : (y : Row) → ¬ Has {X = Row} [] y
no_row y has = let e = has.1 in cc

different_one : (x : Row) → AllDifferent (x ∷ [])
different_one x = AllDifferent-cons x [] (λ i h. absurd cc) AllDifferent-[]

different_two : AllDifferent (Same ∷ Different ∷ [])
different_two = AllDifferent-cons Same (Different ∷ []) not (different_one Different)
  where
    not : (i : ℕ) → slice_get (Different ∷ []) i ≢ Some Same
    not zero e = cc
    not (suc i) e = cc

-- a result of a parallel family is one of two rows
pub two_results : (sig : List TypeEntry) (tables : List Table) (r : RuleParts) (f : ℕ) → ((family : Family) × (slice_get (families_of tables) f ≡ Some family) × IsParallel family) → (row : Row) → IsResult sig tables r f row → (row ≡ Same) ⊎ (row ≡ Different)
two_results sig tables r f (family, numbered, parallel) row is = by family parallel row (subst (λ (x : Family). IsRow sig x row) (same_Some is.family family (sym is.numbered ∙ numbered)) is.valid)
  where
    by : (family : Family) → IsParallel family → (row : Row) → IsRow sig family row → (row ≡ Same) ⊎ (row ≡ Different)
    by (Parallel a x u b y w) parallel Same valid = inl refl
    by (Parallel a x u b y w) parallel Different valid = inr refl
    by (Parallel a x u b y w) parallel (Locals locals) valid = absurd valid
    by _ parallel row valid = absurd parallel

pub is_parallel : (k : ParallelAsk) → IsParallelAsk k → (family : Family) × (slice_get (families_of k.tables) k.number ≡ Some family) × IsParallel family
is_parallel k ok = (k.family, ok.numbered, rw ok.is tt)

module _ (k : ParallelAsk) (parallel : (family : Family) × (slice_get (families_of k.tables) k.number ≡ Some family) × IsParallel family) where
  row_of : (row : Row) → IsResult k.sig k.tables k.rule k.number row → (row ≡ Same) ⊎ (row ≡ Different)
  row_of = two_results k.sig k.tables k.rule k.number parallel

  abbrev pub IsRowResult : Row → Type 0
  IsRowResult row = IsResult k.sig k.tables k.rule k.number row

  -- ---- which rows are found

  -- the first row is found, or known
  abbrev pub SameFound : List Row → Type 0
  SameFound rows = ((rows ≡ []) × (IsRowResult Same → IsKnownRow k Same)) ⊎ ((rows ≡ Same ∷ []) × IsSought k Same)

  module _ (most : ℕ) (rows : List Row) where
    pub sought_more : SameFound rows → length rows ≤ most → IsSought k Different → AreSought k most (rows ++ Different ∷ [])
    sought_more (inl (e, ones)) less two = rw e (record {
      different = different_one Different;
      asked = λ row has. rw (← one_row Different row has) two;
      complete = λ few row is. elim (row_of row is) [
        | inl e ↦ inr (rw e (ones (rw e at is)))
        | inr e ↦ inl (zero, ap Some (sym e))
      ];
      few = omega arith;
    })
    sought_more (inr (e, one)) less two =
        let some : 1 ≤ most = rw e at less in
        rw e (record {
          different = different_two;
          asked = λ row has. elim (two_rows Same Different row has) [
            | inl e ↦ rw (← e) one
            | inr e ↦ rw (← e) two
          ];
          complete = λ few row is. elim (row_of row is) [
            | inl e ↦ inl (zero, ap Some (sym e))
            | inr e ↦ inl (1, ap Some (sym e))
          ];
          few = omega arith;
        })

    pub sought_no_more : SameFound rows → (IsRowResult Different → IsKnownRow k Different) → AreSought k most rows
    sought_no_more (inl (e, ones)) twos = rw e (record {
      different = AllDifferent-[];
      asked = λ row has. absurd (no_row row has);
      complete = λ few row is. elim (row_of row is) [
        | inl e ↦ inr (rw e (ones (rw e at is)))
        | inr e ↦ inr (rw e (twos (rw e at is)))
      ];
      few = omega arith;
    })
    sought_no_more (inr (e, one)) twos = rw e (record {
      different = different_one Same;
      asked = λ row has. rw (← one_row Same row has) one;
      complete = λ few row is. elim (row_of row is) [
        | inl e ↦ inl (zero, ap Some (sym e))
        | inr e ↦ inr (rw e (twos (rw e at is)))
      ];
      few = omega arith;
    })

    pub sought_enough : SameFound rows → most < length rows → AreSought k most rows
    sought_enough (inl (e, ones)) more = let some : most < 0 = rw e at more in absurd (omega arith)
    sought_enough (inr (e, one)) more =
        let small : most < 1 = rw e at more in
        rw e (record {
          different = different_one Same;
          asked = λ row has. rw (← one_row Same row has) one;
          complete = λ few row is. absurd (omega arith);
          few = omega arith;
        })

  -- ---- results

  module _ (most : ℕ) (rows : List Row) (are : AreSought k most rows) where
    pub AreResults-sought : k.only_new ≡ false → AreResults k.sig k.tables k.rule k.number most rows
    AreResults-sought all = record {
      different = are.different;
      results = λ row has. (are.asked row has).result;
      complete = λ few row is. elim (are.complete few row is) [
        | inl has ↦ has
        | inr known ↦ absurd (let clash : false ≡ true = sym all ∙ known.0 in cc)
      ];
      few = are.few;
    }

    pub AreNewResults-sought : k.only_new ≡ true → AreNewResults k.sig k.tables k.rule k.number most rows
    AreNewResults-sought new = record {
      different = are.different;
      missing = λ row has. let sought = are.asked row has in (sought.result, sought.new new);
      complete = λ few row is. elim (are.complete few row is) [
        | inl has ↦ inr has
        | inr known ↦ inl known.1
      ];
      few = are.few;
    }

  -- ---- the first missing row

  abbrev IsRowMissing : Row → Type 0
  IsRowMissing row = IsMissing k.sig k.tables k.rule k.number row

  module _ (new : k.only_new ≡ true) where
    not_missing : (row : Row) → (IsRowResult row → IsKnownRow k row) → ¬ IsRowMissing row
    not_missing row known missing = missing.1 (known missing.0).1

    pub first_same : IsSought k Same → IsFirstMissing k.sig k.tables k.rule k.number Same
    first_same one = (
      (one.result, one.new new),
      λ other missing. elim (row_of other missing.0) [
        | inl e ↦ inl (sym e)
        | inr e ↦ inr (rw e tt)
      ],
    )

    pub first_different : (IsRowResult Same → IsKnownRow k Same) → IsSought k Different → IsFirstMissing k.sig k.tables k.rule k.number Different
    first_different ones two = (
      (two.result, two.new new),
      λ other missing. elim (row_of other missing.0) [
        | inl e ↦ absurd (not_missing Same ones (rw e at missing))
        | inr e ↦ inl (sym e)
      ],
    )

    pub none_missing : (IsRowResult Same → IsKnownRow k Same) → (IsRowResult Different → IsKnownRow k Different) → (row : Row) → ¬ IsRowMissing row
    none_missing ones twos row missing = elim (row_of row missing.0) [
      | inl e ↦ not_missing Same ones (rw e at missing)
      | inr e ↦ not_missing Different twos (rw e at missing)
    ]

-- ---- of the tables and the rule that were asked for

module _ (sig : List TypeEntry) (tables : List Table) (r : RuleParts) (f : ℕ) (parallel : (family : Family) × (slice_get (families_of tables) f ≡ Some family) × IsParallel family) (k : ParallelAsk) where
  kind : (new : Bool) → AsksFor sig tables r f new k → (family : Family) × (slice_get (families_of k.tables) k.number ≡ Some family) × IsParallel family
  kind new asks = rw (asks.of_tables, asks.of_number) parallel

  pub AreResults-asks : AsksFor sig tables r f false k → (most : ℕ) (rows : List Row) → AreSought k most rows → AreResults sig tables r f most rows
  AreResults-asks asks most rows are = rw (asks.of_sig, asks.of_tables, asks.of_rule, asks.of_number) at (AreResults-sought k (kind false asks) most rows are asks.of_new)

  module _ (asks : AsksFor sig tables r f true k) where
    pub AreNewResults-asks : (most : ℕ) (rows : List Row) → AreSought k most rows → AreNewResults sig tables r f most rows
    AreNewResults-asks most rows are = rw (asks.of_sig, asks.of_tables, asks.of_rule, asks.of_number) at (AreNewResults-sought k (kind true asks) most rows are asks.of_new)

    pub first_same-asks : IsSought k Same → IsFirstMissing sig tables r f Same
    first_same-asks one = rw (asks.of_sig, asks.of_tables, asks.of_rule, asks.of_number) at (first_same k (kind true asks) asks.of_new one)

    pub first_different-asks : (IsResult k.sig k.tables k.rule k.number Same → IsKnownRow k Same) → IsSought k Different → IsFirstMissing sig tables r f Different
    first_different-asks ones two = rw (asks.of_sig, asks.of_tables, asks.of_rule, asks.of_number) at (first_different k (kind true asks) asks.of_new ones two)

    pub none_missing-asks : (IsResult k.sig k.tables k.rule k.number Same → IsKnownRow k Same) → (IsResult k.sig k.tables k.rule k.number Different → IsKnownRow k Different) → (row : Row) → ¬ IsMissing sig tables r f row
    none_missing-asks ones twos row = rw (asks.of_sig, asks.of_tables, asks.of_rule, asks.of_number) at (none_missing k (kind true asks) asks.of_new ones twos row)
