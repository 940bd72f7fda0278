-- What a search found in the end: the results, or the first missing row.
use Rattle.std.proofs.Common.{◌≡◌, ◌<◌, ◌≤◌, ◌⊎◌, inl, inr, ℕ, List, sym, ◌∙◌, subst, length, arith, Some, None}
use Rattle.std.specs.Prelude.{slice_get}
use Rattle.std.proofs.lemmas.Option.{same_Some}
use Rattle.kasa_graph.specs.Lists.{Has}
use Rattle.kasa_graph.specs.Signature.{TypeEntry}
use Rattle.kasa_families.specs.declared.row.Row.{Row}
use Rattle.kasa_families.specs.Row.{IsRowBelow}
use Rattle.kasa_families.specs.Table.{Table, rows_of}
use Rattle.kasa_rules.specs.Rule.{RuleParts}
use Rattle.kasa_columns.specs.declared.collect.Aim.TheVariants.{UpTo, NewUpTo, FirstMissing}
use Rattle.kasa_columns.specs.Results.{IsResult, AreResults, IsMissing, AreNewResults, IsFirstMissing}
use Rattle.kasa_columns.specs.Ask.{IsSettledFor, AreFoundFor}

module _ (sig : List TypeEntry) (tables : List Table) (r : RuleParts) (f : ℕ) (found : List Row) where
  pub AreResults-found : (most : ℕ) → AreFoundFor sig tables r f (UpTo most) found → ((row : Row) → IsResult sig tables r f row → IsSettledFor (rows_of tables f) (UpTo most) found row) → AreResults sig tables r f most found
  AreResults-found most are settled = record {
    different = are.fit.0;
    results = are.results;
    complete = λ few row is. by few row (settled row is);
    few = are.fit.1;
  }
    where
      by : length found ≤ most → (row : Row) → (most < length found) ⊎ Has found row → Has found row
      by few row (inl more) = absurd (omega arith)
      by few row (inr has) = has

  pub AreNewResults-found : (most : ℕ) → AreFoundFor sig tables r f (NewUpTo most) found → ((row : Row) → IsResult sig tables r f row → IsSettledFor (rows_of tables f) (NewUpTo most) found row) → AreNewResults sig tables r f most found
  AreNewResults-found most are settled = record {
    different = are.fit.0;
    missing = λ row has. (are.results row has, are.fit.2 row has);
    complete = λ few row is. by few row (settled row is);
    few = are.fit.1;
  }
    where
      by : length found ≤ most → (row : Row) → Has (rows_of tables f) row ⊎ (most < length found) ⊎ Has found row → Has (rows_of tables f) row ⊎ Has found row
      by few row (inl has) = inl has
      by few row (inr (inl more)) = absurd (omega arith)
      by few row (inr (inr has)) = inr has

  module _ (are : AreFoundFor sig tables r f FirstMissing found) (settled : (row : Row) → IsResult sig tables r f row → IsSettledFor (rows_of tables f) FirstMissing found row) where
    -- a missing row isn't stored, so the first found row comes before it
    least-found : (row : Row) → IsMissing sig tables r f row → (least : Row) × (slice_get found 0 ≡ Some least) × ((least ≡ row) ⊎ IsRowBelow least row)
    least-found row missing = elim (settled row missing.0) [
      | inl has ↦ absurd (missing.1 has)
      | inr least ↦ least
    ]

    pub none-missing : None ≡ slice_get found 0 → (row : Row) → ¬ IsMissing sig tables r f row
    none-missing none row missing = let least = least-found row missing in absurd (let same : None ≡ Some least.0 = none ∙ least.1 in cc)

    pub first-missing : (row : Row) → slice_get found 0 ≡ Some row → IsFirstMissing sig tables r f row
    first-missing row first = ((are.results row (0, first), are.fit row (0, first)), least)
      where
        least : (other : Row) → IsMissing sig tables r f other → (row ≡ other) ⊎ IsRowBelow row other
        least other missing =
            let one = least-found other missing in
            subst (λ (x : Row). (x ≡ other) ⊎ IsRowBelow x other) (same_Some one.0 row (sym one.1 ∙ first)) one.2
