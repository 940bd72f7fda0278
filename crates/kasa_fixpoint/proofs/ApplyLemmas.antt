-- A pair is applied: the tables take in what it yields.
use Rattle.std.proofs.Common.{◌≡◌, ℕ, ◌<◌, ◌≤◌, inl, inr, Bool, List, length, refl, sym, ◌∙◌, arith}
use Rattle.std.specs.Prelude.{Option, Some, None, Ok, Err, Result, IfOk, slice_get}
use Rattle.kasa_lists.specs.Lists.{Has, AllDifferent}
use Rattle.kasa_lists.proofs.Different.{AllDifferent-[], length-within}
use Rattle.kasa_graph.specs.Signature.{TypeEntry}
use Rattle.kasa_families.specs.declared.family.Family.{Family}
use Rattle.kasa_families.specs.declared.row.Row.{Row}
use Rattle.kasa_families.specs.Row.{IsRow}
use Rattle.kasa_families.specs.Table.{Table, AreTables, families_of, rows_of, HasShape}
use Rattle.kasa_families.proofs.TableLemmas.{rows_of-some, rows_of-none}
use Rattle.kasa_rules.specs.Rule.{RuleParts, IsRuleOver}
use Rattle.kasa_columns.specs.Results.{IsResult, AreNewResults}
use Rattle.kasa_worklist.specs.declared.fault.SolveFault.{SolveFault}
use Rattle.kasa_worklist.specs.System.{AreWithinLimit, HaveAllResults, IsLimitPassed, RowsAreAmong}
use Rattle.kasa_worklist.specs.Turn.{Applies}
use Rattle.kasa_fixpoint.specs.declared.pairs.Pair.{Pair}
use Rattle.kasa_fixpoint.specs.Growing.{HaveDifferentRows, HasRoomForRows, HaveMoreRows, TakesIn, LacksRoom}
use Rattle.kasa_fixpoint.specs.System.{SystemParts, PairYields, AreTablesOf, system_of, IsPlanned}
use Rattle.kasa_fixpoint.proofs.CountLemmas.{length-rows_of}
use Rattle.kasa_fixpoint.proofs.TableRows.{AreTables-takes}
use Rattle.kasa_fixpoint.proofs.StepLemmas.{HasShape-row}
use Rattle.kasa_fixpoint.proofs.SystemLemmas.{pair_at, pair_family-at, lawful}
use Rattle.kasa_fixpoint.proofs.BoundLemmas.{rows_in_all-count}

different_rows : (sig : List TypeEntry) (tables : List Table) → AreTables sig tables → HaveDifferentRows tables
different_rows sig tables ok k = by (slice_get tables k) refl
  where
    by : (o : Option Table) → o ≡ slice_get tables k → AllDifferent (rows_of tables k)
    by None e = rw (rows_of-none tables k e) AllDifferent-[]
    by (Some t) e = rw (rows_of-some tables k t e) (ok.rows_differ t (k, sym e))

module _ (s : SystemParts) (lists : List (List ℕ)) (planned : IsPlanned s lists) (p : ℕ) (below : p < length s.pairs) (pair : Pair) (numbered : slice_get s.pairs p ≡ Some pair) where
  pub record IsHere : Type 0 where
    pub r : RuleParts
    pub family : Family
    pub ruled : slice_get s.model.rules pair.rule ≡ Some r
    pub named : slice_get s.families pair.family ≡ Some family

  pub here : IsHere
  here =
      let at = pair_at s lists planned p below in
      let same : at.pair ≡ pair = let e = at.numbered in cc in
      record { r = at.r; family = at.family; ruled = rw same at at.is.ruled; named = rw same at at.is.named }

  pub over : (r : RuleParts) → slice_get s.model.rules pair.rule ≡ Some r → IsRuleOver s.model.sig r
  over r ruled = planned.model.rules pair.rule r ruled

  module _ (tables : List Table) (room : AreWithinLimit (system_of s) tables) where
    pub family_of_tables : slice_get (families_of tables) pair.family ≡ Some here.family
    family_of_tables = rw room.valid.1 here.named

    pub has_room : HasRoomForRows tables
    has_room = record {
      different = different_rows s.model.sig tables room.valid.0;
      few = rw (rows_in_all-count s tables room.valid.1) at room.few;
    }

    module _ (r : RuleParts) (ruled : slice_get s.model.rules pair.rule ≡ Some r) (rows : List Row) (are : AreNewResults s.model.sig tables r pair.family 200000 rows) where
      yields : (row : Row) → IsResult s.model.sig tables r pair.family row → PairYields s tables p row
      yields row result = record {
        pair = pair;
        numbered = numbered;
        r = r;
        family = result.family;
        is = record { ruled = ruled; named = rw room.valid.1 at result.numbered };
        valid = result.valid;
        yielded = result.yielded;
      }

      is_result : (row : Row) → PairYields s tables p row → IsResult s.model.sig tables r pair.family row
      is_result row y =
          let same : y.pair ≡ pair = let e = y.numbered in cc in
          let rule : slice_get s.model.rules pair.rule ≡ Some y.r = rw same at y.is.ruled in
          let its : y.r ≡ r = cc in
          record { family = y.family; numbered = rw room.valid.1 (rw same at y.is.named); valid = y.valid; yielded = rw its at y.yielded }

      -- closed tables have what is yielded
      due : (others : List Table) → AreTablesOf s others → HaveAllResults (system_of s) others → RowsAreAmong (system_of s) tables others → (row : Row) → Has rows row → Has (rows_of others pair.family) row
      due others valid closed have row has =
          rw (pair_family-at s p pair numbered) at (closed p below row ((lawful s lists planned).monotone tables others p row below room.valid valid have (yields row (are.missing row has).0)))

      pub too_many : 200000 < length rows → IsLimitPassed (system_of s) tables
      too_many many others valid closed have =
          let these = length-within rows (rows_of others pair.family) are.different (due others valid closed have) in
          let all = length-rows_of others pair.family in
          rw (rows_in_all-count s others valid.1) (omega arith)

      pub lacks_room : LacksRoom pair.family rows tables → IsLimitPassed (system_of s) tables
      lacks_room lacks others valid closed have = rw (rows_in_all-count s others valid.1) (lacks others have (due others valid closed have))

      pub shapes : (row : Row) → Has rows row → HasShape here.family row
      shapes row has =
          let result = (are.missing row has).0 in
          let same : result.family ≡ here.family = let e = result.numbered in let h = family_of_tables in cc in
          rw same at (HasShape-row s.model.sig result.family row result.valid)

      valid_rows : (row : Row) → Has rows row → IsRow s.model.sig here.family row
      valid_rows row has =
          let result = (are.missing row has).0 in
          let same : result.family ≡ here.family = let e = result.numbered in let h = family_of_tables in cc in
          rw same at result.valid

      applies : (new : List Table) (grew : Bool) → length rows ≤ 200000 → TakesIn pair.family rows tables new → HaveMoreRows pair.family tables new grew → Applies (system_of s) p tables new grew
      applies new grew few takes grown =
          let at = pair_family-at s p pair numbered in
          let same : families_of new ≡ s.families = takes.families ∙ room.valid.1 in
          record {
            grows = record {
              has_room = record {
                valid = (AreTables-takes s.model.sig tables new pair.family here.family rows room.valid.0 family_of_tables valid_rows takes, same);
                few = rw (rows_in_all-count s new same) takes.has_room.few;
              };
              kept = takes.kept;
              forced = λ others valid closed have k row has. elim (takes.only k row has) [
                | inl before ↦ have k row before
                | inr own ↦ rw own.0 (due others valid closed have row own.1)
              ];
            };
            grown = rw at (record { more = grown.more; others = grown.others; same = grown.same });
            own = λ row y. rw at (elim (are.complete few row (is_result row y)) [
              | inl there ↦ takes.kept pair.family row there
              | inr has ↦ takes.held row has
            ]);
          }

      -- an answer
      pub applies_answer : (new : List Table) (answer : Result Bool SolveFault) → length rows ≤ 200000 → IfOk answer (λ _. TakesIn pair.family rows tables new) → IfOk answer (λ grew. HaveMoreRows pair.family tables new grew) → IfOk answer (λ grew. Applies (system_of s) p tables new grew)
      applies_answer new (Ok grew) few takes grown = applies new grew few takes grown
      applies_answer new (Err e) few takes grown = tt
