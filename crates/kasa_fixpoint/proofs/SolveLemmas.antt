-- From tables without rows to the least closed ones.
use Rattle.std.proofs.Common.{◌≡◌, ◌≢◌, ℕ, zero, suc, ◌+◌, ◌≤◌, ◌⊎◌, inl, inr, List, [], ◌∷◌, length, refl, sym, ap, ◌∙◌, arith}
use Rattle.std.specs.Prelude.{Option, Some, slice_get}
use Rattle.std.proofs.lemmas.Option.{slice_get_within}
use Rattle.kasa_graph.specs.declared.mixture.Agent.{Agent}
use Rattle.kasa_lists.specs.Lists.{Has, AllDifferent}
use Rattle.kasa_lists.proofs.Numbers.{same_or_not}
use Rattle.kasa_lists.proofs.Having.{Has-[], Has-head, Has-later, Has-cons}
use Rattle.kasa_lists.proofs.Different.{AllDifferent-[]}
use Rattle.kasa_graph.specs.Embedding.{IsEmbedding}
use Rattle.kasa_families.specs.declared.family.Family.{Family}
use Rattle.kasa_families.specs.declared.row.Row.{Row}
use Rattle.kasa_families.specs.Family.{IsFamily}
use Rattle.kasa_families.specs.Row.{IsRow}
use Rattle.kasa_families.specs.Table.{Table, AreTables, families_of, rows_of, Holds}
use Rattle.kasa_rules.specs.declared.model.Model.{Model}
use Rattle.kasa_rules.specs.Rule.{RuleParts}
use Rattle.kasa_rules.specs.Reached.{Reached}
use Rattle.kasa_rules.proofs.ReachedLemmas.{IsMixtureOver-reached}
use Rattle.kasa_pre.specs.Allowed.{IsDead}
use Rattle.kasa_pre.specs.Closed.{IsClosed, IsLeast, LemmaHolds, Cover}
use Rattle.kasa_pre.specs.Yields.{Yields}
use Rattle.kasa_pre.proofs.ActsLemmas.{nothing_new}
use Rattle.kasa_pre.proofs.StepLemmas.{never-dead, LemmaHolds-cover}
use Rattle.kasa_pre.proofs.SoundLemmas.{Cover-reached}
use Rattle.kasa_tables.specs.Insert.{empty_tables, row_count}
use Rattle.kasa_tables.proofs.PlainLemmas.{families_of-empty, row_count-empty, AreTables-empty}
use Rattle.kasa_worklist.specs.System.{AreWithinLimit, AreLeastAbove, HaveAllResults, IsLimitPassed, RowsAreAmong}
use Rattle.kasa_worklist.specs.Counts.{read_count}
use Rattle.kasa_fixpoint.specs.declared.pairs.Pair.{Pair}
use Rattle.kasa_fixpoint.specs.Limit.{PassesLimit}
use Rattle.kasa_fixpoint.specs.Steps.{IsUnderWay, IsStep}
use Rattle.kasa_fixpoint.specs.System.{SystemParts, system_of, IsPlanned}
use Rattle.kasa_fixpoint.specs.Bounds.{AreBoundedSteps}
use Rattle.kasa_fixpoint.proofs.TableRows.{Holds-at, number_of, Has-at, HaveRowsOf-within, IsWithin-rows}
use Rattle.kasa_fixpoint.proofs.SystemLemmas.{pair_family-at}
use Rattle.kasa_fixpoint.proofs.BoundLemmas.{rows_in_all-count, read_count-rows}

-- ---- the beginning

rows_of-empty : (families : List Family) (k : ℕ) → rows_of (empty_tables families) k ≡ []
unfolding rows_of
rows_of-empty [] k = refl
rows_of-empty (family ∷ families) zero = refl
rows_of-empty (family ∷ families) (suc k) = rows_of-empty families k

no_row : (families : List Family) (k : ℕ) (row : Row) → ¬ Has (rows_of (empty_tables families) k) row
no_row families k row has = let none : slice_get [] has.0 ≡ Some row = rw (rows_of-empty families k) at has.1 in cc

-- tables without rows, where nothing is inserted yet
pub IsUnderWay-empty : (model : Model) (families : List Family) → AllDifferent families → ((family : Family) → Has families family → IsFamily model.sig family) → IsUnderWay model (empty_tables families)
IsUnderWay-empty model families different valid = record {
  has_room = record {
    different = λ k. rw (rows_of-empty families k) AllDifferent-[];
    few = rw (row_count-empty families) (omega arith);
  };
  are_tables = AreTables-empty model.sig families different valid;
  forced = λ others ok same closed family row holds. let n = number_of (empty_tables families) family row holds in absurd (no_row families n.0 row n.2);
}

-- ---- pairs are on a list or not

has_pair_or_not : (pairs : List Pair) (pair : Pair) → Has pairs pair ⊎ (Has pairs pair → ⊥)
has_pair_or_not [] pair = inr (Has-[] pair)
has_pair_or_not (first ∷ pairs) pair = elim (same_or_not first.rule pair.rule) [
  | inr ne ↦ later (has_pair_or_not pairs pair) (λ e. ne (ap (λ (p : Pair). p.rule) e))
  | inl e ↦ elim (same_or_not first.family pair.family) [
    | inr ne ↦ later (has_pair_or_not pairs pair) (λ e. ne (ap (λ (p : Pair). p.family) e))
    | inl h ↦ inl (rw (same first pair e h) (Has-head pair pairs))
  ]
]
  where
    same : (p q : Pair) → p.rule ≡ q.rule → p.family ≡ q.family → p ≡ q
    same p q e h = rw (e, h) refl

    later : Has pairs pair ⊎ (Has pairs pair → ⊥) → (first ≢ pair) → Has (first ∷ pairs) pair ⊎ (Has (first ∷ pairs) pair → ⊥)
    later (inl has) ne = inl (Has-later first pairs pair has)
    later (inr absent) ne = inr (λ has. elim (Has-cons first pairs pair has) [ inl e ↦ ne (sym e) | inr there ↦ absent there ])

-- ---- the end

pub record IsSolved (model : Model) (families : List Family) (tables : List Table) : Type 0 where
  pub families_are : families_of tables ≡ families
  pub are_tables : AreTables model.sig tables
  pub least : IsLeast model tables
  pub few_rows : ¬ PassesLimit 200000 model families
  pub lemmas : (m : List (Option Agent)) → Reached model m → (family : Family) → Has families family → LemmaHolds model.sig tables family m
  pub dead : (m : List (Option Agent)) → Reached model m → (r : RuleParts) → IsDead model.sig tables r → (cells : List ℕ) → ¬ IsEmbedding r.left m cells

-- tables that closed tables over the families have what the pairs yield
module _ (s : SystemParts) (lists : List (List ℕ)) (planned : IsPlanned s lists) where
  all_results : (others : List Table) → AreTables s.model.sig others → families_of others ≡ s.families → IsClosed s.model others → HaveAllResults (system_of s) others
  all_results others ok same closed p below row y =
      let named : slice_get (families_of others) y.pair.family ≡ Some y.family = rw same y.is.named in
      let holds = closed y.family (y.pair.family, named) row y.valid (inr (y.pair.rule, y.r, y.is.ruled, y.yielded)) in
      rw (pair_family-at s p y.pair y.numbered) (Has-at others y.pair.family y.family row ok.different named holds)

  -- what the inits brought, the pairs go on from
  module _ (first middle : List Table) (empty : families_of first ≡ s.families) (inits : IsStep s.model first middle) where
    begun : families_of middle ≡ s.families
    begun = inits.families ∙ empty

    pub within_limit : AreWithinLimit (system_of s) middle
    within_limit = record {
      valid = (inits.under_way.are_tables, begun);
      few = rw (rows_in_all-count s middle begun) inits.under_way.has_room.few;
    }

    above : (others : List Table) → AreTables s.model.sig others → families_of others ≡ s.families → IsClosed s.model others → RowsAreAmong (system_of s) middle others
    above others ok same closed = HaveRowsOf-within middle others inits.under_way.are_tables.different (same ∙ sym begun) (inits.under_way.forced others ok (same ∙ sym begun) closed)

    pub passes_limit : IsLimitPassed (system_of s) middle → PassesLimit 200000 s.model s.families
    passes_limit passes others ok same closed =
        rw (rows_in_all-count s others same) at (passes others (ok, same) (all_results others ok same closed) (above others ok same closed))

    module _ (initial : (m : List (Option Agent)) → Has s.model.inits m → Cover s.model.sig middle m) (last : List Table) (least : AreLeastAbove (system_of s) middle last) where
      are_tables : AreTables s.model.sig last
      are_tables = least.room.valid.0

      same : families_of last ≡ s.families
      same = least.room.valid.1

      yielded_held : (k f : ℕ) (r : RuleParts) (family : Family) (row : Row) → slice_get s.model.rules k ≡ Some r → slice_get (families_of last) f ≡ Some family → IsRow s.model.sig family row → Yields s.model.sig last r family row → Holds last family row
      yielded_held k f r family row ruled named valid yielded =
          let pair : Pair = record { rule = k; family = f } in
          let there : slice_get s.families f ≡ Some family = rw same at named in
          elim (has_pair_or_not s.pairs pair) [
            | inl has ↦
                let below = slice_get_within s.pairs has.0 pair has.1 in
                let held = least.closed has.0 below row (record { pair = pair; numbered = has.1; r = r; family = family; is = record { ruled = ruled; named = there }; valid = valid; yielded = yielded }) in
                Holds-at last f family row named (rw (pair_family-at s has.0 pair has.1) at held)
            | inr absent ↦
                nothing_new r family (λ acts. absent ((planned.acting.exact pair).1 (r, family, record { ruled = ruled; named = there }, acts))) s.model.sig last row are_tables (planned.model.rules k r ruled) (f, named) valid yielded
          ]

      closed : IsClosed s.model last
      closed family has row row_ok which = elim which [
        | inl (i, m, e, occurs) ↦ IsWithin-rows middle last (same ∙ sym begun) least.begins family row (initial m (i, e) family (rw begun (rw same at has)) row row_ok occurs)
        | inr (k, r, e, yielded) ↦ yielded_held k has.0 r family row e has.1 row_ok yielded
      ]

      covers : (m : List (Option Agent)) → Reached s.model m → Cover s.model.sig last m
      covers m reached = Cover-reached s.model planned.model last are_tables closed m reached

      pub solved : IsSolved s.model s.families last
      solved = record {
        families_are = same;
        are_tables = are_tables;
        least = record {
          closed = closed;
          least = λ others ok also its. IsWithin-rows last others also (least.least others (ok, also ∙ same) (all_results others ok (also ∙ same) its) (above others ok (also ∙ same) its));
        };
        few_rows = λ passes.
            let more = passes last are_tables same closed in
            let few : row_count last ≤ 200000 = rw (rows_in_all-count s last same) at least.room.few in
            omega arith;
        lemmas = λ m reached family has. LemmaHolds-cover s.model.sig last m are_tables (IsMixtureOver-reached s.model planned.model m reached) (covers m reached) family (rw same has);
        dead = λ m reached r gone cells. never-dead s.model.sig last m are_tables (IsMixtureOver-reached s.model planned.model m reached) (covers m reached) r cells gone;
      }

      pub bounded : (old new : ℕ) → old + length s.pairs ≤ new → new ≤ old + length s.pairs + read_count (system_of s) last → AreBoundedSteps s.model s.families last old new
      bounded old new low high = record {
        pairs = s.pairs;
        acting = planned.acting;
        at_least = low;
        at_most = rw (read_count-rows s last same) at high;
      }
