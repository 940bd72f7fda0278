-- What holds of one number more.
use Rattle.std.proofs.Common.{◌≡◌, ℕ, ◌+◌, ◌<◌, inl, inr, List, length, arith}
use Rattle.std.specs.Prelude.{Option, Some, slice_get}
use Rattle.std.proofs.lemmas.Option.{slice_get_within}
use Rattle.kasa_graph.specs.declared.mixture.Agent.{Agent}
use Rattle.kasa_graph.proofs.ListLemmas.{same_or_not}
use Rattle.kasa_families.specs.declared.family.Family.{Family}
use Rattle.kasa_families.specs.Table.{Table, families_of}
use Rattle.kasa_families.proofs.TableLemmas.{table_of}
use Rattle.kasa_rules.specs.declared.model.Model.{Model}
use Rattle.kasa_pre.specs.Closed.{Cover}
use Rattle.kasa_fixpoint.specs.Steps.{IsStep, HoldsOccurring}
use Rattle.kasa_fixpoint.proofs.TableRows.{IsWithin-rows}

pub one_more : (n : ℕ) (P : ℕ → Type 0) → ((k : ℕ) → k < n → P k) → P n → (k : ℕ) → k < n + 1 → P k
one_more n P before here k below = elim (same_or_not k n) [
  | inl e ↦ rw e here
  | inr ne ↦ before k (omega (arith, ne))
]

pub within_tables : (tables : List Table) (f : ℕ) (family : Family) → slice_get (families_of tables) f ≡ Some family → f < length tables
within_tables tables f family named = let t = table_of tables f family named in slice_get_within tables f t.0 t.1

module _ (model : Model) (old new : List Table) (step : IsStep model old new) where
  HoldsOccurring-step : (family : Family) (m : List (Option Agent)) → HoldsOccurring model.sig old family m → HoldsOccurring model.sig new family m
  HoldsOccurring-step family m holds row valid occurs = IsWithin-rows old new step.families step.kept family row (holds row valid occurs)

  pub Cover-step : (m : List (Option Agent)) → Cover model.sig old m → Cover model.sig new m
  Cover-step m covers family has = HoldsOccurring-step family m (covers family (rw step.families at has))

  pub occurring_next : (n : ℕ) (m : List (Option Agent)) → ((k : ℕ) → k < n → (family : Family) → slice_get (families_of old) k ≡ Some family → HoldsOccurring model.sig old family m) → ((family : Family) → slice_get (families_of old) n ≡ Some family → HoldsOccurring model.sig new family m) → (k : ℕ) → k < n + 1 → (family : Family) → slice_get (families_of new) k ≡ Some family → HoldsOccurring model.sig new family m
  occurring_next n m before here k below family named =
      one_more n (λ (k : ℕ). slice_get (families_of old) k ≡ Some family → HoldsOccurring model.sig new family m) (λ k lower at. HoldsOccurring-step family m (before k lower family at)) (here family) k below (rw step.families at named)

  pub covers_next : (inits : List (List (Option Agent))) (n : ℕ) (init : List (Option Agent)) → slice_get inits n ≡ Some init → ((i : ℕ) → i < n → (m : List (Option Agent)) → slice_get inits i ≡ Some m → Cover model.sig old m) → Cover model.sig new init → (i : ℕ) → i < n + 1 → (m : List (Option Agent)) → slice_get inits i ≡ Some m → Cover model.sig new m
  covers_next inits n init is before here i below m at =
      one_more n (λ (i : ℕ). slice_get inits i ≡ Some m → Cover model.sig new m)
      (λ i lower at'. Cover-step m (before i lower m at'))
      (λ at'. let same : init ≡ m = cc in rw same at here)
      i below at
