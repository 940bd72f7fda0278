use Rattle.std.proofs.Common.{◌≡◌, ℕ, ◌<◌}
use Rattle.std.specs.Prelude.{Some, slice_get}
use Rattle.kasa_families.specs.declared.family.Family.{Family}
use Rattle.kasa_families.specs.Table.{families_of}
use Rattle.kasa_fixpoint.specs.Steps.{IsStep, HoldsOccurring}
use Rattle.kasa_fixpoint.proofs.inits.insert_init.Given as goal

abbrev pub invariant-loop-f : goal.invariant-loop-f
invariant-loop-f l = record {
  step : IsStep l.model l.initial.tables l.tables;
  initial : (k : ℕ) → k < l.f → (family : Family) → slice_get (families_of l.tables) k ≡ Some family → HoldsOccurring l.model.sig l.tables family l.init;
}
