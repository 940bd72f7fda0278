use Rattle.kasa_fixpoint.specs.Growing.{HaveMoreRows, TakesIn}
use Rattle.kasa_fixpoint.proofs.inserting.insert_all.Given as goal

abbrev pub invariant-loop-row : goal.invariant-loop-row
invariant-loop-row l = record {
  takes : TakesIn l.f l.yielded l.initial.tables l.tables;
  grown : HaveMoreRows l.f l.initial.tables l.tables l.grew;
}
