use Rattle.kasa_rules.specs.declared.rule.End.TheVariants.{Made}
use Rattle.kasa_polymers.specs.inner.Gather.{AddsSeen, Below, IsBondOfEnd, IsStateOfEnd}
use Rattle.kasa_polymers.proofs.gather.see_made.Given as goal

abbrev pub invariant-loop-k : goal.invariant-loop-k
invariant-loop-k l = record { added : AddsSeen (Below (λ n. IsBondOfEnd l.rule (Made n)) l.k) (Below (λ n. IsStateOfEnd l.rule (Made n)) l.k) l.initial.seen l.seen }
