use Rattle.kasa_rules.specs.declared.rule.End.TheVariants.{Left}
use Rattle.kasa_polymers.specs.inner.Gather.{AddsSeen, Below, IsBondOfEnd, IsStateOfEnd}
use Rattle.kasa_polymers.proofs.gather.see_left.Given as goal

abbrev pub invariant-loop-node : goal.invariant-loop-node
invariant-loop-node l = record { added : AddsSeen (Below (λ n. IsBondOfEnd l.rule (Left n)) l.node) (Below (λ n. IsStateOfEnd l.rule (Left n)) l.node) l.initial.seen l.seen }
