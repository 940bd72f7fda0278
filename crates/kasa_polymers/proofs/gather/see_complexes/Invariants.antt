use Rattle.std.proofs.Common.{◌≡◌, List}
use Rattle.std.specs.Prelude.{Option, Some, slice_get}
use Rattle.kasa_graph.specs.declared.mixture.Agent.{Agent}
use Rattle.kasa_polymers.specs.Contact.{HasBond, HasStateSeen}
use Rattle.kasa_polymers.specs.inner.Gather.{AddsSeen, Below}
use Rattle.kasa_polymers.proofs.gather.see_complexes.Given as goal

abbrev pub invariant-loop-complex : goal.invariant-loop-complex
invariant-loop-complex l = record { added : AddsSeen (Below (λ k p. (m : List (Option Agent)) × (slice_get l.complexes k ≡ Some m) × HasBond m p) l.complex-index) (Below (λ k q. (m : List (Option Agent)) × (slice_get l.complexes k ≡ Some m) × HasStateSeen m q) l.complex-index) l.initial.seen l.seen }
