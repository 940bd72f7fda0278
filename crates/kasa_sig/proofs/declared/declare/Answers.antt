use Rattle.std.proofs.Common.{inl, inr}
use Rattle.kasa_sig.specs.declared.names.Source.TheVariants.{Declarations}
use Rattle.kasa_sig.proofs.AfterLemmas.{after-none}
use Rattle.kasa_sig.proofs.declared.declare.Goals as goal

pub returns-in-Init-clause-ok : goal.returns-in-Init-clause-ok
returns-in-Init-clause-ok c = elim c.in-Init.is [
  | inl h ↦ rw h.1 (after-none Declarations c.args.sig.now)
  | inr k ↦ elim k [ inl h ↦ rw h.1 (after-none Declarations c.args.sig.now) | inr h ↦ rw h.1 (after-none Declarations c.args.sig.now) ]
]

pub returns-in-Init-2-clause-ok : goal.returns-in-Init-2-clause-ok
returns-in-Init-2-clause-ok c = elim c.in-Init.is [
  | inl h ↦ rw h.1 (after-none Declarations c.args.sig.now)
  | inr k ↦ elim k [ inl h ↦ rw h.1 (after-none Declarations c.args.sig.now) | inr h ↦ rw h.1 (after-none Declarations c.args.sig.now) ]
]

pub returns-in-Init-3-clause-ok : goal.returns-in-Init-3-clause-ok
returns-in-Init-3-clause-ok c = elim c.in-Init.is [
  | inl h ↦ rw h.1 (after-none Declarations c.args.sig.now)
  | inr k ↦ elim k [ inl h ↦ rw h.1 (after-none Declarations c.args.sig.now) | inr h ↦ rw h.1 (after-none Declarations c.args.sig.now) ]
]
