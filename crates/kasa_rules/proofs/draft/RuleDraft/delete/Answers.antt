use Rattle.std.proofs.Common.{arith}
use Rattle.std.proofs.lemmas.Grind.{common_steps}
use Rattle.kasa_rules.specs.Draft.{with_deleted}
use Rattle.kasa_rules.proofs.DraftLemmas.{IsKept-of, IsKept-deleted, IsDraftOver-of, IsDraftOver-deleted}
use Rattle.kasa_rules.proofs.RuleLemmas.{fate_bound}
use Rattle.kasa_rules.proofs.draft.RuleDraft.delete.Goals as goal

pub put_deleted-requires : goal.put_deleted-requires
put_deleted-requires c = rw (c.deref_mut.ensures.value, c.node.view_is) (fate_bound _ _ _ (rw (← c.self.view_is) at c.requires.kept))

pub invariant_of-self : goal.invariant_of-self
unfolding with_deleted
invariant_of-self c = IsKept-of (with_deleted c.args.self.now c.args.node) _ (grind (arith, common_steps)) (IsKept-deleted c.args.self.now c.args.node (rw c.self.view_is at c.self.invariant) c.requires.unwritten)

pub returns-clause-draft : goal.returns-clause-draft
unfolding with_deleted
returns-clause-draft c = grind (arith, common_steps)

pub returns-clause-over : goal.returns-clause-over
unfolding with_deleted
returns-clause-over c = λ sig over. IsDraftOver-of sig (with_deleted c.args.self.now c.args.node) _ (grind (arith, common_steps)) (IsDraftOver-deleted sig c.args.self.now c.args.node (rw c.self.view_is at c.self.invariant) c.requires.unwritten over)
