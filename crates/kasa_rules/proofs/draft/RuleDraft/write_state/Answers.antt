use Rattle.std.proofs.Common.{arith}
use Rattle.std.proofs.lemmas.Grind.{common_steps}
use Rattle.kasa_rules.specs.Draft.{with_written_state}
use Rattle.kasa_rules.proofs.DraftLemmas.{HasListed-end, IsKept-of, IsKept-state, IsDraftOver-of, IsDraftOver-state}
use Rattle.kasa_rules.proofs.draft.RuleDraft.write_state.Goals as goal

pub put_state-requires : goal.put_state-requires
put_state-requires c = rw (c.deref_mut.ensures.value, c.deref_mut-2.ensures.value) (HasListed-end _ c.args.end c.args.site c.self.invariant.2 (rw (← c.self.view_is) at c.requires.exists))

pub invariant_of-self : goal.invariant_of-self
unfolding with_written_state
invariant_of-self c = IsKept-of (with_written_state c.args.self.now c.args.end c.args.site c.args.state) _ (grind (arith, common_steps)) (IsKept-state c.args.self.now c.args.end c.args.site c.args.state (rw c.self.view_is at c.self.invariant) c.requires.exists c.requires.known)

pub returns-clause-draft : goal.returns-clause-draft
unfolding with_written_state
returns-clause-draft c = grind (arith, common_steps)

pub returns-clause-over : goal.returns-clause-over
unfolding with_written_state
returns-clause-over c = λ sig over. IsDraftOver-of sig (with_written_state c.args.self.now c.args.end c.args.site c.args.state) _ (grind (arith, common_steps)) (IsDraftOver-state sig c.args.self.now c.args.end c.args.site c.args.state (rw c.self.view_is at c.self.invariant) c.requires.exists c.requires.known over)
