use Rattle.std.proofs.Common.{◌≡◌, arith}
use Rattle.std.proofs.lemmas.Grind.{common_steps}
use Rattle.kasa_rules.specs.declared.rule.Written.TheVariants.{To}
use Rattle.kasa_rules.specs.Draft.{actions_with_link, made_with_link, with_written_link, with_written_bond}
use Rattle.kasa_rules.proofs.DraftLemmas.{HasListed-end, HasListed-second, IsKept-of, IsKept-bond, IsDraftOver-of, IsDraftOver-bond}
use Rattle.kasa_rules.proofs.draft.RuleDraft.write_bond.Goals as goal

pub put_link-requires : goal.put_link-requires
put_link-requires c = rw (c.deref_mut.ensures.value, c.deref_mut-2.ensures.value) (HasListed-end _ c.args.e c.args.s c.self.invariant.2 (rw (← c.self.view_is) at c.requires.first))

pub put_link-requires-2 : goal.put_link-requires-2
unfolding with_written_link
put_link-requires-2 c =
    let actions : c.deref_mut-3.result.now ≡ actions_with_link c.args.self.now.actions c.args.e c.args.s (To c.args.f c.args.t) = grind (arith, common_steps) in
    let made : c.deref_mut-4.result.now ≡ made_with_link c.args.self.now.made c.args.e c.args.s (To c.args.f c.args.t) = grind (arith, common_steps) in
    rw (actions, made) (HasListed-second c.args.self.now c.args.e c.args.f c.args.s c.args.t (To c.args.f c.args.t) (rw c.self.view_is at c.self.invariant).2 c.requires.second)

pub invariant_of-self : goal.invariant_of-self
unfolding with_written_link
invariant_of-self c = IsKept-of (with_written_bond c.args.self.now c.args.e c.args.s c.args.f c.args.t) _ (grind (arith, common_steps)) (IsKept-bond c.args.self.now c.args.e c.args.f c.args.s c.args.t (rw c.self.view_is at c.self.invariant) c.requires.first c.requires.second c.requires.differ c.requires.first_open c.requires.second_open)

pub returns-clause-draft : goal.returns-clause-draft
unfolding with_written_link
returns-clause-draft c = grind (arith, common_steps)

pub returns-clause-over : goal.returns-clause-over
unfolding with_written_link
returns-clause-over c = λ sig over. IsDraftOver-of sig (with_written_bond c.args.self.now c.args.e c.args.s c.args.f c.args.t) _ (grind (arith, common_steps)) (IsDraftOver-bond c.args.self.now c.args.e c.args.f c.args.s c.args.t (rw c.self.view_is at c.self.invariant) c.requires.first c.requires.second c.requires.differ c.requires.first_open c.requires.second_open sig over)
