use Rattle.std.proofs.Common.{◌≡◌, [], ◌∷◌, ◌++◌, rules}
use Rattle.kasa_rules.specs.Draft.{with_made, new_agent}
use Rattle.kasa_rules.proofs.DraftLemmas.{IsKept-made, IsDraftOver-made}
use Rattle.kasa_rules.proofs.draft.RuleDraft.make.Goals as goal
use Rattle.kasa_rules.proofs.draft.RuleDraft.make.Goals.{In_ok-push}

pushed : (c : In_ok-push) → c.push.new.self.items ≡ c.self.inside.made.items ++ new_agent c.args.sig.now c.args.agent ∷ []
pushed c = rw (c.in_ok-push.ensures.items, c.in_ok-sites.ensures)

pub invariant_of-self-2 : goal.invariant_of-self-2
unfolding with_made
invariant_of-self-2 c =
    let d = (goal.at.invariant_of-self-2 c).In_ok-push in
    rw (pushed d) (rw (← c.self.view_is) at (IsKept-made c.args.sig.now c.args.self.now c.args.agent (rw c.self.view_is at c.self.invariant) c.requires.room))

pub returns-clause-ok : goal.returns-clause-ok
unfolding with_made
returns-clause-ok c =
    let d = (goal.at.returns-clause-ok c).In_ok-push in
    (search rules, rw (pushed d, ← c.self.view_is))

pub returns-clause-err : goal.returns-clause-err
returns-clause-err c = tt

pub returns-clause-over : goal.returns-clause-over
unfolding with_made
returns-clause-over c =
    let d = (goal.at.returns-clause-over c).In_ok-push in
    λ over. rw (pushed d) (rw (← c.self.view_is) at (IsDraftOver-made c.args.sig.now c.args.self.now c.args.agent c.requires.known over))
