use Rattle.kasa_rules.specs.Draft.{new_draft}
use Rattle.kasa_rules.proofs.DraftLemmas.{IsKept, IsKept-new, IsDraftOver-new}
use Rattle.kasa_rules.proofs.draft.RuleDraft.new.Goals as goal
use Rattle.kasa_rules.proofs.draft.RuleDraft.new.Goals.{After-new-2}

kept : (c : After-new-2) → IsKept (new_draft c.args.name.now c.args.left)
kept c = IsKept-new c.args.name.now c.args.left c.requires.valid.linked c.requires.few c.in_ok-actions.ensures.few_sites

pub invariant_of-result : goal.invariant_of-result
unfolding new_draft
invariant_of-result c = let d = (goal.at.invariant_of-result c).After-new-2 in rw (c.in_ok-name.ensures, c.in_ok-actions.ensures.all, c.new-2.ensures.items) (kept d)

pub returns-clause-draft : goal.returns-clause-draft
unfolding new_draft
returns-clause-draft c = rw (c.in_ok-name.ensures, c.in_ok-actions.ensures.all, c.new-2.ensures.items)

pub returns-clause-over : goal.returns-clause-over
unfolding new_draft
returns-clause-over c = let d = (goal.at.returns-clause-over c).After-new-2 in rw (c.in_ok-name.ensures, c.in_ok-actions.ensures.all, c.new-2.ensures.items) (IsDraftOver-new c.args.sig.now c.args.name.now c.args.left c.requires.valid (kept d))
