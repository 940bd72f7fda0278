use Rattle.std.proofs.Common.{◌≡◌, rules}
use Rattle.std.specs.Prelude.{Some}
use Rattle.kasa_graph.specs.declared.refine.Test.TheVariants.{State}
use Rattle.kasa_graph.specs.Pattern.{site_at, IsPattern}
use Rattle.kasa_graph.proofs.FitLemmas.{state_test-at}
use Rattle.kasa_graph.proofs.MeetLemmas.{IsMeet-same, IsMeet-with_state, HasNoMeet-state}
use Rattle.kasa_graph.proofs.pattern.Pattern.refine_state.Goals as goal

pub returns-then-state_implies-clause-found : goal.returns-then-state_implies-clause-found
returns-then-state_implies-clause-found c =
    let at : site_at c.args.self.now c.args.node c.args.site ≡ Some c.tests_at-old.result = search rules in
    let ok : IsPattern c.args.self.now = (rw c.self.view_is at c.self.invariant).0 in
    IsMeet-same _ ok c.args.node c.args.site (State c.args.test) (rw (state_test-at _ _ _ _ at) (c.state_implies.ensures.0 c.if-state_implies.true))

pub returns-then-not-state_implies-clause-none : goal.returns-then-not-state_implies-clause-none
returns-then-not-state_implies-clause-none c =
    let at : site_at c.args.self.now c.args.node c.args.site ≡ Some c.tests_at-old.result = search rules in
    let ok : IsPattern c.args.self.now = (rw c.self.view_is at c.self.invariant).0 in
    HasNoMeet-state _ ok c.args.node c.args.site c.args.test
    (λ p. let yes = c.state_implies.ensures.1 (rw (state_test-at _ _ _ _ at) at p) in let no = c.if-state_implies.false in cc)
    (λ p. let yes = c.state_implies-2.ensures.1 (rw (state_test-at _ _ _ _ at) at p) in let no = c.if-not-state_implies.true in cc)

pub returns-clause-found : goal.returns-clause-found
returns-clause-found c =
    let at : site_at c.args.self.now c.args.node c.args.site ≡ Some c.tests_at-old.result = search rules in
    let ok : IsPattern c.args.self.now = (rw c.self.view_is at c.self.invariant).0 in
    rw c.set_state.ensures (IsMeet-with_state _ ok c.args.node c.args.site c.requires c.args.test (rw (state_test-at _ _ _ _ at) (c.state_implies-2.ensures.0 c.if-not-state_implies.false)))
