use Rattle.std.proofs.Common.{◌≡◌, ◌≢◌, rules}
use Rattle.std.specs.Prelude.{Some}
use Rattle.kasa_graph.specs.declared.pattern.LinkTest.TheVariants.{To}
use Rattle.kasa_graph.specs.Pattern.{site_at, link_test, IsPattern, LinkImplies}
use Rattle.kasa_graph.proofs.FitLemmas.{link_test-at}
use Rattle.kasa_graph.proofs.MeetLemmas.{IsMeet-with_bond, HasNoMeet-far, far_is_no_bond}
use Rattle.kasa_graph.proofs.pattern.Pattern.refine_bond.Goals as goal

pub returns-then-not-link_implies-clause-none : goal.returns-then-not-link_implies-clause-none
returns-then-not-link_implies-clause-none c =
    let at : site_at c.args.self.now c.args.m c.args.t ≡ Some c.tests_at-far.result = search rules in
    let ok : IsPattern c.args.self.now = (rw c.self.view_is at c.self.invariant).0 in
    HasNoMeet-far _ ok c.args.n c.args.s c.args.m c.args.t
    (λ p. let yes = c.link_implies.ensures.1 (rw (link_test-at _ _ _ _ at) at p) in let no = c.if-not-link_implies.true in cc)

pub join-requires-clause-second_open : goal.join-requires-clause-second_open
join-requires-clause-second_open c =
    let at : site_at c.args.self.now c.args.m c.args.t ≡ Some c.tests_at-far.result = search rules in
    let ok : IsPattern c.args.self.now = (rw c.self.view_is at c.self.invariant).0 in
    far_is_no_bond _ ok c.args.n c.args.s c.args.m c.args.t c.requires.open
    (rw (link_test-at _ _ _ _ at) (c.link_implies.ensures.0 c.if-not-link_implies.false))

pub returns-clause-found : goal.returns-clause-found
returns-clause-found c =
    let at : site_at c.args.self.now c.args.m c.args.t ≡ Some c.tests_at-far.result = search rules in
    let ok : IsPattern c.args.self.now = (rw c.self.view_is at c.self.invariant).0 in
    let differ : c.args.n ≡ c.args.m → c.args.s ≢ c.args.t = search rules in
    let stronger : LinkImplies c.args.self.now (To c.args.n c.args.s) (link_test c.args.self.now c.args.m c.args.t) =
    rw (link_test-at _ _ _ _ at) (c.link_implies.ensures.0 c.if-not-link_implies.false) in
    rw c.join.ensures (IsMeet-with_bond _ ok c.args.n c.args.s c.requires.first c.args.m c.args.t c.requires.second differ c.requires.stronger stronger c.requires.open
    (far_is_no_bond _ ok c.args.n c.args.s c.args.m c.args.t c.requires.open stronger))
