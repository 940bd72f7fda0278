use Rattle.std.proofs.Common.{◌≡◌, ◌∙◌, sym, rules, inr}
use Rattle.std.specs.Prelude.{Some}
use Rattle.kasa_graph.specs.declared.refine.Test.TheVariants.{Link}
use Rattle.kasa_graph.specs.Pattern.{site_at, link_test, IsPattern, IsNoBond, LinkImplies}
use Rattle.kasa_graph.proofs.FitLemmas.{link_test-at}
use Rattle.kasa_graph.proofs.MeetLemmas.{IsMeet-same, IsMeet-with_link, HasNoMeet-link, implied_is_no_bond, no_bond_from, with_test-no_bond}
use Rattle.kasa_graph.proofs.pattern.Pattern.refine_link.Goals as goal

pub returns-then-link_implies-clause-found : goal.returns-then-link_implies-clause-found
returns-then-link_implies-clause-found c =
    let at : site_at c.args.self.now c.args.node c.args.site ≡ Some c.tests_at-old.result = search rules in
    let ok : IsPattern c.args.self.now = (rw c.self.view_is at c.self.invariant).0 in
    IsMeet-same _ ok c.args.node c.args.site (Link c.args.test) (rw (link_test-at _ _ _ _ at) (c.link_implies.ensures.0 c.if-link_implies.true))

pub returns-then-not-link_implies-clause-none : goal.returns-then-not-link_implies-clause-none
returns-then-not-link_implies-clause-none c =
    let at : site_at c.args.self.now c.args.node c.args.site ≡ Some c.tests_at-old.result = search rules in
    let ok : IsPattern c.args.self.now = (rw c.self.view_is at c.self.invariant).0 in
    HasNoMeet-link _ ok c.args.node c.args.site c.args.test
    (λ p. let yes = c.link_implies.ensures.1 (rw (link_test-at _ _ _ _ at) at p) in let no = c.if-link_implies.false in cc)
    (λ p. let yes = c.link_implies-2.ensures.1 (rw (link_test-at _ _ _ _ at) at p) in let no = c.if-not-link_implies.true in cc)

pub refine_bond-requires-clause-open : goal.refine_bond-requires-clause-open
refine_bond-requires-clause-open c =
    let at : site_at c.args.self.now c.args.node c.args.site ≡ Some c.tests_at-old.result = search rules in
    rw (link_test-at _ _ _ _ at) (implied_is_no_bond c.args.self.now c.tests_at-old.result.link c.args.test (c.link_implies-2.ensures.0 c.if-not-link_implies.false)
    (λ p. let yes = c.link_implies.ensures.1 p in let no = c.if-link_implies.false in cc))

pub refine_bond-requires-clause-stronger : goal.refine_bond-requires-clause-stronger
refine_bond-requires-clause-stronger c =
    let at : site_at c.args.self.now c.args.node c.args.site ≡ Some c.tests_at-old.result = search rules in
    rw (← c.in-To.is, link_test-at _ _ _ _ at) (c.link_implies-2.ensures.0 c.if-not-link_implies.false)

pub set_link-requires-clause-old : goal.set_link-requires-clause-old
set_link-requires-clause-old c =
    let at : site_at c.args.self.now c.args.node c.args.site ≡ Some c.tests_at-old.result = search rules in
    rw (link_test-at _ _ _ _ at) (implied_is_no_bond c.args.self.now c.tests_at-old.result.link c.args.test (c.link_implies-2.ensures.0 c.if-not-link_implies.false)
    (λ p. let yes = c.link_implies.ensures.1 p in let no = c.if-link_implies.false in cc))

pub set_link-requires-clause-new : goal.set_link-requires-clause-new
set_link-requires-clause-new c = no_bond_from c.args.test c.in_default.not-To

pub returns-in_default-clause-found : goal.returns-in_default-clause-found
returns-in_default-clause-found c =
    let at : site_at c.args.self.now c.args.node c.args.site ≡ Some c.tests_at-old.result = search rules in
    let ok : IsPattern c.args.self.now = (rw c.self.view_is at c.self.invariant).0 in
    let stronger : LinkImplies c.args.self.now c.args.test (link_test c.args.self.now c.args.node c.args.site) =
    rw (link_test-at _ _ _ _ at) (c.link_implies-2.ensures.0 c.if-not-link_implies.false) in
    let open_before : IsNoBond (link_test c.args.self.now c.args.node c.args.site) =
    rw (link_test-at _ _ _ _ at) (implied_is_no_bond c.args.self.now c.tests_at-old.result.link c.args.test (c.link_implies-2.ensures.0 c.if-not-link_implies.false)
    (λ p. let yes = c.link_implies.ensures.1 p in let no = c.if-link_implies.false in cc)) in
    rw c.set_link.ensures (IsMeet-with_link _ ok c.args.node c.args.site c.requires.site_exists c.args.test stronger open_before (no_bond_from c.args.test c.in_default.not-To))

pub returns-in_default-clause-written : goal.returns-in_default-clause-written
returns-in_default-clause-written c = inr (c.set_link.ensures ∙ sym (with_test-no_bond _ _ _ _ (no_bond_from c.args.test c.in_default.not-To)))
