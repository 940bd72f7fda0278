use Rattle.std.proofs.Common.{◌≡◌, ◌<◌, length, refl, sym, ◌∙◌, inl, inr, arith, rules, eq-eqb}
use Rattle.std.proofs.lemmas.Option.{slice_get_read, slice_get_within}
use Rattle.std.specs.Prelude.{Some}
use Rattle.kasa_graph.specs.declared.pattern.LinkTest.TheVariants.{To}
use Rattle.kasa_graph.specs.Pattern.{site_at, link_test}
use Rattle.kasa_lists.proofs.Numbers.{same_or_not}
use Rattle.kasa_graph.proofs.FitLemmas.{link_test-at}
use Rattle.kasa_graph.proofs.BondLemmas.{site_of_bond}
use Rattle.kasa_embed.proofs.route.bond.Goals as goal
use Rattle.kasa_embed.proofs.route.bond.Goals.{in-To+else-eq, in_default}

pub returns-then-eq-clause-found : goal.returns-then-eq-clause-found
returns-then-eq-clause-found c =
    let at : site_at c.args.pattern.now c.args.to c.loop-tests.tests-index ≡ Some c.tests-item.result =
    c.site_tests-tests-items.ensures.tests c.loop-tests.tests-index ∙ slice_get_read c.site_tests-tests-items.result.now _ c.loop-tests.tests-index c.tests-item.result refl c.loop-tests-test.true c.tests-item.is in
    let same : c.in-To.node ≡ c.args.from = search rules in
    let back : link_test c.args.pattern.now c.args.to c.loop-tests.tests-index ≡ To c.args.from c.in-To.site =
    link_test-at _ _ _ _ at ∙ c.in-To.is ∙ rw same refl in
    (c.loop-tests.tests-index, c.site_tests-tests-items.ensures.linked.both_ways _ _ _ _ back)

pub loop-tests-preserved : goal.loop-tests-preserved
loop-tests-preserved c =
    let at : site_at c.args.pattern.now c.args.to c.loop-tests.tests-index ≡ Some c.tests-item.result =
    c.site_tests-tests-items.ensures.tests c.loop-tests.tests-index ∙ slice_get_read c.site_tests-tests-items.result.now _ c.loop-tests.tests-index c.tests-item.result refl c.loop-tests-test.true c.tests-item.is in
    λ t s below is. elim (same_or_not t c.loop-tests.tests-index) [
      | inl e ↦
          let link : c.tests-item.result.link ≡ To c.args.from s = sym (link_test-at _ _ _ _ at) ∙ (rw e at is) in
          elim c.match-tests.branch [
            | in-To+else-eq w ↦
                let same : w.in-To.node ≡ c.args.from = (let here = w.in-To.is in cc) in
                let equal = eq-eqb w.in-To.node c.args.from same in
                let told = w.eq.ensures in
                let not = w.if-eq.false in
                cc
            | in_default w ↦ w.in_default.not-To c.args.from s link
          ]
      | inr ne ↦ c.loop-tests.invariant t s (omega arith) is
    ]

pub returns-clause-none : goal.returns-clause-none
returns-clause-none c = λ bound.
    let back = c.site_tests-tests-items.ensures.linked.both_ways _ _ _ _ bound.2 in
    let site = site_of_bond _ _ _ _ _ back in
    let within : bound.1 < length c.site_tests-tests-items.result.now = slice_get_within _ _ _ (sym (c.site_tests-tests-items.ensures.tests bound.1) ∙ site.1) in
    c.loop-tests.invariant bound.1 bound.0 (omega arith) back
