use Rattle.std.proofs.Common.{◌≡◌, sym, ◌∙◌}
use Rattle.std.specs.Prelude.{Some}
use Rattle.kasa_graph.specs.Pattern.{link_test}
use Rattle.kasa_pre.specs.Before.{place_of}
use Rattle.kasa_pre.specs.Asked.{link_at}
use Rattle.kasa_pre.proofs.AskedLemmas.{HasNodeSite-place, known_link}
use Rattle.kasa_pre.proofs.AskedSteps.{link-there, link-unplaced}
use Rattle.kasa_pre.proofs.narrow.narrow_link_at.Goals as goal

pub narrow-requires-clause-exists : goal.narrow-requires-clause-exists
narrow-requires-clause-exists c =
    let at : place_of c.args.asked.now.rule.now c.args.asked.now.stands.now c.args.node ≡ Some c.in-Some.p = sym c.place.ensures ∙ c.in-Some.is in
    HasNodeSite-place c.args.asked.now.sig.now c.args.asked.now.rule.now c.args.asked.now.v.now c.args.asked.now.stands.now c.args.asked.now.places.now c.requires.asked c.args.g.now c.requires.nodes c.args.node c.in-Some.p c.args.site at c.requires.exists

pub narrow-requires-clause-known : goal.narrow-requires-clause-known
narrow-requires-clause-known c =
    let test : link_at (place_of c.args.asked.now.rule.now c.args.asked.now.stands.now) c.link.result ≡ Some c.in-Some-test_at_places.test = sym c.test_at_places.ensures ∙ c.in-Some-test_at_places.is in
    known_link c.args.asked.now.sig.now c.args.asked.now.rule.now c.args.asked.now.v.now c.args.asked.now.stands.now c.args.asked.now.places.now c.requires.asked c.args.g.now c.requires.nodes c.args.node c.in-Some.p c.args.site c.link.result c.in-Some-test_at_places.test c.link.ensures test

pub returns-in-None : goal.returns-in-None
returns-in-None c = link-unplaced c.args.asked.now.sig.now c.args.asked.now.rule.now c.args.asked.now.v.now c.args.asked.now.stands.now c.args.g.now c.requires.nodes.valid c.args.node c.args.site (link_test c.args.asked.now.v.now c.args.node c.args.site) (sym c.place.ensures ∙ c.in-None.is)

pub returns-in-Some-test_at_places : goal.returns-in-Some-test_at_places
returns-in-Some-test_at_places c =
    let at : place_of c.args.asked.now.rule.now c.args.asked.now.stands.now c.args.node ≡ Some c.in-Some.p = sym c.place.ensures ∙ c.in-Some.is in
    let test : link_at (place_of c.args.asked.now.rule.now c.args.asked.now.stands.now) c.link.result ≡ Some c.in-Some-test_at_places.test = sym c.test_at_places.ensures ∙ c.in-Some-test_at_places.is in
    link-there c.args.asked.now.sig.now c.args.asked.now.rule.now c.args.asked.now.v.now c.args.asked.now.stands.now c.args.g.now c.requires.nodes.valid c.args.node c.args.site (link_test c.args.asked.now.v.now c.args.node c.args.site) c.in-Some.p c.in-Some-test_at_places.test c.narrow.result c.narrow.new.g at (rw c.link.ensures at test) c.narrow.ensures
