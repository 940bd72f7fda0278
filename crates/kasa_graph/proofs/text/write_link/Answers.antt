use Rattle.std.proofs.Common.{◌≡◌, ◌++◌, ◌∙◌, ap}
use Rattle.kasa_graph.specs.declared.pattern.LinkTest.TheVariants.{To}
use Rattle.kasa_graph.specs.Pattern.{link_test}
use Rattle.kasa_graph.proofs.BondLemmas.{here_new}
use Rattle.kasa_graph.proofs.TextLemmas.{written_bond, seen_bond}
use Rattle.kasa_graph.proofs.text.write_link.Goals as goal

pub number_bond-requires : goal.number_bond-requires
number_bond-requires c = rw (c.requires.seen, ← c.site.view_is) (here_new c.args.pattern.now c.args.node c.site.inside.0)

pub returns-in_ok-write_number-in-To-clause-text : goal.returns-in_ok-write_number-in-To-clause-text
returns-in_ok-write_number-in-To-clause-text c =
    let bond : link_test c.args.pattern.now c.args.node c.args.site ≡ To c.in-To.other c.in-To.end = c.requires.here ∙ c.in-To.is in
    let number = rw (c.other.view_is, c.end.view_is) at c.in_ok-number-in-To.ensures.number in
    rw c.in-To.is
    (c.in_ok-write_number-in-To.ensures ∙ ap (λ text. c.args.out.now.items ++ text) (written_bond c.args.sig.now c.args.pattern.now c.args.node c.args.site c.in-To.other c.in-To.end _ _ c.requires.linked bond c.requires.seen number))

pub returns-in_ok-write_number-in-To-clause-seen : goal.returns-in_ok-write_number-in-To-clause-seen
returns-in_ok-write_number-in-To-clause-seen c =
    let bond : link_test c.args.pattern.now c.args.node c.args.site ≡ To c.in-To.other c.in-To.end = c.requires.here ∙ c.in-To.is in
    let seen = rw (c.other.view_is, c.end.view_is, c.site.view_is) at c.in_ok-number-in-To.ensures.seen in
    rw c.in-To.is (seen_bond c.args.pattern.now c.args.node c.args.site c.in-To.other c.in-To.end _ _ c.requires.linked bond c.requires.seen seen)
