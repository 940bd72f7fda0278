use Rattle.std.proofs.Common.{refl, arith}
use Rattle.std.proofs.lemmas.Option.{slice_get_read}
use Rattle.kasa_compile.proofs.JoiningLemmas.{link_of_label, labelled_at, two_places, other_within, can_bond, site_joined, site_unlabelled, sites_joined}
use Rattle.kasa_compile.proofs.complex.join_agent.Goals.{in-Some, in_default}
use Rattle.kasa_compile.proofs.complex.join_agent.Goals as goal

pub overflow_cast-other : goal.overflow_cast-other
overflow_cast-other c =
    let x = c.site-item.result in
    let is = slice_get_read c.args.agents.now _ c.args.cell c.index-agents-cell.result refl c.requires.within c.index-agents-cell.is in
    let at = slice_get_read c.sites_of-site-items.result.now _ c.loop-site.site-index x refl c.loop-site-test.true c.site-item.is in
    let label = link_of_label x.link c.label_of.result c.in-Some.number c.label_of.ensures c.in-Some.is in
    let here = labelled_at c.args.agents.now c.in-Some.number c.args.cell c.loop-site.site-index c.index-agents-cell.result c.sites_of-site-items.result.now x is c.sites_of-site-items.ensures at label in
    let two = two_places c.args.agents.now c.in-Some.number c.args.cell x.site c.requires.joined here in
    let other = c.joined_to-other.ensures c.args.agents.now c.requires.index two in
    let few = c.requires.few in
    let within = other_within c.args.agents.now c.in-Some.number c.args.cell x.site c.requires.once two here in
    rw other (omega (arith, within, few))

pub join_if_free-requires-clause-first : goal.join_if_free-requires-clause-first
join_if_free-requires-clause-first c =
    let x = c.site-item.result in
    let is = slice_get_read c.args.agents.now _ c.args.cell c.index-agents-cell.result refl c.requires.within c.index-agents-cell.is in
    let at = slice_get_read c.sites_of-site-items.result.now _ c.loop-site.site-index x refl c.loop-site-test.true c.site-item.is in
    let label = link_of_label x.link c.label_of.result c.in-Some.number c.label_of.ensures c.in-Some.is in
    let here = labelled_at c.args.agents.now c.in-Some.number c.args.cell c.loop-site.site-index c.index-agents-cell.result c.sites_of-site-items.result.now x is c.sites_of-site-items.ensures at label in
    let two = two_places c.args.agents.now c.in-Some.number c.args.cell x.site c.requires.joined here in
    let can = can_bond c.args.agents.now c.requires.once c.loop-site.mixture c.in-Some.number c.args.cell x.site c.loop-site.invariant.joining two here in
    let other = c.joined_to-other.ensures c.args.agents.now c.requires.index two in
    can.first

pub join_if_free-requires-clause-second : goal.join_if_free-requires-clause-second
join_if_free-requires-clause-second c =
    let x = c.site-item.result in
    let is = slice_get_read c.args.agents.now _ c.args.cell c.index-agents-cell.result refl c.requires.within c.index-agents-cell.is in
    let at = slice_get_read c.sites_of-site-items.result.now _ c.loop-site.site-index x refl c.loop-site-test.true c.site-item.is in
    let label = link_of_label x.link c.label_of.result c.in-Some.number c.label_of.ensures c.in-Some.is in
    let here = labelled_at c.args.agents.now c.in-Some.number c.args.cell c.loop-site.site-index c.index-agents-cell.result c.sites_of-site-items.result.now x is c.sites_of-site-items.ensures at label in
    let two = two_places c.args.agents.now c.in-Some.number c.args.cell x.site c.requires.joined here in
    let can = can_bond c.args.agents.now c.requires.once c.loop-site.mixture c.in-Some.number c.args.cell x.site c.loop-site.invariant.joining two here in
    let other = c.joined_to-other.ensures c.args.agents.now c.requires.index two in
    rw other can.second

pub join_if_free-requires-clause-differ : goal.join_if_free-requires-clause-differ
join_if_free-requires-clause-differ c =
    let x = c.site-item.result in
    let is = slice_get_read c.args.agents.now _ c.args.cell c.index-agents-cell.result refl c.requires.within c.index-agents-cell.is in
    let at = slice_get_read c.sites_of-site-items.result.now _ c.loop-site.site-index x refl c.loop-site-test.true c.site-item.is in
    let label = link_of_label x.link c.label_of.result c.in-Some.number c.label_of.ensures c.in-Some.is in
    let here = labelled_at c.args.agents.now c.in-Some.number c.args.cell c.loop-site.site-index c.index-agents-cell.result c.sites_of-site-items.result.now x is c.sites_of-site-items.ensures at label in
    let two = two_places c.args.agents.now c.in-Some.number c.args.cell x.site c.requires.joined here in
    let can = can_bond c.args.agents.now c.requires.once c.loop-site.mixture c.in-Some.number c.args.cell x.site c.loop-site.invariant.joining two here in
    let other = c.joined_to-other.ensures c.args.agents.now c.requires.index two in
    rw other can.differ

pub join_if_free-requires-clause-free : goal.join_if_free-requires-clause-free
join_if_free-requires-clause-free c =
    let x = c.site-item.result in
    let is = slice_get_read c.args.agents.now _ c.args.cell c.index-agents-cell.result refl c.requires.within c.index-agents-cell.is in
    let at = slice_get_read c.sites_of-site-items.result.now _ c.loop-site.site-index x refl c.loop-site-test.true c.site-item.is in
    let label = link_of_label x.link c.label_of.result c.in-Some.number c.label_of.ensures c.in-Some.is in
    let here = labelled_at c.args.agents.now c.in-Some.number c.args.cell c.loop-site.site-index c.index-agents-cell.result c.sites_of-site-items.result.now x is c.sites_of-site-items.ensures at label in
    let two = two_places c.args.agents.now c.in-Some.number c.args.cell x.site c.requires.joined here in
    let can = can_bond c.args.agents.now c.requires.once c.loop-site.mixture c.in-Some.number c.args.cell x.site c.loop-site.invariant.joining two here in
    let other = c.joined_to-other.ensures c.args.agents.now c.requires.index two in
    rw other can.free

pub loop-site-preserved : goal.loop-site-preserved
loop-site-preserved c =
    let x = c.site-item.result in
    let is = slice_get_read c.args.agents.now _ c.args.cell c.index-agents-cell.result refl c.requires.within c.index-agents-cell.is in
    let at = slice_get_read c.sites_of-site-items.result.now _ c.loop-site.site-index x refl c.loop-site-test.true c.site-item.is in
    elim c.match-label_of.branch [
      | in-Some w ↦
          let label = link_of_label x.link c.label_of.result w.in-Some.number c.label_of.ensures w.in-Some.is in
          let here = labelled_at c.args.agents.now w.in-Some.number c.args.cell c.loop-site.site-index c.index-agents-cell.result c.sites_of-site-items.result.now x is c.sites_of-site-items.ensures at label in
          let two = two_places c.args.agents.now w.in-Some.number c.args.cell x.site c.requires.joined here in
          let other = w.joined_to-other.ensures c.args.agents.now c.requires.index two in
          rw (w.mixture-is, w.join_if_free.ensures, other)
          (site_joined c.args.agents.now c.args.mixture.now c.loop-site.mixture c.args.cell c.sites_of-site-items.result.now c.loop-site.site-index w.in-Some.number x c.requires.once two at label here c.loop-site.invariant)
      | in_default w ↦
          rw w.mixture-is (site_unlabelled c.args.agents.now c.args.mixture.now c.loop-site.mixture c.args.cell c.sites_of-site-items.result.now c.loop-site.site-index x c.label_of.result at c.label_of.ensures w.in_default.is c.loop-site.invariant)
    ]

pub returns-clause-labels : goal.returns-clause-labels
returns-clause-labels c = λ a at.
    let is = slice_get_read c.args.agents.now _ c.args.cell c.index-agents-cell.result refl c.requires.within c.index-agents-cell.is in
    sites_joined c.args.agents.now c.loop-site.mixture c.args.cell c.loop-site.site-index c.sites_of-site-items.result.now c.index-agents-cell.result a is at c.sites_of-site-items.ensures c.loop-site-test.false c.loop-site.invariant.labels
