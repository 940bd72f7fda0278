use Rattle.std.proofs.Common.{sym, ◌∙◌}
use Rattle.kasa_graph.specs.Pattern.{link_test}
use Rattle.kasa_pre.proofs.AskedLemmas.{HasStandSite-asked}
use Rattle.kasa_pre.proofs.AskedSteps.{link-unwritten, link-written}
use Rattle.kasa_pre.proofs.narrow.narrow_link.Goals as goal

pub link_written-requires : goal.link_written-requires
link_written-requires c = HasStandSite-asked c.args.asked.now.sig.now c.args.asked.now.rule.now c.args.asked.now.v.now c.args.asked.now.stands.now c.args.asked.now.places.now c.requires.asked c.args.node c.args.site c.args.stand.now c.requires.stand c.requires.exists

pub returns-in-None : goal.returns-in-None
returns-in-None c = link-unwritten c.args.asked.now.sig.now c.args.asked.now.rule.now c.args.asked.now.v.now c.args.asked.now.stands.now c.args.g.now c.requires.nodes.valid c.args.node c.args.site c.args.stand.now (link_test c.args.asked.now.v.now c.args.node c.args.site) c.requires.stand c.narrow_link_at.result c.narrow_link_at.new.g (sym c.link_written.ensures ∙ c.in-None.is) c.narrow_link_at.ensures

pub returns-in-Some : goal.returns-in-Some
returns-in-Some c = link-written c.args.asked.now.sig.now c.args.asked.now.rule.now c.args.asked.now.v.now c.args.asked.now.stands.now c.args.g.now c.requires.nodes.valid c.args.node c.args.site c.args.stand.now (link_test c.args.asked.now.v.now c.args.node c.args.site) c.requires.stand c.in-Some.written c.written_meets.result (sym c.link_written.ensures ∙ c.in-Some.is) (rw c.link.ensures at c.written_meets.ensures)
