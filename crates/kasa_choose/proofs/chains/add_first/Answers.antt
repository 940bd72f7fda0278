use Rattle.std.proofs.Common.{◌∙◌, sym}
use Rattle.kasa_graph.proofs.PatternLemmas.{node_bound}
use Rattle.kasa_choose.proofs.AcrossLemmas.{partner_bound}
use Rattle.kasa_choose.proofs.chains.add_first.Goals as goal

pub add_seconds-requires-clause-node : goal.add_seconds-requires-clause-node
add_seconds-requires-clause-node c = node_bound c.args.rule.now.left c.args.node c.args.site c.requires.site

pub add_seconds-requires-clause-partner : goal.add_seconds-requires-clause-partner
add_seconds-requires-clause-partner c = partner_bound c.args.rule.now.left c.args.node c.args.site c.in-To.partner c.in-To.partner_site c.requires.over.over.left.linked (sym (rw c.left.ensures.pattern at c.link.ensures) ∙ c.in-To.is)
