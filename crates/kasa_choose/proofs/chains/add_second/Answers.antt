use Rattle.std.proofs.Common.{◌∙◌, sym}
use Rattle.kasa_graph.proofs.PatternLemmas.{node_bound}
use Rattle.kasa_choose.proofs.AcrossLemmas.{partner_bound}
use Rattle.kasa_choose.proofs.chains.add_second.Goals as goal

pub add_two-requires-clause-node : goal.add_two-requires-clause-node
add_two-requires-clause-node c = node_bound c.args.rule.now.left c.args.first.now.node c.args.site c.requires.site

pub add_two-requires-clause-far : goal.add_two-requires-clause-far
add_two-requires-clause-far c = partner_bound c.args.rule.now.left c.args.first.now.node c.args.site c.in-To.partner c.in-To.partner_site c.requires.over.over.left.linked (sym (rw c.left.ensures.pattern at c.link.ensures) ∙ c.in-To.is)
