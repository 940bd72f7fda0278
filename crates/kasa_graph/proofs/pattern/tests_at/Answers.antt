use Rattle.std.proofs.Common.{rules}
use Rattle.std.proofs.Common.{◌∙◌}
use Rattle.kasa_graph.proofs.PatternLemmas.{node_bound, site_bound, site_at-slice_get}
use Rattle.kasa_graph.proofs.pattern.tests_at.Goals as goal

pub bounds-nodes-n : goal.bounds-nodes-n
bounds-nodes-n c = node_bound c.args.nodes.now c.args.n c.args.s c.requires

pub get-requires : goal.get-requires
get-requires c = site_bound c.args.nodes.now c.args.n c.args.s _ c.requires

pub returns : goal.returns
returns c = site_at-slice_get c.args.nodes.now c.args.n c.args.s _ (node_bound c.args.nodes.now c.args.n c.args.s c.requires) ∙ c.get.ensures

pub offset_bounds-nodes-n : goal.offset_bounds-nodes-n
offset_bounds-nodes-n c = let within = node_bound c.args.nodes.now c.args.n c.args.s c.requires in search rules
