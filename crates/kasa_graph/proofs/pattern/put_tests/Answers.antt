use Rattle.std.proofs.Common.{rules}
use Rattle.std.proofs.Common.{sym, refl}
use Rattle.kasa_graph.proofs.PatternLemmas.{node_bound, site_bound, with_site-slice_set}
use Rattle.kasa_graph.proofs.pattern.put_tests.Goals as goal

pub bounds-nodes-n : goal.bounds-nodes-n
bounds-nodes-n c = node_bound c.args.nodes.now c.args.n c.args.s c.requires

pub set-requires : goal.set-requires
set-requires c = site_bound c.args.nodes.now c.args.n c.args.s _ c.requires

pub returns : goal.returns
returns c = rw c.set.ensures (sym (with_site-slice_set c.args.nodes.now c.args.n c.args.s _ _ c.args.tests c.requires (λ _ _. refl)))

pub offset_bounds-nodes-n : goal.offset_bounds-nodes-n
offset_bounds-nodes-n c = let within = node_bound c.args.nodes.now c.args.n c.args.s c.requires in search rules
