use Rattle.std.proofs.Common.{arith, refl, sym, ◌∙◌}
use Rattle.kasa_digraph.specs.Graph.{successors}
use Rattle.kasa_digraph.proofs.Lists.{in_at}
use Rattle.kasa_digraph.proofs.Searching.{edge_at, successors_at}
use Rattle.kasa_digraph.proofs.Flooding.{layer_more, layer_all}
use Rattle.kasa_digraph.proofs.flood.next_layer.Goals as goal

pub bounds-graph-x : goal.bounds-graph-x
bounds-graph-x c = c.requires.within _ (in_at c.args.layer.now c.loop-x.x-index c.loop-x-test.true)

pub spread-requires-clause-within : goal.spread-requires-clause-within
spread-requires-clause-within c y h =
    let within = c.requires.within _ (in_at c.args.layer.now c.loop-x.x-index c.loop-x-test.true) in
    let below = c.requires.graph _ y (edge_at c.args.graph.now _ c.index-graph-x.result _ within c.index-graph-x.is c.as_slice.ensures.value y h) in
    omega (arith, below, c.loop-x.invariant.spread.size)

pub loop-x-preserved : goal.loop-x-preserved
loop-x-preserved c =
    let within = c.requires.within _ (in_at c.args.layer.now c.loop-x.x-index c.loop-x-test.true) in
    let same = c.as_slice.ensures.value ∙ sym (successors_at c.args.graph.now _ c.index-graph-x.result within c.index-graph-x.is) in
    record {
      spread = layer_more (successors c.args.graph.now) c.args.layer.now c.loop-x.x-index _ c.args.label c.as_slice.result.now _ _ _ _ _ _ c.loop-x-test.true refl same
          c.loop-x.invariant.spread c.in_ok-spread.ensures;
    }

pub returns : goal.returns
returns c = layer_all (successors c.args.graph.now) c.args.layer.now c.loop-x.x-index c.args.label _ _ _ _ (omega arith) c.loop-x.invariant.spread
