use Rattle.std.proofs.Common.{◌≡◌, ◌<◌, length, refl, arith}
use Rattle.std.specs.Prelude.{Some, slice_get}
use Rattle.std.proofs.lemmas.Option.{slice_get_read}
use Rattle.kasa_graph.proofs.ListLemmas.{some_at}
use Rattle.kasa_graph.proofs.ShapeLemmas.{agent_at-node}
use Rattle.kasa_pre.proofs.OutsideLoops.{PlacedBelow-next, room}
use Rattle.kasa_pre.proofs.stands.add_outside.Goals as goal

pub add_place-requires-clause-room : goal.add_place-requires-clause-room
add_place-requires-clause-room c = λ outside.
    let nodes = c.nodes-i-end.ensures.count in
    let within : c.loop-i.i < length c.args.stands.now = let count = c.requires.count in let below = c.loop-i-test.true in omega arith in
    let at : slice_get c.args.stands.now c.loop-i.i ≡ Some c.index-stands-i.result = slice_get_read c.args.stands.now _ c.loop-i.i c.index-stands-i.result refl within c.index-stands-i.is in
    let node = some_at c.args.v.now c.loop-i.i (let below = c.loop-i-test.true in omega arith) in
    room c.args.sig.now c.args.v.now c.args.stands.now c.args.g.now c.loop-i.i c.loop-i.g c.loop-i.places.items node.0 (rw outside at at) node.1 c.loop-i.invariant c.requires.few

pub loop-i-preserved : goal.loop-i-preserved
loop-i-preserved c =
    let nodes = c.nodes-i-end.ensures.count in
    let within : c.loop-i.i < length c.args.stands.now = let count = c.requires.count in let below = c.loop-i-test.true in omega arith in
    let at : slice_get c.args.stands.now c.loop-i.i ≡ Some c.index-stands-i.result = slice_get_read c.args.stands.now _ c.loop-i.i c.index-stands-i.result refl within c.index-stands-i.is in
    let node = some_at c.args.v.now c.loop-i.i (let below = c.loop-i-test.true in omega arith) in
    rw c.in_ok-push.ensures.items
    (PlacedBelow-next c.args.sig.now c.args.v.now c.args.stands.now c.args.g.now c.loop-i.i node.0.agent node.0 refl node.1 c.loop-i.g c.loop-i.places.items c.loop-i.invariant
    c.index-stands-i.result c.add_place.new.g c.in_ok-place.place (c.requires.known.types c.loop-i.i node.0 node.1) at
    (c.in_ok-place.ensures node.0.agent (agent_at-node c.args.v.now c.loop-i.i node.0 node.1)))
