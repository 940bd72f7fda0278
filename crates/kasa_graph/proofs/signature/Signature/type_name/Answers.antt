use Rattle.std.proofs.lemmas.Option.{slice_get-map}
use Rattle.kasa_graph.proofs.signature.Signature.type_name.Goals as goal

pub returns : goal.returns
returns c =
    let entry = c.in_ok-name.ensures.entry in
    rw (c.as_slice.ensures.value, ← c.self.view_is, ← c.agent.view_is, slice_get-map, slice_get-map, ← entry)
