use Rattle.std.proofs.Common.{◌≤◌, length, map, arith}
use Rattle.kasa_graph.specs.Signature.{TypeEntry, type_names}
use Rattle.kasa_graph.specs.SignatureView.{type_entry}
use Rattle.kasa_lists.proofs.Maps.{length-map}
use Rattle.kasa_graph.proofs.signature.Signature.types.Goals as goal

pub returns-clause-few : goal.returns-clause-few
returns-clause-few c =
    let few : length (type_names (map type_entry c.self.inside.types.entries)) ≤ 500 = c.self.invariant.types.few in
    let entries = rw (length-map (λ (t : TypeEntry). t.name) (map type_entry c.self.inside.types.entries), length-map type_entry c.self.inside.types.entries) at few in
    omega (arith, entries, c.len.ensures.len)
