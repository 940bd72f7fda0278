use Rattle.std.proofs.Common.{None, Some}
use Rattle.std.specs.Map.{keys_of}
use Rattle.kasa_graph.proofs.NameLemmas.{find_key, type_names-keys}
use Rattle.kasa_graph.proofs.signature.Signature.find_type.Goals as goal

pub returns-in_err-number : goal.returns-in_err-number
returns-in_err-number c =
    rw (c.from_residual.ensures, ← c.self.view_is, type_names-keys)
    (find_key c.args.name.now (keys_of c.self.inside.types.entries) None c.in_err-number.ensures.index)

pub returns : goal.returns
returns c =
    rw (← c.self.view_is, type_names-keys)
    (find_key c.args.name.now (keys_of c.self.inside.types.entries) (Some c.in_ok-number.number) c.in_ok-number.ensures.index)
