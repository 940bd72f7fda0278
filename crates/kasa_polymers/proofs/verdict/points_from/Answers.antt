use Rattle.std.proofs.Common.{◌≡◌, ◌<◌, ◌∙◌, sym, ap, length, arith}
use Rattle.kasa_digraph.specs.Graph.{successors}
use Rattle.kasa_digraph.proofs.Searching.{successors_at}
use Rattle.kasa_polymers.proofs.verdict.points_from.Goals as goal

pub returns : goal.returns
returns c =
    let same : c.a.inside.0 ≡ c.args.a = c.a.view_is in
    let known = c.requires in
    let within : c.a.inside.0 < length c.args.by_type.now = omega arith in
    c.as_slice.ensures.value ∙ sym (successors_at c.args.by_type.now c.a.inside.0 c.index-by_type-a.result within c.index-by_type-a.is) ∙ ap (successors c.args.by_type.now) same
