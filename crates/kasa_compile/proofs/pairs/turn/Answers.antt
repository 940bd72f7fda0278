use Rattle.std.proofs.Common.{◌≡◌, sym, refl, ap, ◌∙◌}
use Rattle.std.proofs.lemmas.Iterator.Adapters.{YieldsList-from_vec}
use Rattle.std.proofs.lemmas.Iterator.Consumers.{YieldsList-end}
use Rattle.kasa_graph.proofs.ListLemmas.{map-same}
use Rattle.kasa_compile.specs.Said.{turned}
use Rattle.kasa_compile.proofs.pairs.turn.Goals as goal

pub returns : goal.returns
returns c =
    let start = c.into_iter-pair-iterator.ensures.into_iter_gives in
    let all = YieldsList-end (YieldsList-from_vec c.args.pairs.items start.0 (start.1 ∙ c.args.pairs.ok.0)) c.loop-pair.yielded c.loop-pair.pair-iterator c.loop-pair.yielded_by c.next.result c.next.new.self c.in-None.is c.next.ensures.steps in
    let each : c.loop-pair.yielded ≡ c.args.pairs.items = sym (map-same (λ y. y) c.loop-pair.yielded (λ i x at. refl)) ∙ all.0 in
    c.loop-pair.invariant ∙ ap turned each
