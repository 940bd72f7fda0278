use Rattle.std.proofs.Common.{refl}
use Rattle.std.proofs.lemmas.Option.{slice_get-get_or}
use Rattle.kasa_graph.proofs.FitLemmas.{AreDifferentBelow-more, AllDifferent-below}
use Rattle.kasa_graph.proofs.embedding.are_different.Goals as goal

pub loop-k-preserved : goal.loop-k-preserved
loop-k-preserved c = AreDifferentBelow-more c.args.ids.now c.loop-k.k _ (slice_get-get_or c.args.ids.now c.loop-k.k 0 c.loop-k-test.true) (λ has. absurd (let stands = c.stands_in.ensures.1 has in let not = c.if-stands_in.false in cc)) c.loop-k.invariant

pub returns : goal.returns
returns c = ((λ _. AllDifferent-below c.args.ids.now c.loop-k.k c.loop-k-test.false c.loop-k.invariant), (λ _. refl))
