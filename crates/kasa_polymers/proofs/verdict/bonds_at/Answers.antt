use Rattle.std.proofs.Common.{get_or, take, refl}
use Rattle.std.proofs.lemmas.Option.{slice_get_read}
use Rattle.std.proofs.lemmas.List.{take_more}
use Rattle.kasa_digraph.proofs.Lists.{in_at}
use Rattle.kasa_polymers.proofs.BoundLemmas.{AreAt-push}
use Rattle.kasa_polymers.proofs.verdict.bonds_at.Goals as goal

pub bounds-points-number : goal.bounds-points-number
bounds-points-number c = c.requires (get_or c.args.numbers.now c.loop-number.number-index 0) (in_at c.args.numbers.now c.loop-number.number-index c.loop-number-test.true)

pub loop-number-preserved : goal.loop-number-preserved
loop-number-preserved c =
    let k = c.loop-number.number-index in
    let numbers = c.args.numbers.now in
    let within = c.requires (get_or numbers k 0) (in_at numbers k c.loop-number-test.true) in
    let at = slice_get_read c.args.points.now _ (get_or numbers k 0) c.index-points-number.result refl within c.index-points-number.is in
    record { at = rw (take_more numbers k 0 c.loop-number-test.true, c.in_ok-push.ensures.items) (AreAt-push c.args.points.now (take k numbers) c.loop-number.bonds.items (get_or numbers k 0) c.index-points-number.result c.loop-number.invariant.at at) }
