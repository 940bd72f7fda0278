use Rattle.std.proofs.Common.{◌≡◌, ◌<◌, length, refl, sym, ◌∙◌, arith}
use Rattle.std.specs.Prelude.{Some, slice_get}
use Rattle.std.proofs.lemmas.Option.{slice_get_read}
use Rattle.kasa_pre.proofs.StandsLoops.{FitBelow-next, AreStands-below}
use Rattle.kasa_pre.proofs.stands.are_stands.Goals as goal

pub loop-i-preserved : goal.loop-i-preserved
loop-i-preserved c =
    let within : c.loop-i.i < length c.args.stands.now = let count = c.requires.count in let below = c.loop-i-test.true in let nodes = c.nodes-i-end.ensures.count in omega arith in
    let at : slice_get c.args.stands.now c.loop-i.i ≡ Some c.index-stands-i.result = slice_get_read c.args.stands.now _ c.loop-i.i c.index-stands-i.result refl within c.index-stands-i.is in
    let at' : slice_get c.args.stands.now c.loop-i.i ≡ Some c.index-stands-i-else-is_taken.result = slice_get_read c.args.stands.now _ c.loop-i.i c.index-stands-i-else-is_taken.result refl within c.index-stands-i-else-is_taken.is in
    let same : c.index-stands-i-else-is_taken.result ≡ c.index-stands-i.result = let e = sym at' ∙ at in cc in
    FitBelow-next c.args.rule.now c.args.v.now c.args.stands.now c.loop-i.i c.agent.result c.index-stands-i.result at c.agent.ensures
    (λ taken. let yes' = c.is_taken.ensures.1 taken in let against = c.if-is_taken.false in cc)
    (rw same at (c.fits_stand.ensures.0 c.if-not-fits_stand.false)) c.loop-i.invariant

pub returns : goal.returns
returns c = (
  λ _. AreStands-below c.args.rule.now c.args.v.now c.args.stands.now c.loop-i.i c.requires.count (omega arith) c.loop-i.invariant,
  λ _. refl,
)
