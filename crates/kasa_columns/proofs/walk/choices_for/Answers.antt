use Rattle.std.proofs.Common.{inr, refl, sym, ◌∙◌, subst, arith, below_more}
use Rattle.std.proofs.lemmas.Option.{slice_get_read, slice_get_within, same_Some}
use Rattle.kasa_families.specs.Family.{shape_of}
use Rattle.kasa_columns.specs.Forward.{LeavesBonds}
use Rattle.kasa_columns.proofs.StandLemmas.{StandsExist-fit}
use Rattle.kasa_columns.proofs.walk.choices_for.Goals as goal

pub leaves_bonds-requires-clause-exist : goal.leaves_bonds-requires-clause-exist
leaves_bonds-requires-clause-exist g c =
    let here = slice_get_read c.args.all.now _ c.loop-stands.stands-index c.stands-item.result refl c.loop-stands-test.true c.stands-item.is in
    let fit = rw (← c.search.view_is) at (c.requires.fit c.stands-item.result (c.loop-stands.stands-index, here)) in
    rw c.as_slice.ensures (StandsExist-fit c.search.inside.rule.now c.stands-item.result (shape_of c.search.inside.family.now).types fit)

pub loop-stands-preserved : goal.loop-stands-preserved
loop-stands-preserved g c =
    let here = slice_get_read c.args.all.now _ c.loop-stands.stands-index c.stands-item.result refl c.loop-stands-test.true c.stands-item.is in
    let leaves : LeavesBonds c.args.search.now.rule (shape_of c.args.search.now.family).bonds c.stands-item.result = rw (← c.search.view_is, ← c.as_slice.ensures) (c.leaves_bonds.ensures.0 c.if-not-leaves_bonds.false) in
    below_more _ c.loop-stands.stands-index c.loop-stands.invariant
    (λ stands there. subst (LeavesBonds c.args.search.now.rule (shape_of c.args.search.now.family).bonds) (same_Some c.stands-item.result stands (sym here ∙ there)) leaves)

pub returns : goal.returns
returns g c = inr (λ stands has. let within = slice_get_within c.args.all.now has.0 stands has.1 in let past = c.loop-stands-test.false in c.loop-stands.invariant has.0 (omega arith) stands has.1)
