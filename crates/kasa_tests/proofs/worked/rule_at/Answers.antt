use Rattle.std.proofs.Common.{◌≡◌, sym, length, refl}
use Rattle.std.specs.Prelude.{Some, slice_get}
use Rattle.std.proofs.lemmas.Bool.{ltb-true}
use Rattle.std.proofs.lemmas.Option.{slice_get_read}
use Rattle.kasa_tests.proofs.worked.rule_at.Goals as goal

pub returns-in-Some : goal.returns-in-Some
returns-in-Some c =
    let at : slice_get c.model.inside.rules c.args.number ≡ Some c.in-Some.rule.now = rw (← c.as_slice.ensures) (slice_get_read c.as_slice.result.now (length c.as_slice.result.now) c.args.number c.in-Some.rule.now refl (ltb-true _ _ (sym c.in-Some.ensures.lookup.0)) c.in-Some.ensures.lookup.1) in
    rw (← c.model.view_is) (c.model.invariant.0.rules c.args.number c.in-Some.rule.now at)
