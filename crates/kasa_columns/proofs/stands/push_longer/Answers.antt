use Rattle.std.proofs.Common.{[], ◌∷◌, ◌++◌, refl}
use Rattle.std.proofs.lemmas.Option.{slice_get_read}
use Rattle.kasa_families.specs.Family.{shape_of}
use Rattle.kasa_columns.specs.Stands.{IsWith}
use Rattle.kasa_columns.proofs.Pushing.{pushed_none, pushed_next, pushed_all, adds_one, adds_none}
use Rattle.kasa_columns.proofs.StandLemmas.{StandsExist-push}
use Rattle.kasa_columns.proofs.stands.push_longer.Goals.{then-follow_bonds+in_ok-push, else-follow_bonds}
use Rattle.kasa_columns.proofs.stands.push_longer.Goals as goal

pub loop-stand-init : goal.loop-stand-init
loop-stand-init c = pushed_none (IsWith c.args.rule.now (shape_of c.args.family.now).bonds c.args.first.now) _

pub follow_bonds-requires-clause-exist : goal.follow_bonds-requires-clause-exist
follow_bonds-requires-clause-exist c =
    let here = slice_get_read c.args.next.now _ c.loop-stand.stand-index c.stand-item.result refl c.loop-stand-test.true c.stand-item.is in
    rw (c.as_slice.ensures, c.in_ok-more.ensures)
    (StandsExist-push c.args.rule.now c.args.first.now c.stand-item.result c.requires.first (c.requires.next c.stand-item.result (c.loop-stand.stand-index, here)))

pub loop-stand-preserved : goal.loop-stand-preserved
loop-stand-preserved c =
    let told = rw (c.as_slice.ensures, c.in_ok-more.ensures) at c.follow_bonds.ensures in
    elim c.if-follow_bonds.branch [
      | then-follow_bonds+in_ok-push w ↦
          rw (w.all-is, w.in_ok-push.ensures.items, c.in_ok-more.ensures)
          (pushed_next (IsWith c.args.rule.now (shape_of c.args.family.now).bonds c.args.first.now) _ c.args.next.now c.loop-stand.stand-index c.loop-stand.all.items _ c.stand-item.result c.loop-stand-test.true c.stand-item.is c.loop-stand.invariant (adds_one (IsWith c.args.rule.now (shape_of c.args.family.now).bonds c.args.first.now) c.loop-stand.all.items c.stand-item.result (c.args.first.now ++ c.stand-item.result ∷ []) (refl, told.0 w.if-follow_bonds.true) (λ more q. q.0)))
      | else-follow_bonds w ↦
          rw w.all-is
          (pushed_next (IsWith c.args.rule.now (shape_of c.args.family.now).bonds c.args.first.now) _ c.args.next.now c.loop-stand.stand-index c.loop-stand.all.items _ c.stand-item.result c.loop-stand-test.true c.stand-item.is c.loop-stand.invariant (adds_none (IsWith c.args.rule.now (shape_of c.args.family.now).bonds c.args.first.now) c.loop-stand.all.items c.stand-item.result (λ more q. let yes = told.1 (rw q.0 at q.1) in let no = w.if-follow_bonds.false in absurd cc)))
    ]

pub returns : goal.returns
returns c = pushed_all (IsWith c.args.rule.now (shape_of c.args.family.now).bonds c.args.first.now) _ c.args.next.now c.loop-stand.stand-index c.loop-stand.all.items c.loop-stand-test.false c.loop-stand.invariant
