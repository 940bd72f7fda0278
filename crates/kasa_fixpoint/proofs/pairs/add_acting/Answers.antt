use Rattle.std.proofs.Common.{◌≡◌, length, arith, ap, refl, ◌∙◌}
use Rattle.std.specs.Prelude.{Some, slice_get}
use Rattle.std.proofs.lemmas.Option.{slice_get_read}
use Rattle.kasa_rules.specs.declared.model.Model.{Model}
use Rattle.kasa_fixpoint.proofs.PairLemmas.{AreActingBefore-push, AreActingBefore-skip, AreActingBefore-rule, acting_at, acting_there}
use Rattle.kasa_fixpoint.proofs.pairs.add_acting.Goals as goal
use Rattle.kasa_fixpoint.proofs.pairs.add_acting.Goals.{then-acts_on+in_ok-push, else-acts_on}

pub loop-f-preserved : goal.loop-f-preserved
loop-f-preserved c =
    let items = c.as_slice.ensures ∙ ap (λ (m : Model). m.rules) c.model.view_is in
    let ruled : slice_get c.args.model.now.rules c.args.k ≡ Some c.index-as_slice-k.result = rw items at (slice_get_read c.as_slice.result.now _ c.args.k c.index-as_slice-k.result refl (rw (← items) at c.requires.rule) c.index-as_slice-k.is) in
    let named : slice_get c.args.families.now c.loop-f.f ≡ Some c.index-families-f.result = slice_get_read c.args.families.now _ c.loop-f.f c.index-families-f.result refl c.loop-f-test.true c.index-families-f.is in
    elim c.if-acts_on.branch [
      | then-acts_on+in_ok-push w ↦ rw w.pairs-is (rw w.in_ok-push.ensures.items (AreActingBefore-push c.args.model.now c.args.families.now c.args.k c.loop-f.f c.loop-f.pairs.items c.loop-f.invariant
          (acting_at c.args.model.now c.args.families.now c.args.k c.loop-f.f c.index-as_slice-k.result c.index-families-f.result ruled named (c.acts_on.ensures.0 w.if-acts_on.true))))
      | else-acts_on w ↦ rw w.pairs-is (AreActingBefore-skip c.args.model.now c.args.families.now c.args.k c.loop-f.f c.loop-f.pairs.items c.loop-f.invariant
          (λ acts. let yes = c.acts_on.ensures.1 (acting_there c.args.model.now c.args.families.now c.args.k c.loop-f.f c.index-as_slice-k.result c.index-families-f.result ruled named acts) in let no = w.if-acts_on.false in cc))
    ]

pub returns : goal.returns
returns c =
    let first = c.loop-f.auto.f-end in
    let last = c.loop-f-test.false in
    let all : c.loop-f.f ≡ length c.args.families.now = omega arith in
    AreActingBefore-rule c.args.model.now c.args.families.now c.args.k c.loop-f.pairs.items (rw all at c.loop-f.invariant)
