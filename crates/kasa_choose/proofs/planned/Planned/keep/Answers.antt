use Rattle.std.proofs.Common.{◌≡◌, ◌∙◌, sym, subst, arith}
use Rattle.kasa_choose.specs.Kept.{keep}
use Rattle.kasa_choose.proofs.Keys.{keep_by}
use Rattle.kasa_choose.proofs.planned.Planned.keep.Goals as goal
use Rattle.kasa_choose.proofs.planned.Planned.keep.Goals.{then-branch+in_ok-push, else-branch}

pub returns : goal.returns
returns c =
    let kept = keep_by c.self.inside.keys.keys c.self.inside.families.items c.in_ok-numbers.numbers c.args.family c.in_ok-insert.field-0 c.self.invariant (omega (arith, c.len.ensures, c.if-len-gt-MOST.false)) c.in_ok-numbers.ensures c.in_ok-insert.ensures.added in
    elim c.if-branch.branch [
      | then-branch+in_ok-push w ↦ rw w.self-is (subst (λ fs. w.push.new.self.items ≡ keep fs c.args.family) c.self.view_is (w.in_ok-push.ensures.items ∙ sym (rw w.if-branch.true at kept)))
      | else-branch w ↦ rw w.self-is (subst (λ fs. c.self.inside.families.items ≡ keep fs c.args.family) c.self.view_is (sym (rw w.if-branch.false at kept)))
    ]
