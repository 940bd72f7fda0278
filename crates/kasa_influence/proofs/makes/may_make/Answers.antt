use Rattle.std.proofs.Common.{◌↔◌, inl, inr, refl}
use Rattle.std.specs.Prelude.{IsTrue}
use Rattle.std.proofs.lemmas.Result.{IfOk-weaker}
use Rattle.kasa_pre.specs.declared.Stand.TheVariants.{Left, Made, Outside}
use Rattle.kasa_influence.specs.inner.Makes.{MakesAt, MayMake}
use Rattle.kasa_influence.proofs.MakesLemmas.{makes-some}
use Rattle.kasa_influence.proofs.makes.may_make.Goals as goal

pub returns-then-branch : goal.returns-then-branch
returns-then-branch g c = (λ yes. let found = c.in_ok-makes_left.ensures.0 c.if-branch.true in (Left found.0, found.1), λ makes. refl)

pub returns-then-branch-2 : goal.returns-then-branch-2
returns-then-branch-2 g c = (λ yes. let found = c.in_ok-makes_created.ensures.0 c.if-branch-2.true in (Made found.0, found.1), λ makes. refl)

pub returns : goal.returns
returns g c =
    IfOk-weaker c.makes_at.result (λ b. IsTrue b ↔ MakesAt c.args.ask.now c.args.v.now Outside) (λ b. IsTrue b ↔ MayMake c.args.ask.now c.args.v.now)
    (λ b tells. (
      λ yes. (Outside, tells.0 yes),
      λ makes. elim (makes-some c.args.ask.now c.args.v.now c.requires makes) [
        | inl left ↦ absurd (let yes = c.in_ok-makes_left.ensures.1 left in let no = c.if-branch.false in cc)
        | inr (inl created) ↦ absurd (let yes = c.in_ok-makes_created.ensures.1 created in let no = c.if-branch-2.false in cc)
        | inr (inr outside) ↦ tells.1 outside
      ],
    ))
    c.makes_at.ensures
