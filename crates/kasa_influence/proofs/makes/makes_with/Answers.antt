use Rattle.std.proofs.Common.{◌↔◌}
use Rattle.std.proofs.lemmas.Result.{IfOk-weaker}
use Rattle.std.specs.Prelude.{IsTrue}
use Rattle.kasa_influence.specs.Gain.{Makes}
use Rattle.kasa_influence.specs.inner.Makes.{CanFollow}
use Rattle.kasa_influence.proofs.MakesLemmas.{makes-parts, makes-follows}
use Rattle.kasa_influence.proofs.makes.makes_with.Goals as goal

pub returns-then-not-is_gained : goal.returns-then-not-is_gained
returns-then-not-is_gained g c = (λ yes. absurd cc, λ makes. absurd (let yes = c.is_gained.ensures.1 makes.gained in let no = c.if-not-is_gained.true in cc))

pub returns : goal.returns
returns g c =
    IfOk-weaker c.can_follow.result (λ b. IsTrue b ↔ CanFollow c.args.ask.now c.args.v.now c.args.stand.now c.args.freed.now) (λ b. IsTrue b ↔ Makes c.args.ask.now.sig c.args.ask.now.tables c.args.ask.now.rule c.args.v.now c.args.stand.now c.args.freed.now)
    (λ b tells. (
      λ yes. makes-parts c.args.ask.now c.args.v.now c.args.stand.now c.args.freed.now c.requires.free (c.is_gained.ensures.0 c.if-not-is_gained.false) (tells.0 yes),
      λ makes. tells.1 (makes-follows c.args.ask.now c.args.v.now c.args.stand.now c.args.freed.now makes),
    ))
    c.can_follow.ensures
