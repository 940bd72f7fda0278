use Rattle.std.proofs.Common.{◌≡◌, ◌<◌, length, ap, arith, below_more}
use Rattle.kasa_pre.specs.declared.Stand.TheVariants.{Made}
use Rattle.kasa_influence.specs.inner.Ask.{Asked}
use Rattle.kasa_influence.specs.inner.Makes.{MakesCreated}
use Rattle.kasa_influence.proofs.MakesLemmas.{makes-exists}
use Rattle.kasa_influence.proofs.makes.makes_created.Goals as goal

pub loop-k-preserved : goal.loop-k-preserved
loop-k-preserved g c =
    below_more (λ k. ¬ MakesCreated c.args.ask.now c.args.v.now k) c.loop-k.k c.loop-k.invariant (λ makes. let yes = c.in_ok-makes_at.ensures.1 makes in let no = c.if-branch.false in absurd cc)

pub returns : goal.returns
returns g c = (
  λ yes. absurd cc,
  λ found.
      let within : found.0 < length c.args.ask.now.rule.made = makes-exists c.args.ask.now c.args.v.now c.requires (Made found.0) found.1 in
      let made : length c.ask.inside.rule.now.made ≡ length c.args.ask.now.rule.made = ap (λ (x : Asked). length x.rule.made) c.ask.view_is in
      absurd (c.loop-k.invariant found.0 (let past = c.loop-k-test.false in let count = c.made-k-end.ensures.count in omega arith) found.1),
)
