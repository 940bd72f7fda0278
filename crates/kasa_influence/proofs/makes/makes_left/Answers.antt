use Rattle.std.proofs.Common.{◌≡◌, ◌<◌, length, ap, ◌∙◌, arith, below_more}
use Rattle.kasa_pre.specs.declared.Stand.TheVariants.{Left}
use Rattle.kasa_influence.specs.inner.Ask.{Asked}
use Rattle.kasa_influence.specs.inner.Makes.{MakesLeft}
use Rattle.kasa_influence.proofs.MakesLemmas.{makes-exists}
use Rattle.kasa_influence.proofs.makes.makes_left.Goals as goal

pub loop-n-preserved : goal.loop-n-preserved
loop-n-preserved g c =
    below_more (λ k. ¬ MakesLeft c.args.ask.now c.args.v.now k) c.loop-n.n c.loop-n.invariant (λ makes. let yes = c.in_ok-makes_at.ensures.1 makes in let no = c.if-branch.false in absurd cc)

pub returns : goal.returns
returns g c = (
  λ yes. absurd cc,
  λ found.
      let within : found.0 < length c.args.ask.now.rule.left = makes-exists c.args.ask.now c.args.v.now c.requires (Left found.0) found.1 in
      let left : length c.left.result.now ≡ length c.args.ask.now.rule.left = ap length c.left.ensures.pattern ∙ ap (λ (x : Asked). length x.rule.left) c.ask.view_is in
      absurd (c.loop-n.invariant found.0 (let past = c.loop-n-test.false in let count = c.nodes-n-end.ensures.count in omega arith) found.1),
)
