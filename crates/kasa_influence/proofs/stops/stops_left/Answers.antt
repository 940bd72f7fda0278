use Rattle.std.proofs.Common.{◌≡◌, length, ap, ◌∙◌, arith, below_more}
use Rattle.std.specs.Prelude.{Some}
use Rattle.kasa_graph.specs.Pattern.{agent_at}
use Rattle.kasa_influence.specs.inner.Ask.{Asked}
use Rattle.kasa_influence.specs.inner.Stops.{StopsLeft}
use Rattle.kasa_influence.proofs.OneLemmas.{the_type}
use Rattle.kasa_influence.proofs.BrokenLemmas.{IsOne-target, node_within}
use Rattle.kasa_influence.proofs.stops.stops_left.Goals as goal

pub loop-n-preserved : goal.loop-n-preserved
loop-n-preserved g c =
    below_more (λ k. ¬ StopsLeft c.args.ask.now c.args.target.now k) c.loop-n.n c.loop-n.invariant (λ stops. let yes = c.in_ok-stops_at.ensures.1 stops in let no = c.if-branch.false in absurd cc)

pub returns : goal.returns
returns g c = (
  λ yes. absurd cc,
  λ found.
      let a = the_type c.args.ask.now.sig c.args.target.now.alone (IsOne-target c.args.ask.now.sig c.args.target.now c.requires) in
      let typed : agent_at c.args.ask.now.rule.left found.0 ≡ Some a.0 = found.1.0 ∙ a.1 in
      let within = node_within c.args.ask.now.sig c.args.ask.now.rule.left found.0 a.0 typed in
      let left : length c.left.result.now ≡ length c.args.ask.now.rule.left = ap length c.left.ensures.pattern ∙ ap (λ (x : Asked). length x.rule.left) c.ask.view_is in
      absurd (c.loop-n.invariant found.0 (let past = c.loop-n-test.false in let count = c.nodes-n-end.ensures.count in omega arith) found.1),
)
