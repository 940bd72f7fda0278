use Rattle.std.proofs.Common.{◌≡◌, inl, inr, ap, ◌∙◌}
use Rattle.std.proofs.lemmas.Result.{IfOk-weaker}
use Rattle.kasa_graph.specs.Pattern.{agent_at}
use Rattle.kasa_influence.specs.inner.Ask.{Asked}
use Rattle.kasa_influence.specs.inner.Stops.{Aimed, BreaksLeft}
use Rattle.kasa_influence.proofs.BrokenLemmas.{IsOne-target}
use Rattle.kasa_influence.proofs.stops.stops_at.Goals as goal

pub has_type_of-requires-clause-one : goal.has_type_of-requires-clause-one
has_type_of-requires-clause-one g c = (rw (← c.target.view_is) at (IsOne-target c.args.ask.now.sig c.args.target.now c.requires.target)).one

pub returns-then-not-has_type_of : goal.returns-then-not-has_type_of
returns-then-not-has_type_of g c = rw (← c.ask.view_is, ← c.target.view_is) (λ yes. absurd cc, λ stops. absurd (let yes = c.has_type_of.ensures.1 stops.0 in let no = c.if-not-has_type_of.true in cc))

pub breaks_at-requires-clause-typed : goal.breaks_at-requires-clause-typed
breaks_at-requires-clause-typed g c = rw (← c.ask.view_is, ← c.target.view_is) (c.has_type_of.ensures.0 c.if-not-has_type_of.false)

pub takes-requires-clause-one : goal.takes-requires-clause-one
takes-requires-clause-one g c = rw (← c.target.view_is) at (IsOne-target c.args.ask.now.sig c.args.target.now c.requires.target)

pub returns : goal.returns
returns g c =
    let left : c.left.result.now ≡ c.args.ask.now.rule.left = c.left.ensures.pattern ∙ ap (λ (a : Asked). a.rule.left) c.ask.view_is in
    let alone : c.target.inside.alone.now ≡ c.args.target.now.alone = ap (λ (t : Aimed). t.alone) c.target.view_is in
    let typed : agent_at c.args.ask.now.rule.left c.args.n ≡ agent_at c.args.target.now.alone 0 = rw (← c.ask.view_is, ← c.target.view_is) (c.has_type_of.ensures.0 c.if-not-has_type_of.false) in
    let kept : ¬ BreaksLeft c.args.ask.now c.args.target.now c.args.n = λ breaks. let yes = c.in_ok-breaks_at.ensures.1 breaks in let no = c.if-branch.false in cc in
    IfOk-weaker c.takes.result _ _
    (λ b tells. (λ yes. (typed, inr (tells.0 yes)), λ stops. elim stops.1 [ inl breaks ↦ absurd (kept breaks) | inr taken ↦ tells.1 taken ]))
    (rw (left, alone) at c.takes.ensures)
