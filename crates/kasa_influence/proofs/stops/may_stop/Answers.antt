use Rattle.std.proofs.Common.{◌≡◌, ◌↔◌, inl, inr, refl, ap, []}
use Rattle.std.specs.Prelude.{IsTrue}
use Rattle.std.proofs.lemmas.Result.{IfOk-weaker}
use Rattle.kasa_influence.specs.inner.Ask.{IsAsked}
use Rattle.kasa_influence.specs.inner.Stops.{Aimed, StopsOutside, MayStop}
use Rattle.kasa_influence.proofs.BrokenLemmas.{IsOne-target}
use Rattle.kasa_influence.proofs.StopsLemmas.{stops-left, stops-outside, stopped, takes_none, none_listed}
use Rattle.kasa_influence.proofs.stops.may_stop.Goals as goal

pub returns-then-branch : goal.returns-then-branch
returns-then-branch g c =
    let asked : IsAsked c.args.ask.now = rw (← c.ask.view_is) c.ask.invariant in
    (λ yes. let found = c.in_ok-stops_left.ensures.0 c.if-branch.true in stops-left c.args.ask.now asked c.args.target.now c.requires found.0 found.1, λ stops. refl)

pub stops_outside-requires : goal.stops_outside-requires
stops_outside-requires g c = rw (← c.target.view_is) at (IsOne-target c.args.ask.now.sig c.args.target.now c.requires)

pub returns : goal.returns
returns g c =
    let asked : IsAsked c.args.ask.now = rw (← c.ask.view_is) c.ask.invariant in
    let alone : c.target.inside.alone.now ≡ c.args.target.now.alone = ap (λ (t : Aimed). t.alone) c.target.view_is in
    IfOk-weaker c.stops_outside.result (λ b. IsTrue b ↔ StopsOutside c.args.ask.now c.args.target.now.alone) (λ b. IsTrue b ↔ MayStop c.args.ask.now c.args.target.now)
    (λ b tells. (
      λ yes. stops-outside c.args.ask.now asked c.args.target.now c.requires (tells.0 yes),
      λ stops. elim (stopped c.args.ask.now asked c.args.target.now c.requires stops) [
        | inl left ↦ absurd (let yes = c.in_ok-stops_left.ensures.1 left in let no = c.if-branch.false in cc)
        | inr outside ↦ tells.1 outside
      ],
    ))
    (rw alone at c.stops_outside.ensures)

pub returns-then-names_all : goal.returns-then-names_all
returns-then-names_all g c =
    let none : c.args.ask.now.open_sites ≡ [] = rw (← c.ask.view_is) (none_listed c.ask.inside.open_sites.now c.is_empty-names_all.result c.is_empty-names_all.ensures c.if-names_all.true) in
    let asked : IsAsked c.args.ask.now = rw (← c.ask.view_is) c.ask.invariant in (
      λ yes. absurd cc,
      λ stops. elim (stopped c.args.ask.now asked c.args.target.now c.requires stops) [
        | inl left ↦ absurd (let yes = c.in_ok-stops_left.ensures.1 left in let no = c.if-branch.false in cc)
        | inr outside ↦ absurd (takes_none c.args.ask.now asked c.args.target.now c.requires none outside)
      ],
    )
