use Rattle.std.proofs.Common.{◌≡◌, Some, length, refl, sym, ◌∙◌, arith, below_more}
use Rattle.std.specs.Prelude.{slice_get}
use Rattle.std.proofs.lemmas.Option.{slice_get_read, slice_get_within, same_Some}
use Rattle.kasa_graph.specs.Lists.{Has}
use Rattle.kasa_families.specs.declared.shape.NodeSite.{NodeSite}
use Rattle.kasa_influence.specs.inner.Ask.{IsAsked}
use Rattle.kasa_influence.specs.inner.Stops.{AllowsSome, HasPartner}
use Rattle.kasa_influence.proofs.stops.takes_at.Goals as goal

pub loop-x-preserved : goal.loop-x-preserved
loop-x-preserved g c =
    let here : slice_get c.args.ask.now.open_sites c.loop-x.x-index ≡ Some c.x-item.result = rw (← c.ask.view_is) (slice_get_read c.ask.inside.open_sites.now _ c.loop-x.x-index c.x-item.result refl c.loop-x-test.true c.x-item.is) in
    below_more (λ i. (x : NodeSite) → slice_get c.args.ask.now.open_sites i ≡ Some x → ¬ AllowsSome c.args.ask.now.sig c.args.ask.now.tables c.args.g.now (HasPartner c.args.v.now c.args.place c.args.site x)) c.loop-x.x-index c.loop-x.invariant
    (λ x at some.
    let same : c.x-item.result ≡ x = same_Some c.x-item.result x (sym here ∙ at) in
    let yes = c.in_ok-takes_from.ensures.1 (rw same some) in
    let no = c.if-branch.false in
    absurd cc)

pub returns : goal.returns
returns g c = (
  λ yes. absurd cc,
  λ (asks, untouched, found).
      let asked : IsAsked c.args.ask.now = rw (← c.ask.view_is) c.ask.invariant in
      let has : Has c.args.ask.now.open_sites found.0 = (asked.listed found.0).1 found.1.0 in
      let within = slice_get_within c.args.ask.now.open_sites has.0 found.0 has.1 in
      let count : length c.args.ask.now.open_sites ≡ length c.ask.inside.open_sites.now = rw (← c.ask.view_is) refl in
      absurd (c.loop-x.invariant has.0 (let past = c.loop-x-test.false in omega arith) found.0 has.1 found.1.1),
)
