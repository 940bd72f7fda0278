use Rattle.std.proofs.Common.{◌↔◌, ◌∙◌, [], ◌∷◌, ap, length, refl}
use Rattle.std.proofs.lemmas.Option.{slice_get_read}
use Rattle.kasa_graph.specs.Lists.{Has}
use Rattle.kasa_pre.specs.declared.Stand.{Stand}
use Rattle.kasa_columns.specs.Forward.{YieldsAt}
use Rattle.kasa_columns.proofs.StandLemmas.{StandExists-fits}
use Rattle.kasa_parallel.specs.Partners.{IsPartner}
use Rattle.kasa_parallel.specs.Sought.{IsParallelAsk}
use Rattle.kasa_parallel.proofs.StandLists.{none_more, none_at_all}
use Rattle.kasa_parallel.proofs.SearchLemmas.{length-different-asked, different_asked}
use Rattle.kasa_parallel.proofs.search.different_from.Goals as goal

pub partners-requires-clause-exists : goal.partners-requires-clause-exists
partners-requires-clause-exists g c = StandExists-fits c.search.inside.rule.now c.args.first.now c.search.inside.a (rw (← c.search.view_is) at c.requires.fits)

pub partners-requires-2-clause-exists : goal.partners-requires-2-clause-exists
partners-requires-2-clause-exists g c = StandExists-fits c.search.inside.rule.now c.args.first.now c.search.inside.a (rw (← c.search.view_is) at c.requires.fits)

pub different_with-requires-clause-count : goal.different_with-requires-clause-count
different_with-requires-clause-count g c =
    let ok : IsParallelAsk c.args.search.now = rw (← c.search.view_is) c.search.invariant in
    ap length c.requires.pattern ∙ length-different-asked c.args.search.now ok

pub different_with-requires-clause-first : goal.different_with-requires-clause-first
different_with-requires-clause-first g c = StandExists-fits c.args.search.now.rule c.args.first.now c.args.search.now.a c.requires.fits

pub different_with-requires-clause-second : goal.different_with-requires-clause-second
different_with-requires-clause-second g c =
    let here = rw c.deref-second-items.ensures.value at (slice_get_read c.deref-second-items.result.now _ c.loop-second.second-index c.second-item.result refl c.loop-second-test.true c.second-item.is) in
    let is = (c.in_ok-partners.ensures c.second-item.result).0 (c.loop-second.second-index, here) in
    rw (← c.search.view_is) (StandExists-fits c.search.inside.rule.now c.second-item.result c.search.inside.b is.fits)

pub different_with-requires-clause-thirds : goal.different_with-requires-clause-thirds
different_with-requires-clause-thirds g c third has =
    let is = (c.in_ok-thirds.ensures third).0 (rw c.as_slice.ensures.value at has) in
    rw (← c.search.view_is) (StandExists-fits c.search.inside.rule.now third c.search.inside.b is.fits)

pub loop-second-preserved : goal.loop-second-preserved
loop-second-preserved g c =
    let told = rw c.as_slice.ensures.value at c.in_ok-different_with.ensures in
    none_more (λ second. (third : Stand) × Has c.in_ok-thirds.thirds.items third × YieldsAt c.args.search.now.sig c.args.search.now.tables c.args.search.now.rule c.args.v.now (c.args.first.now ∷ second ∷ third ∷ []) []) c.deref-second-items.result.now c.loop-second.second-index c.second-item.result c.loop-second-test.true c.second-item.is c.loop-second.invariant (λ h. let yes = told.1 h in let out = c.if-branch.false in absurd cc)

pub returns : goal.returns
returns g c = (
  λ yes. absurd (let e = yes in cc),
  λ yw. absurd (
      let ok : IsParallelAsk c.args.search.now = rw (← c.search.view_is) c.search.invariant in
      let d = different_asked c.args.search.now ok c.args.v.now c.requires.pattern c.args.first.now yw in
      let seconds : (other : Stand) → Has c.in_ok-partners.field-0.items other ↔ IsPartner c.args.search.now.rule c.args.first.now c.args.search.now.x c.args.search.now.b c.args.search.now.y other = rw (← c.search.view_is) c.in_ok-partners.ensures in
      let thirds : (other : Stand) → Has c.in_ok-thirds.thirds.items other ↔ IsPartner c.args.search.now.rule c.args.first.now c.args.search.now.u c.args.search.now.b c.args.search.now.w other = rw (← c.search.view_is) c.in_ok-thirds.ensures in
      let second : Has c.deref-second-items.result.now d.0 = rw c.deref-second-items.ensures.value ((seconds d.0).1 d.2) in
      let third = (thirds d.1).1 d.3 in
      none_at_all (λ second. (third : Stand) × Has c.in_ok-thirds.thirds.items third × YieldsAt c.args.search.now.sig c.args.search.now.tables c.args.search.now.rule c.args.v.now (c.args.first.now ∷ second ∷ third ∷ []) []) c.deref-second-items.result.now c.loop-second.second-index c.loop-second-test.false c.loop-second.invariant d.0 second (d.1, third, d.4)),
)
