use Rattle.std.proofs.Common.{◌≡◌, ◌↔◌, ◌∙◌, [], ◌∷◌, sym, ap, length, arith}
use Rattle.kasa_graph.specs.Lists.{Has}
use Rattle.kasa_pre.specs.declared.Stand.{Stand}
use Rattle.kasa_columns.specs.Forward.{YieldsAt}
use Rattle.kasa_columns.proofs.StandLemmas.{StandExists-fits}
use Rattle.kasa_parallel.specs.Partners.{IsPartner}
use Rattle.kasa_parallel.specs.Sought.{IsParallelAsk}
use Rattle.kasa_parallel.proofs.PartnerLemmas.{exist_two}
use Rattle.kasa_parallel.proofs.StandLists.{none_more, none_at_all}
use Rattle.kasa_parallel.proofs.SearchLemmas.{length-same-asked, same_asked}
use Rattle.kasa_parallel.proofs.search.same_from.Goals.{else-is_partner-via-then-is_partner+in_ok-stood+else-branch, else-is_partner-via-else-is_partner}
use Rattle.kasa_parallel.proofs.search.same_from.Goals as goal

pub partners-requires-clause-exists : goal.partners-requires-clause-exists
partners-requires-clause-exists g c = StandExists-fits c.search.inside.rule.now c.args.first.now c.search.inside.a (rw (← c.search.view_is) at c.requires.fits)

pub is_partner-requires-clause-exists : goal.is_partner-requires-clause-exists
is_partner-requires-clause-exists g c = StandExists-fits c.search.inside.rule.now c.args.first.now c.search.inside.a (rw (← c.search.view_is) at c.requires.fits)

pub stood-requires-clause-count : goal.stood-requires-clause-count
stood-requires-clause-count g c =
    let ok : IsParallelAsk c.args.search.now = rw (← c.search.view_is) c.search.invariant in
    sym (ap length c.requires.pattern ∙ length-same-asked c.args.search.now ok)

pub stood-requires-clause-few : goal.stood-requires-clause-few
stood-requires-clause-few g c =
    let ok : IsParallelAsk c.args.search.now = rw (← c.search.view_is) c.search.invariant in
    let count : length c.args.v.now ≡ 2 = ap length c.requires.pattern ∙ length-same-asked c.args.search.now ok in
    omega arith

pub stood-requires-clause-exist : goal.stood-requires-clause-exist
stood-requires-clause-exist g c =
    let is = c.is_partner.ensures.0 c.if-is_partner.true in
    rw (← c.search.view_is) (exist_two c.search.inside.rule.now c.args.first.now c.second-item.result (StandExists-fits c.search.inside.rule.now c.args.first.now c.search.inside.a (rw (← c.search.view_is) at c.requires.fits)) (StandExists-fits c.search.inside.rule.now c.second-item.result c.search.inside.b is.fits))

pub loop-second-preserved : goal.loop-second-preserved
loop-second-preserved g c =
    none_more (λ second. IsPartner c.args.search.now.rule c.args.first.now c.args.search.now.u c.args.search.now.b c.args.search.now.w second × YieldsAt c.args.search.now.sig c.args.search.now.tables c.args.search.now.rule c.args.v.now (c.args.first.now ∷ second ∷ []) []) c.deref-second-items.result.now c.loop-second.second-index c.second-item.result c.loop-second-test.true c.second-item.is c.loop-second.invariant (λ h. elim c.else-is_partner.branch [
      | else-is_partner-via-then-is_partner+in_ok-stood+else-branch w ↦ let yes = w.in_ok-stood.ensures.1 h.1 in let out = w.if-branch.false in absurd cc
      | else-is_partner-via-else-is_partner w ↦ let yes = c.is_partner.ensures.1 (rw (← c.search.view_is) at h.0) in let out = w.if-is_partner.false in absurd cc
    ])

pub returns : goal.returns
returns g c = (
  λ yes. absurd (let e = yes in cc),
  λ yw. absurd (
      let ok : IsParallelAsk c.args.search.now = rw (← c.search.view_is) c.search.invariant in
      let d = same_asked c.args.search.now ok c.args.v.now c.requires.pattern c.args.first.now yw in
      let each : (other : Stand) → Has c.in_ok-partners.field-0.items other ↔ IsPartner c.args.search.now.rule c.args.first.now c.args.search.now.x c.args.search.now.b c.args.search.now.y other = rw (← c.search.view_is) c.in_ok-partners.ensures in
      let second : Has c.deref-second-items.result.now d.0 = rw c.deref-second-items.ensures.value ((each d.0).1 d.1) in
      none_at_all (λ second. IsPartner c.args.search.now.rule c.args.first.now c.args.search.now.u c.args.search.now.b c.args.search.now.w second × YieldsAt c.args.search.now.sig c.args.search.now.tables c.args.search.now.rule c.args.v.now (c.args.first.now ∷ second ∷ []) []) c.deref-second-items.result.now c.loop-second.second-index c.loop-second-test.false c.loop-second.invariant d.0 second (d.2, d.3)),
)
