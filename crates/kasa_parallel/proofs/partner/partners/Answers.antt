use Rattle.std.proofs.Common.{refl}
use Rattle.kasa_parallel.specs.Partners.{IsPartner}
use Rattle.kasa_columns.proofs.Pushing.{pushed_none, pushed_next, pushed_all, from_all, adds_one, adds_none}
use Rattle.kasa_parallel.proofs.StandLists.{Takes, taken}
use Rattle.kasa_parallel.proofs.PartnerLemmas.{leads_partner}
use Rattle.kasa_parallel.proofs.partner.partners.Goals.{then-is_partner+in_ok-push, else-is_partner}
use Rattle.kasa_parallel.proofs.partner.partners.Goals as goal

pub loop-other-init : goal.loop-other-init
loop-other-init c = pushed_none (Takes (IsPartner c.args.rule.now c.args.one.now c.args.site c.args.agent c.args.«at»)) _

pub loop-other-preserved : goal.loop-other-preserved
loop-other-preserved c = elim c.if-is_partner.branch [
  | then-is_partner+in_ok-push w ↦
      rw (w.found-is, w.in_ok-push.ensures.items)
      (pushed_next (Takes (IsPartner c.args.rule.now c.args.one.now c.args.site c.args.agent c.args.«at»)) _ c.deref-other-items.result.now c.loop-other.other-index c.loop-other.found.items _ c.other-item.result c.loop-other-test.true c.other-item.is c.loop-other.invariant (adds_one (Takes (IsPartner c.args.rule.now c.args.one.now c.args.site c.args.agent c.args.«at»)) c.loop-other.found.items c.other-item.result c.other-item.result (refl, c.is_partner.ensures.0 w.if-is_partner.true) (λ z q. q.0)))
  | else-is_partner w ↦
      rw w.found-is
      (pushed_next (Takes (IsPartner c.args.rule.now c.args.one.now c.args.site c.args.agent c.args.«at»)) _ c.deref-other-items.result.now c.loop-other.other-index c.loop-other.found.items _ c.other-item.result c.loop-other-test.true c.other-item.is c.loop-other.invariant (adds_none (Takes (IsPartner c.args.rule.now c.args.one.now c.args.site c.args.agent c.args.«at»)) c.loop-other.found.items c.other-item.result (λ z q. let yes = c.is_partner.ensures.1 (rw q.0 at q.1) in let no_way = w.if-is_partner.false in absurd cc)))
]

pub returns : goal.returns
returns c =
    let all = from_all (Takes (IsPartner c.args.rule.now c.args.one.now c.args.site c.args.agent c.args.«at»)) c.deref-other-items.result.now c.loop-other.found.items (rw c.in_ok-found.ensures.items at (pushed_all (Takes (IsPartner c.args.rule.now c.args.one.now c.args.site c.args.agent c.args.«at»)) _ c.deref-other-items.result.now c.loop-other.other-index c.loop-other.found.items c.loop-other-test.false c.loop-other.invariant)) in
    let each = taken (IsPartner c.args.rule.now c.args.one.now c.args.site c.args.agent c.args.«at») c.deref-other-items.result.now c.loop-other.found.items all in
    λ other. (
      λ has. ((each other).0 has).1,
      λ is. (each other).1 (rw c.deref-other-items.ensures.value (c.in_ok-told.ensures other c.args.«at» is.fits (leads_partner c.args.rule.now c.args.site c.args.agent c.args.«at» c.args.one.now other is)), is),
    )
