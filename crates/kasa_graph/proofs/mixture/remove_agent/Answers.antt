use Rattle.std.proofs.Common.{◌≡◌, ◌≤◌, length, sym, ◌∙◌, refl, arith}
use Rattle.std.specs.Prelude.{Some, slice_get}
use Rattle.std.proofs.lemmas.Option.{slice_get_read, some_pair_parts}
use Rattle.kasa_graph.specs.Mixture.{partner_in}
use Rattle.kasa_graph.proofs.CellLemmas.{alive_bound, partner_in-of}
use Rattle.kasa_graph.proofs.RemoveLemmas.{IsFreeing-start, IsFreeing-skip, IsFreeing-free, IsFreeing-end, partner_has_site}
use Rattle.kasa_graph.proofs.mixture.remove_agent.Goals as goal
use Rattle.kasa_graph.proofs.mixture.remove_agent.Goals.{in-Some-partner+then-d-c, in-Some-partner+else-d-c, in_default-partner}

pub take_agent-requires : goal.take_agent-requires
take_agent-requires c = alive_bound c.args.cells.now c.args.c c.requires.alive

pub loop-site-init : goal.loop-site-init
loop-site-init c = rw c.take_agent.ensures.emptied (IsFreeing-start c.args.cells.now c.args.c)

pub put_partner-requires : goal.put_partner-requires
put_partner-requires c =
    let at : slice_get c.in-Some.agent.sites c.loop-site.site-index ≡ Some c.site-item.result =
    rw (← c.as_slice-site-items.ensures) (slice_get_read c.as_slice-site-items.result.now _ c.loop-site.site-index c.site-item.result refl c.loop-site-test.true c.site-item.is) in
    let bound : partner_in c.args.cells.now c.args.c c.loop-site.site-index ≡ Some (c.in-Some-partner.d, c.in-Some-partner.t) =
    partner_in-of _ _ _ _ _ (sym c.in-Some.ensures.taken) at ∙ c.in-Some-partner.is in
    rw c.t.view_is (partner_has_site _ _ _ _ _ _ c.requires.linked bound c.if-d-c.true c.loop-site.invariant)

pub loop-site-preserved : goal.loop-site-preserved
loop-site-preserved c =
    let at : slice_get c.in-Some.agent.sites c.loop-site.site-index ≡ Some c.site-item.result =
    rw (← c.as_slice-site-items.ensures) (slice_get_read c.as_slice-site-items.result.now _ c.loop-site.site-index c.site-item.result refl c.loop-site-test.true c.site-item.is) in
    let partner : partner_in c.args.cells.now c.args.c c.loop-site.site-index ≡ c.site-item.result.partner = partner_in-of _ _ _ _ _ (sym c.in-Some.ensures.taken) at in
    elim c.match-site.branch [
      | in-Some-partner+then-d-c w ↦ rw (w.cells-is, w.put_partner.ensures, w.t.view_is) (IsFreeing-free _ _ _ _ _ _ c.requires.linked (partner ∙ w.in-Some-partner.is) w.if-d-c.true c.loop-site.invariant)
      | in-Some-partner+else-d-c w ↦ rw w.cells-is (IsFreeing-skip _ _ _ _ c.requires.linked (λ d t e. sym (some_pair_parts w.in-Some-partner.d d w.in-Some-partner.t t (sym w.in-Some-partner.is ∙ sym partner ∙ e)).0 ∙ w.if-d-c.false) c.loop-site.invariant)
      | in_default-partner w ↦ rw w.cells-is (IsFreeing-skip _ _ _ _ c.requires.linked (λ d t e. absurd (w.in_default-partner.not-Some (d, t) (sym partner ∙ e))) c.loop-site.invariant)
    ]

pub returns : goal.returns
returns c =
    let all : length c.in-Some.agent.sites ≤ c.loop-site.site-index = rw (← c.as_slice-site-items.ensures) (omega arith) in
    IsFreeing-end _ _ _ _ _ c.requires.linked (sym c.in-Some.ensures.taken) all c.loop-site.invariant
