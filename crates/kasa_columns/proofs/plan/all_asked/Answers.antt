use Rattle.std.proofs.Common.{◌≡◌, inl, inr, refl, ap, length, Some}
use Rattle.std.specs.Prelude.{slice_get}
use Rattle.std.proofs.lemmas.Option.{slice_get_read}
use Rattle.kasa_families.specs.declared.shape.NodeSite.{NodeSite}
use Rattle.kasa_families.proofs.ColumnLemmas.{to_nth}
use Rattle.kasa_columns.specs.Plan.{IsAskedAt}
use Rattle.kasa_columns.proofs.Pushing.{last_of}
use Rattle.kasa_columns.proofs.plan.all_asked.Goals.{in-Some+in_ok-push, in_default}
use Rattle.kasa_columns.proofs.plan.all_asked.Goals as goal

pub loop-k-preserved : goal.loop-k-preserved
loop-k-preserved c =
    let column : slice_get c.args.columns.now c.loop-k.k ≡ Some c.index-columns-k.result = slice_get_read c.args.columns.now (length c.args.columns.now) c.loop-k.k c.index-columns-k.result refl c.loop-k-test.true c.index-columns-k.is in
    let stood : slice_get c.args.stands.now c.index-columns-k.result.node ≡ Some c.index-stands-column.result = slice_get_read c.args.stands.now (length c.args.stands.now) c.index-columns-k.result.node c.index-stands-column.result refl (c.requires.nodes c.loop-k.k c.index-columns-k.result column) (rw (ap (λ (s : NodeSite). s.node) c.column.view_is) at c.index-stands-column.is) in
    let site = ap (λ (s : NodeSite). s.site) c.column.view_is in
    elim c.match-asked_at.branch [
      | in-Some+in_ok-push w ↦
          let meets = rw (w.in-Some.is, site) at c.asked_at.ensures.asked in
          let new : IsAskedAt c.args.rule.now c.args.stands.now c.args.columns.now (record { column = c.loop-k.k; state = w.in-Some.ask.state; link = w.in-Some.ask.link }) = (c.index-columns-k.result, column, to_nth c.args.stands.now c.index-columns-k.result.node _ c.index-stands-column.result stood meets) in
          rw (w.asked-is, w.in_ok-push.ensures.items)
          (λ q has. elim (last_of c.loop-k.asked.items _ q has) [ inl old ↦ c.loop-k.invariant q old | inr e ↦ rw e new ])
      | in_default w ↦ rw w.asked-is c.loop-k.invariant
    ]
