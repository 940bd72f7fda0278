use Rattle.std.proofs.Common.{sym, ap, ◌∙◌, arith}
use Rattle.std.proofs.lemmas.Result.{IfOk-weaker}
use Rattle.std.proofs.lemmas.Slice.Zip.{AllZip-long}
use Rattle.kasa_families.specs.declared.row.Row.TheVariants.{Locals}
use Rattle.kasa_columns.specs.Along.{LeavesColumns}
use Rattle.kasa_columns.specs.Ask.{Ask, IsAsk, stored}
use Rattle.kasa_columns.specs.Plan.{AreAfter, HasNoFreeing, IsUnmet}
use Rattle.kasa_columns.proofs.PlanLemmas.{on_false, comes_kept, unmet-agrees}
use Rattle.kasa_columns.proofs.WalkLemmas.{few_columns, idle_settled, kept_settled}
use Rattle.kasa_columns.proofs.walk.try_row.Goals.{then-is_full-via-then-is_full, then-is_full-via-else-is_full+then-not-meets_all}
use Rattle.kasa_columns.proofs.walk.try_row.Goals as goal

pub returns-then-is_full-clause-settled : goal.returns-then-is_full-clause-settled
returns-then-is_full-clause-settled g c agrees out comes valid yields = elim c.then-is_full.branch [
  | then-is_full-via-then-is_full w ↦ let full = rw w.if-is_full.true at c.is_full.ensures in full (Locals out.locals)
  | then-is_full-via-else-is_full+then-not-meets_all w ↦
      let unmet : IsUnmet c.args.plan.now.asked.items c.args.shown.now = rw w.as_slice.ensures.value at (on_false w.meets_all.result (λ yes. let no = w.if-not-meets_all.true in absurd cc) w.meets_all.ensures) in
      absurd (unmet-agrees c.args.search.now.rule c.args.stands.now c.args.search.now.columns c.args.plan.now.asked.items c.args.shown.now c.requires.plan.asked unmet agrees)
]

pub may_be_freed-requires : goal.may_be_freed-requires
may_be_freed-requires g c = record { count = rw c.as_slice-2.ensures.value (AllZip-long _ c.args.search.now.columns c.args.plan.now.effects.items c.requires.plan.effects ∙ sym c.requires.count) }

pub returns-then-wants_new-clause-settled : goal.returns-then-wants_new-clause-settled
returns-then-wants_new-clause-settled g c =
    let ok : IsAsk c.args.search.now = rw (← c.search.view_is) c.search.invariant in
    let no : HasNoFreeing c.args.links.now c.args.plan.now.effects.items c.args.shown.now = rw (c.if-may_be_freed.false, c.as_slice-2.ensures.value) at c.may_be_freed.ensures in
    let leaves : LeavesColumns c.args.search.now.rule c.args.search.now.columns c.args.stands.now = rw c.if-plan.true at c.requires.plan.idle in
    let wants = rw (c.if-wants_new.true, ap (λ (a : Ask). a.aim) c.search.view_is) at c.wants_new.ensures in
    λ agrees. idle_settled c.args.search.now ok c.args.stands.now c.args.links.now c.requires.links c.args.plan.now.effects.items c.requires.plan.effects c.args.shown.now no _ leaves (wants (stored c.args.search.now) _) c.requires.stored

pub kept-locals-requires-clause-few : goal.kept-locals-requires-clause-few
kept-locals-requires-clause-few g c =
    let ok : IsAsk c.args.search.now = rw (← c.search.view_is) c.search.invariant in
    let few = few_columns c.args.search.now ok in
    let count = c.requires.count in
    omega arith

pub kept-locals-requires-clause-count : goal.kept-locals-requires-clause-count
kept-locals-requires-clause-count g c = rw c.as_slice-3.ensures.value (AllZip-long _ c.args.search.now.columns c.args.plan.now.effects.items c.requires.plan.effects ∙ sym c.requires.count)

pub try_locals-requires-clause-comes : goal.try_locals-requires-clause-comes
try_locals-requires-clause-comes g c =
    let after : AreAfter c.args.plan.now.effects.items c.args.shown.now c.kept-locals.result = rw c.as_slice-3.ensures.value at c.kept-locals.ensures.after in
    (c.args.shown.now, comes_kept c.args.search.now.rule c.args.stands.now c.args.search.now.columns c.args.plan.now.effects.items c.args.shown.now c.kept-locals.result c.requires.plan.effects c.requires.count c.kept-locals.ensures.count after)

pub returns-clause-settled : goal.returns-clause-settled
returns-clause-settled g c =
    let ok : IsAsk c.args.search.now = rw (← c.search.view_is) c.search.invariant in
    let no : HasNoFreeing c.args.links.now c.args.plan.now.effects.items c.args.shown.now = rw (c.if-may_be_freed.false, c.as_slice-2.ensures.value) at c.may_be_freed.ensures in
    let after : AreAfter c.args.plan.now.effects.items c.args.shown.now c.kept-locals.result = rw c.as_slice-3.ensures.value at c.kept-locals.ensures.after in
    IfOk-weaker c.try_locals.result _ _ (λ done settled agrees. kept_settled c.args.search.now ok c.args.stands.now c.args.links.now c.requires.links c.args.plan.now.effects.items c.requires.plan.effects c.args.shown.now no _ c.kept-locals.result c.kept-locals.ensures.count after settled) c.try_locals.ensures.settled
