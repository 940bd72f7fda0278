use Rattle.std.proofs.Common.{◌≡◌, refl, sym, ap, ◌∙◌, Some, []}
use Rattle.std.specs.Prelude.{slice_get}
use Rattle.std.specs.Option.{option_copied}
use Rattle.kasa_families.specs.declared.row.Row.TheVariants.{Locals}
use Rattle.kasa_families.specs.Family.{shape_of}
use Rattle.kasa_columns.specs.Along.{LeavesColumns}
use Rattle.kasa_columns.specs.Ask.{Ask, IsAsk, stored}
use Rattle.kasa_columns.specs.Plan.{IsPlan}
use Rattle.kasa_columns.specs.Settled.{IsRowSettled}
use Rattle.kasa_columns.proofs.CollectLemmas.{GoesOn-refl}
use Rattle.kasa_columns.proofs.PlanLemmas.{none_listed, no_links}
use Rattle.kasa_columns.proofs.StandLemmas.{StandsExist-fit}
use Rattle.kasa_columns.proofs.WalkLemmas.{length-stored, node_stands, idle_settled, settled_none, settled_all}
use Rattle.kasa_columns.proofs.walk.try_stored.Goals as goal

pub plan_for-requires-clause-exist : goal.plan_for-requires-clause-exist
plan_for-requires-clause-exist g c = StandsExist-fit c.search.inside.rule.now c.args.stands.now (shape_of c.search.inside.family.now).types (rw (← c.search.view_is) at c.requires.fit)

pub plan_for-requires-clause-nodes : goal.plan_for-requires-clause-nodes
plan_for-requires-clause-nodes g c = node_stands _ c.search.invariant c.args.stands.now (rw (← c.search.view_is) at c.requires.fit)

pub returns-then-wants_new-clause-settled : goal.returns-then-wants_new-clause-settled
returns-then-wants_new-clause-settled g c =
    let ok : IsAsk c.args.search.now = rw (← c.search.view_is) c.search.invariant in
    let plan : IsPlan c.args.search.now.rule c.args.stands.now c.args.search.now.columns c.in_ok-plan.plan = rw (← c.search.view_is) c.in_ok-plan.ensures in
    let none : c.args.links.now ≡ [] = none_listed c.args.links.now c.is_empty.result c.is_empty.ensures c.if-is_empty.true in
    let leaves : LeavesColumns c.args.search.now.rule c.args.search.now.columns c.args.stands.now = rw c.if-plan.true at plan.idle in
    let wants = rw (c.if-wants_new.true, ap (λ (a : Ask). a.aim) c.search.view_is) at c.wants_new.ensures in
    λ shown has agrees. idle_settled c.args.search.now ok c.args.stands.now c.args.links.now c.requires.links c.in_ok-plan.plan.effects.items plan.effects shown (no_links c.args.links.now c.in_ok-plan.plan.effects.items shown none) _ leaves (wants (stored c.args.search.now) _) has

pub loop-k-init : goal.loop-k-init
loop-k-init g c = (GoesOn-refl c.args.search.now _, settled_none (IsRowSettled c.args.search.now c.args.stands.now) (stored c.args.search.now) _)

pub try_stored_row-requires-clause-stored : goal.try_stored_row-requires-clause-stored
try_stored_row-requires-clause-stored g c =
    let at : slice_get (stored c.args.search.now) c.loop-k.k ≡ Some c.in-Some.row.now = rw (← c.search.view_is) (sym c.row.ensures ∙ ap option_copied c.in-Some.is) in
    (c.loop-k.k, at)

pub try_stored_row-requires-clause-count : goal.try_stored_row-requires-clause-count
try_stored_row-requires-clause-count g c =
    let ok : IsAsk c.args.search.now = rw (← c.search.view_is) c.search.invariant in
    let at : slice_get (stored c.args.search.now) c.loop-k.k ≡ Some c.in-Some.row.now = rw (← c.search.view_is) (sym c.row.ensures ∙ ap option_copied c.in-Some.is) in
    λ shown e. length-stored c.args.search.now ok shown (c.loop-k.k, at ∙ ap Some e)

pub returns-clause-settled : goal.returns-clause-settled
returns-clause-settled g c =
    let all = settled_all (IsRowSettled c.args.search.now c.args.stands.now) (stored c.args.search.now) c.loop-k.k c.loop-k.found.keys (rw (← c.search.view_is, ← c.rows-k-end.ensures) c.loop-k-test.false) c.loop-k.invariant.1 in
    λ shown has. all (Locals shown) has shown refl
