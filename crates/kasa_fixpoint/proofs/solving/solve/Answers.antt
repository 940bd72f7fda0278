use Rattle.std.proofs.Common.{List, ap, sym, ◌∙◌, rules}
use Rattle.std.specs.Prelude.{Option}
use Rattle.kasa_graph.specs.declared.mixture.Agent.{Agent}
use Rattle.kasa_lists.specs.Lists.{Has}
use Rattle.kasa_families.specs.Table.{families_of}
use Rattle.kasa_rules.specs.declared.model.Model.{Model}
use Rattle.kasa_pre.specs.Closed.{Cover}
use Rattle.kasa_tables.proofs.PlainLemmas.{families_of-empty}
use Rattle.kasa_fixpoint.specs.Steps.{IsStep}
use Rattle.kasa_fixpoint.proofs.SystemLemmas.{lawful}
use Rattle.kasa_fixpoint.proofs.SolveLemmas.{IsUnderWay-empty, IsSolved, within_limit, passes_limit, solved, bounded}
use Rattle.kasa_fixpoint.proofs.solving.solve.Goals as goal

pub new-requires-clause-valid : goal.new-requires-clause-valid
new-requires-clause-valid g c = rw (ap (λ (m : Model). m.sig) c.model.view_is) c.requires.valid

pub new-requires-2-clause-model : goal.new-requires-2-clause-model
new-requires-2-clause-model g c =
    rw c.model.view_is at c.model.invariant.0

pub insert_inits-requires : goal.insert_inits-requires
insert_inits-requires g c =
    record {
      under_way = rw c.in_ok-tables.ensures (IsUnderWay-empty c.args.model.now c.args.families.items c.requires.different c.requires.valid);
    }

pub returns-in_err-insert_inits-clause-too_many : goal.returns-in_err-insert_inits-clause-too_many
returns-in_err-insert_inits-clause-too_many g c e tables ok same =
    c.in_err-insert_inits.ensures.too_many (search rules) tables ok (same ∙ sym (ap families_of c.in_ok-tables.ensures ∙ families_of-empty c.args.families.items))

pub close-requires-clause-lawful : goal.close-requires-clause-lawful
close-requires-clause-lawful g c =
    let planned = c.in_ok-system.ensures.planned in
    lawful c.in_ok-system.system planned.0 planned.1

pub close-requires-clause-room : goal.close-requires-clause-room
close-requires-clause-room g c =
    let planned = c.in_ok-system.ensures.planned in
    let model = c.in_ok-system.ensures.model in
    let families = c.in_ok-system.ensures.families ∙ c.in_ok-copies.ensures ∙ c.as_slice.ensures.value in
    let empty = ap families_of c.in_ok-tables.ensures ∙ families_of-empty c.args.families.items ∙ sym families in
    let inits : IsStep c.in_ok-system.system.model c.in_ok-tables.tables c.insert_inits.new.tables = rw model c.in_ok-insert_inits.ensures.step in
    within_limit c.in_ok-system.system planned.0 planned.1 c.in_ok-tables.tables c.insert_inits.new.tables empty inits

pub returns-in_err-close-clause-too_many : goal.returns-in_err-close-clause-too_many
returns-in_err-close-clause-too_many g c e =
    let planned = c.in_ok-system.ensures.planned in
    let model = c.in_ok-system.ensures.model in
    let families = c.in_ok-system.ensures.families ∙ c.in_ok-copies.ensures ∙ c.as_slice.ensures.value in
    let empty = ap families_of c.in_ok-tables.ensures ∙ families_of-empty c.args.families.items ∙ sym families in
    let inits : IsStep c.in_ok-system.system.model c.in_ok-tables.tables c.insert_inits.new.tables = rw model c.in_ok-insert_inits.ensures.step in
    rw (model, families) at (passes_limit c.in_ok-system.system planned.0 planned.1 c.in_ok-tables.tables c.insert_inits.new.tables empty inits (c.in_err-close.ensures.too_many (search rules)))

pub returns-clause-families : goal.returns-clause-families
returns-clause-families g c =
    let planned = c.in_ok-system.ensures.planned in
    let model = c.in_ok-system.ensures.model in
    let families = c.in_ok-system.ensures.families ∙ c.in_ok-copies.ensures ∙ c.as_slice.ensures.value in
    let empty = ap families_of c.in_ok-tables.ensures ∙ families_of-empty c.args.families.items ∙ sym families in
    let inits : IsStep c.in_ok-system.system.model c.in_ok-tables.tables c.insert_inits.new.tables = rw model c.in_ok-insert_inits.ensures.step in
    let initial : (m : List (Option Agent)) → Has c.in_ok-system.system.model.inits m → Cover c.in_ok-system.system.model.sig c.insert_inits.new.tables m = rw model c.in_ok-insert_inits.ensures.initial in
    let s : IsSolved c.args.model.now c.args.families.items c.close.new.tables = rw (model, families) at (solved c.in_ok-system.system planned.0 planned.1 c.in_ok-tables.tables c.insert_inits.new.tables empty inits initial c.close.new.tables c.in_ok-close.ensures.least) in
    s.families_are

pub returns-clause-tables : goal.returns-clause-tables
returns-clause-tables g c =
    let planned = c.in_ok-system.ensures.planned in
    let model = c.in_ok-system.ensures.model in
    let families = c.in_ok-system.ensures.families ∙ c.in_ok-copies.ensures ∙ c.as_slice.ensures.value in
    let empty = ap families_of c.in_ok-tables.ensures ∙ families_of-empty c.args.families.items ∙ sym families in
    let inits : IsStep c.in_ok-system.system.model c.in_ok-tables.tables c.insert_inits.new.tables = rw model c.in_ok-insert_inits.ensures.step in
    let initial : (m : List (Option Agent)) → Has c.in_ok-system.system.model.inits m → Cover c.in_ok-system.system.model.sig c.insert_inits.new.tables m = rw model c.in_ok-insert_inits.ensures.initial in
    let s : IsSolved c.args.model.now c.args.families.items c.close.new.tables = rw (model, families) at (solved c.in_ok-system.system planned.0 planned.1 c.in_ok-tables.tables c.insert_inits.new.tables empty inits initial c.close.new.tables c.in_ok-close.ensures.least) in
    s.are_tables

pub returns-clause-least : goal.returns-clause-least
returns-clause-least g c =
    let planned = c.in_ok-system.ensures.planned in
    let model = c.in_ok-system.ensures.model in
    let families = c.in_ok-system.ensures.families ∙ c.in_ok-copies.ensures ∙ c.as_slice.ensures.value in
    let empty = ap families_of c.in_ok-tables.ensures ∙ families_of-empty c.args.families.items ∙ sym families in
    let inits : IsStep c.in_ok-system.system.model c.in_ok-tables.tables c.insert_inits.new.tables = rw model c.in_ok-insert_inits.ensures.step in
    let initial : (m : List (Option Agent)) → Has c.in_ok-system.system.model.inits m → Cover c.in_ok-system.system.model.sig c.insert_inits.new.tables m = rw model c.in_ok-insert_inits.ensures.initial in
    let s : IsSolved c.args.model.now c.args.families.items c.close.new.tables = rw (model, families) at (solved c.in_ok-system.system planned.0 planned.1 c.in_ok-tables.tables c.insert_inits.new.tables empty inits initial c.close.new.tables c.in_ok-close.ensures.least) in
    s.least

pub returns-clause-few_rows : goal.returns-clause-few_rows
returns-clause-few_rows g c =
    let planned = c.in_ok-system.ensures.planned in
    let model = c.in_ok-system.ensures.model in
    let families = c.in_ok-system.ensures.families ∙ c.in_ok-copies.ensures ∙ c.as_slice.ensures.value in
    let empty = ap families_of c.in_ok-tables.ensures ∙ families_of-empty c.args.families.items ∙ sym families in
    let inits : IsStep c.in_ok-system.system.model c.in_ok-tables.tables c.insert_inits.new.tables = rw model c.in_ok-insert_inits.ensures.step in
    let initial : (m : List (Option Agent)) → Has c.in_ok-system.system.model.inits m → Cover c.in_ok-system.system.model.sig c.insert_inits.new.tables m = rw model c.in_ok-insert_inits.ensures.initial in
    let s : IsSolved c.args.model.now c.args.families.items c.close.new.tables = rw (model, families) at (solved c.in_ok-system.system planned.0 planned.1 c.in_ok-tables.tables c.insert_inits.new.tables empty inits initial c.close.new.tables c.in_ok-close.ensures.least) in
    s.few_rows

pub returns-clause-lemmas : goal.returns-clause-lemmas
returns-clause-lemmas g c =
    let planned = c.in_ok-system.ensures.planned in
    let model = c.in_ok-system.ensures.model in
    let families = c.in_ok-system.ensures.families ∙ c.in_ok-copies.ensures ∙ c.as_slice.ensures.value in
    let empty = ap families_of c.in_ok-tables.ensures ∙ families_of-empty c.args.families.items ∙ sym families in
    let inits : IsStep c.in_ok-system.system.model c.in_ok-tables.tables c.insert_inits.new.tables = rw model c.in_ok-insert_inits.ensures.step in
    let initial : (m : List (Option Agent)) → Has c.in_ok-system.system.model.inits m → Cover c.in_ok-system.system.model.sig c.insert_inits.new.tables m = rw model c.in_ok-insert_inits.ensures.initial in
    let s : IsSolved c.args.model.now c.args.families.items c.close.new.tables = rw (model, families) at (solved c.in_ok-system.system planned.0 planned.1 c.in_ok-tables.tables c.insert_inits.new.tables empty inits initial c.close.new.tables c.in_ok-close.ensures.least) in
    s.lemmas

pub returns-clause-dead : goal.returns-clause-dead
returns-clause-dead g c =
    let planned = c.in_ok-system.ensures.planned in
    let model = c.in_ok-system.ensures.model in
    let families = c.in_ok-system.ensures.families ∙ c.in_ok-copies.ensures ∙ c.as_slice.ensures.value in
    let empty = ap families_of c.in_ok-tables.ensures ∙ families_of-empty c.args.families.items ∙ sym families in
    let inits : IsStep c.in_ok-system.system.model c.in_ok-tables.tables c.insert_inits.new.tables = rw model c.in_ok-insert_inits.ensures.step in
    let initial : (m : List (Option Agent)) → Has c.in_ok-system.system.model.inits m → Cover c.in_ok-system.system.model.sig c.insert_inits.new.tables m = rw model c.in_ok-insert_inits.ensures.initial in
    let s : IsSolved c.args.model.now c.args.families.items c.close.new.tables = rw (model, families) at (solved c.in_ok-system.system planned.0 planned.1 c.in_ok-tables.tables c.insert_inits.new.tables empty inits initial c.close.new.tables c.in_ok-close.ensures.least) in
    s.dead

pub returns-clause-steps : goal.returns-clause-steps
returns-clause-steps g c =
    let planned = c.in_ok-system.ensures.planned in
    let model = c.in_ok-system.ensures.model in
    let families = c.in_ok-system.ensures.families ∙ c.in_ok-copies.ensures ∙ c.as_slice.ensures.value in
    let empty = ap families_of c.in_ok-tables.ensures ∙ families_of-empty c.args.families.items ∙ sym families in
    let inits : IsStep c.in_ok-system.system.model c.in_ok-tables.tables c.insert_inits.new.tables = rw model c.in_ok-insert_inits.ensures.step in
    let initial : (m : List (Option Agent)) → Has c.in_ok-system.system.model.inits m → Cover c.in_ok-system.system.model.sig c.insert_inits.new.tables m = rw model c.in_ok-insert_inits.ensures.initial in
    rw (model, families) at (bounded c.in_ok-system.system planned.0 planned.1 c.in_ok-tables.tables c.insert_inits.new.tables empty inits initial c.close.new.tables c.in_ok-close.ensures.least c.args.steps.now c.close.new.steps c.in_ok-close.ensures.at_least c.in_ok-close.ensures.at_most)
