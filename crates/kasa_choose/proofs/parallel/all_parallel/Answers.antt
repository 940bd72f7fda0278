use Rattle.std.proofs.Common.{◌≡◌, ◌≤◌, ◌↔◌, [], length, ap, sym, subst, ◌∙◌, arith}
use Rattle.std.specs.Prelude.{nat_eq}
use Rattle.std.specs.List.{filter, flat_map}
use Rattle.kasa_graph.specs.Signature.{state_counts}
use Rattle.kasa_rules.specs.Reached.{IsModel}
use Rattle.kasa_lists.specs.Lists.{Has}
use Rattle.kasa_tables.specs.Insert.{empty_tables}
use Rattle.kasa_polymers.specs.declared.map.Bond.{Bond}
use Rattle.kasa_polymers.specs.Contact.{IsContactBond}
use Rattle.kasa_choose.specs.Kept.{keep_all}
use Rattle.kasa_choose.specs.Views.{numbers}
use Rattle.kasa_choose.specs.Own.{partners_among}
use Rattle.kasa_choose.specs.Parallel.{over_type, partners}
use Rattle.kasa_choose.proofs.Possible.{among_is, over_type_same}
use Rattle.kasa_choose.proofs.TurnLemmas.{number_turn}
use Rattle.kasa_choose.proofs.parallel.all_parallel.Goals as goal

pub loop-number-preserved : goal.loop-number-preserved
loop-number-preserved c =
    let valid : IsModel c.args.model.now = subst IsModel c.model.view_is c.model.invariant.0 in
    let a = c.loop-number.number in
    let count = length (state_counts c.args.model.now.sig a) in
    let none : c.in_ok-none.none ≡ [] = c.in_ok-none.ensures ∙ ap (λ fs. empty_tables fs) c.new.ensures.items in
    let exact : (bond : Bond) → Has c.in_ok-map.map.bonds bond ↔ IsContactBond c.args.model.now [] bond = subst (λ tables. (bond : Bond) → Has c.in_ok-map.map.bonds bond ↔ IsContactBond c.args.model.now tables bond) none c.in_ok-map.ensures.bonds in
    let own : c.in_ok-own.own.items ≡ filter (λ bond. nat_eq bond.a a) c.in_ok-map.map.bonds = c.in_ok-own.ensures ∙ ap (filter (λ (bond : Bond). nat_eq bond.a a)) c.as_slice.ensures in
    let same : over_type (partners_among c.in_ok-own.own.items) a count ≡ over_type (partners c.args.model.now a) a count =
    over_type_same (partners_among c.in_ok-own.own.items) (partners c.args.model.now a) a count (λ x. subst (λ bonds. partners_among bonds x ≡ partners c.args.model.now a x) (sym own) (among_is c.args.model.now valid a x c.in_ok-map.map.bonds c.in_ok-map.ensures.bonds_ascend exact)) in
    number_turn [] (λ a. over_type (partners c.args.model.now a) a (length (state_counts c.args.model.now.sig a))) a c.loop-number.planned c.in_ok-planned.planned c.loop-number.invariant
    (subst (λ m. c.in_ok-planned.planned ≡ keep_all c.loop-number.planned (over_type (partners_among c.in_ok-own.own.items) a (length (state_counts m.sig a)))) c.model.view_is (rw c.as_slice-in-loop-number.ensures.value at c.in_ok-planned.ensures) ∙ ap (keep_all c.loop-number.planned) same)

pub returns : goal.returns
returns c =
    let count : c.types-number-end.result ≡ length c.args.model.now.sig = c.types-number-end.ensures.count ∙ ap (λ m. length m.sig) c.model.view_is in
    let most : c.loop-number.number ≤ c.types-number-end.result = c.loop-number.auto.number-end in
    let least : c.types-number-end.result ≤ c.loop-number.number = c.loop-number-test.false in
    let all : c.loop-number.number ≡ length c.args.model.now.sig = omega arith in
    c.families.ensures ∙ c.loop-number.invariant ∙ ap (λ n. keep_all [] (flat_map (λ a. over_type (partners c.args.model.now a) a (length (state_counts c.args.model.now.sig a))) (numbers n))) all
