use Rattle.std.proofs.Common.{◌≡◌, ◌≢◌, [], ap, sym, subst, ◌∙◌, length}
use Rattle.std.proofs.lemmas.Result.{on_ok_weaker}
use Rattle.kasa_graph.specs.Signature.{state_counts}
use Rattle.kasa_rules.specs.Reached.{IsModel}
use Rattle.kasa_families.specs.declared.family.Family.TheVariants.{View}
use Rattle.kasa_choose.specs.ViewSets.{view_families}
use Rattle.kasa_choose.proofs.PlanLemmas.{empty_list, adds_empty, adds_largest}
use Rattle.kasa_choose.proofs.views.add_views.Goals as goal
use Rattle.kasa_choose.proofs.views.add_views.Goals.{After-sites}

count_is : (c : After-sites) → c.sites.result ≡ length (state_counts c.args.model.now.sig c.args.agent)
count_is c = c.sites.ensures.counts ∙ ap (λ m. length (state_counts m.sig c.args.agent)) c.model.view_is

pub returns-then-sites-eq0 : goal.returns-then-sites-eq0
returns-then-sites-eq0 c =
    let count = count_is (goal.at.returns-then-sites-eq0 c).After-sites in
    let none : state_counts c.args.model.now.sig c.args.agent ≡ [] = empty_list (state_counts c.args.model.now.sig c.args.agent) (sym count ∙ c.if-sites-eq0.true) in
    rw c.in_ok-insert.ensures.keys
    (adds_empty c.args.model.now c.args.agent c.args.views.now.keys (c.args.agent, c.new.result) (subst IsModel c.model.view_is c.model.invariant.0) none
    (ap (λ xs. View c.args.agent xs) c.new.ensures.items))

pub returns : goal.returns
returns c =
    let count = count_is (goal.at.returns c).After-sites in
    let some : state_counts c.args.model.now.sig c.args.agent ≢ [] = λ none. c.if-sites-eq0.false (count ∙ ap length none) in
    on_ok_weaker c.add_largest.result (λ has. adds_largest c.args.model.now c.args.agent c.in_ok-sets.sets.items (view_families c.args.views.now.keys) (view_families c.add_largest.new.views.keys)
    c.in_ok-sets.ensures some (rw c.deref.ensures.value at has)) c.add_largest.ensures
