use Rattle.std.proofs.Common.{◌∙◌, ℕ, List, inl, inr, length, sym, ap, refl, subst, Vec, Bor}
use Rattle.std.specs.Global.{Global}
use Rattle.std.proofs.lemmas.Map.Iter.{iter_end, iter_turn}
use Rattle.kasa_graph.specs.Lists.{Has}
use Rattle.kasa_graph.proofs.FitLemmas.{Has-list_any, list_any-Has}
use Rattle.kasa_choose.specs.ViewSets.{site_list}
use Rattle.kasa_choose.proofs.PlanLists.{told_not, Has-[], Has-push}
use Rattle.kasa_choose.proofs.InsertedKeys.{has_map, has_from}
use Rattle.kasa_choose.proofs.views.is_in_some.Goals as goal

pub loop-set-init : goal.loop-set-init
loop-set-init c = λ set h. absurd (Has-[] set h)

pub loop-set-preserved : goal.loop-set-preserved
loop-set-preserved c = λ set h. elim (Has-push c.loop-set.yielded c.in-Some.set set h) [
  | inl old ↦ c.loop-set.invariant set old
  | inr e ↦ λ here. told_not (Has c.in-Some.set.now.items c.args.site) _ c.if-contains.false
      (λ has. c.contains.ensures.value ∙ rw c.deref.ensures.value (list_any-Has c.in-Some.set.now.items c.args.site has))
      (subst (λ (b : Bor (Vec ℕ Global)). Has b.now.items c.args.site) e here)
]

pub returns-then-contains : goal.returns-then-contains
returns-then-contains c =
    let turn = iter_turn _ _ _ _ _ _ _ c.into_iter-set-iterator.ensures.into_iter_gives.0 c.loop-set.yielded_by c.in-Some.set c.in-Some.is c.next.ensures.steps in
    let here : Has c.deref.result.now c.args.site = Has-list_any c.deref.result.now c.args.site (sym c.contains.ensures.value ∙ c.if-contains.true) in
    (λ yes. (c.in-Some.set.now.items, has_map site_list c.args.sets.now.keys (length c.loop-set.yielded) c.in-Some.set.now turn.1, rw c.deref.ensures.value at here), λ in_some. refl)

pub returns : goal.returns
returns c =
    let all = iter_end _ _ _ _ _ _ _ c.into_iter-set-iterator.ensures.into_iter_gives.0 c.loop-set.yielded_by c.in-None.is c.next.ensures.steps in (
      λ wrong. absurd cc,
      λ in_some.
          let key = has_from site_list c.args.sets.now.keys in_some.0 in_some.1 in
          let set = has_from (λ (b : Bor (Vec ℕ Global)). b.now) c.loop-set.yielded key.0 (subst (λ (ks : List (Vec ℕ Global)). Has ks key.0) (sym all.0) key.1) in
          absurd (c.loop-set.invariant set.0 set.1 (subst (λ (xs : List ℕ). Has xs c.args.site) (sym (ap site_list set.2 ∙ key.2)) in_some.2)),
    )
