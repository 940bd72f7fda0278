use Rattle.std.proofs.Common.{◌<◌, ◌^◌, ◌∷◌, ℕ, List, true, set, length, arith, sym, ap, subst, ◌∙◌}
use Rattle.kasa_digraph.specs.declared.search.Task.{Task}
use Rattle.kasa_digraph.specs.declared.search.Task.TheVariants.{Leave}
use Rattle.kasa_digraph.specs.Graph.{successors}
use Rattle.kasa_digraph.specs.inner.Search.{IsSearch, with_visits, work}
use Rattle.kasa_digraph.proofs.Searching.{at_task, visit_within, successors_at, search_skips, search_leaves, search_enters, work_enters}
use Rattle.kasa_digraph.proofs.search.step.Goals as goal

pub bounds-seen-at : goal.bounds-seen-at
bounds-seen-at c = let h = visit_within _ _ _ _ c.in-Visit.p _ _ c.in-Visit.is c.requires.search in omega (arith, h, c.requires.search.size)

pub bounds-seen-at-then-not-seen-at : goal.bounds-seen-at-then-not-seen-at
bounds-seen-at-then-not-seen-at c = let h = visit_within _ _ _ _ c.in-Visit.p _ _ c.in-Visit.is c.requires.search in omega (arith, h, c.requires.search.size)

pub bounds-graph-at : goal.bounds-graph-at
bounds-graph-at c = visit_within _ _ _ _ c.in-Visit.p _ _ c.in-Visit.is c.requires.search

pub returns-in_ok-plan-in-Visit-clause-search : goal.returns-in_ok-plan-in-Visit-clause-search
returns-in_ok-plan-in-Visit-clause-search c =
    let within = visit_within _ _ _ _ c.in-Visit.p _ _ c.in-Visit.is c.requires.search in
    let next = c.as_slice.ensures.value ∙ sym (successors_at c.args.graph.now c.in-Visit.p c.index-graph-at.result within c.index-graph-at.is) in
    let e = c.in_ok-plan-in-Visit.ensures {u = tt} ∙ ap (λ (qs : List ℕ). with_visits qs (Leave c.in-Visit.p ∷ c.args.tasks.now.items)) next in
    subst (λ (ts : List Task). IsSearch (successors c.args.graph.now) (length c.args.graph.now) (set c.args.seen.now c.in-Visit.p true) ts c.args.order.now.items) (sym e)
    (search_enters _ _ _ c.in-Visit.p _ _ c.requires.graph c.if-not-seen-at.true (at_task _ _ _ _ _ _ _ c.in-Visit.is c.requires.search))

pub returns-in_ok-plan-in-Visit-clause-smaller : goal.returns-in_ok-plan-in-Visit-clause-smaller
returns-in_ok-plan-in-Visit-clause-smaller c =
    let within = visit_within _ _ _ _ c.in-Visit.p _ _ c.in-Visit.is c.requires.search in
    let below : c.in-Visit.p < length c.args.seen.now = omega (arith, within, c.requires.search.size) in
    let few : length c.as_slice.result.now < 2 ^ 64 = omega arith in
    let fall = work_enters c.args.seen.now c.in-Visit.p c.as_slice.result.now c.args.tasks.now.items below c.if-not-seen-at.true few in
    subst (λ (ts : List Task). work (set c.args.seen.now c.in-Visit.p true) ts < work c.args.seen.now (c.args.task ∷ c.args.tasks.now.items)) (sym (c.in_ok-plan-in-Visit.ensures {u = tt})) fall

pub returns-else-not-seen-at-clause-search : goal.returns-else-not-seen-at-clause-search
returns-else-not-seen-at-clause-search c = search_skips _ _ _ c.in-Visit.p _ _ c.if-not-seen-at.false (at_task _ _ _ _ _ _ _ c.in-Visit.is c.requires.search)

pub returns-in_ok-push-in-Leave-clause-search : goal.returns-in_ok-push-in-Leave-clause-search
returns-in_ok-push-in-Leave-clause-search c =
    rw (c.in_ok-push-in-Leave.ensures.items) (search_leaves _ _ _ c.in-Leave.p _ _ (at_task _ _ _ _ _ _ _ c.in-Leave.is c.requires.search))
