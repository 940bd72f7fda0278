-- The order in which a search leaves the points: it is an order of the graph, or there is a cycle.
use Rattle.std.proofs.Common.{◌≡◌, ◌<◌, ◌≤◌, ℕ, List, [], ◌∷◌, true, false, length, take, get_or, sym, subst, ◌∙◌, arith, inl, inr}
use Rattle.std.proofs.lemmas.Bool.{cases_lt}
use Rattle.std.proofs.lemmas.List.{length-take, get_or-take}
use Rattle.kasa_digraph.specs.Graph.{has, IsEdge, IsWalk, Leads, IsGraph, IsClosedWalk, IsCyclic, IsOrder}
use Rattle.kasa_digraph.specs.inner.Search.{IsFinishOrder}
use Rattle.kasa_digraph.proofs.Lists.{true_false, in_append, in_left, in_last, in_taken, place}
use Rattle.kasa_digraph.proofs.Walks.{edge_leads, leads_on}

module _ (next : ℕ → List ℕ) (n : ℕ) (order : List ℕ) where
  pub leads_cyclic : (p : ℕ) → Leads next p p → IsCyclic next
  leads_cyclic p l = (p ∷ l.0, l.1)

  -- an edge from the point at k back to the one at j, at k or after it
  pub back_edge : IsFinishOrder next n order → (k j : ℕ) → k ≤ j → j < length order → IsEdge next (get_or order k 0) (get_or order j 0) →
      Leads next (get_or order j 0) (get_or order j 0)
  back_edge f k j le h e = elim (cases_lt k j) [
    | inr above ↦ (let is : k ≡ j = omega arith in let P : ℕ → Type 0 = λ i. IsEdge next (get_or order i 0) (get_or order j 0) in edge_leads next _ _ (subst P is e))
    | inl below ↦ (let at = f.finished j h in
        let h = subst (λ (xs : List ℕ). has xs (get_or order k 0) ≡ true) at.parts (in_taken order k j below (omega arith)) in
        elim (in_append at.before at.own (get_or order k 0) h) [
          | inr own ↦ leads_on next _ _ _ (at.leads (get_or order k 0) own) (edge_leads next _ _ e)
          | inl before ↦ elim (at.settled (get_or order k 0) (get_or order j 0) before e) [
            | inl b ↦ true_false (sym (subst (λ (xs : List ℕ). has xs (get_or order j 0) ≡ true) (sym at.parts) (in_left at.before at.own _ b)) ∙ at.fresh)
            | inr out ↦ true_false (sym (in_last (take j order) (get_or order j 0)) ∙ out)
          ]
        ])
  ]

  pub back_edge_cycle : IsGraph next n → IsFinishOrder next n order → (k q : ℕ) → k < length order → IsEdge next (get_or order k 0) q →
      has (take k order) q ≡ false → IsCyclic next
  back_edge_cycle graph f k q h e out = let at = place order q (f.all q (graph _ q e)) in elim (cases_lt at.0 k) [
    | inl below ↦ true_false (sym (subst (λ (x : ℕ). has (take k order) x ≡ true) at.2 (in_taken order at.0 k below (omega arith))) ∙ out)
    | inr above ↦ leads_cyclic _ (back_edge f k at.0 above at.1 (subst (λ (x : ℕ). IsEdge next (get_or order k 0) x) (sym at.2) e))
  ]

  pub order_from : IsFinishOrder next n order → ((k q : ℕ) → k < length order → IsEdge next (get_or order k 0) q → has (take k order) q ≡ true) → IsOrder next n order
  order_from f after = record { all = f.all; within = f.within; once = λ k h. (f.finished k h).fresh; after = after }

  -- a walk leads down
  walk_down : IsOrder next n order → (k : ℕ) (points : List ℕ) (q : ℕ) → k < length order → IsWalk next (get_or order k 0 ∷ points) q → has (take k order) q ≡ true
  walk_down o k [] q h walk = o.after k q h walk
  walk_down o k (r ∷ points) q h walk =
      let at = place (take k order) r (o.after k r h walk.0) in
      let below : at.0 < k = omega (arith, length-take k order, at.1) in
      let is : get_or order at.0 0 ≡ r = sym (get_or-take k order at.0 0 below) ∙ at.2 in
      let down = walk_down o at.0 points q (omega (arith, below)) (subst (λ (x : ℕ). IsWalk next (x ∷ points) q) (sym is) walk.1) in
      let some = place (take at.0 order) q down in
      let under : some.0 < at.0 = omega (arith, length-take at.0 order, some.1) in
      subst (λ (x : ℕ). has (take k order) x ≡ true) (sym (get_or-take at.0 order some.0 0 under) ∙ some.2) (in_taken order some.0 k (omega (arith, under, below)) (omega arith))

  last_edge : (p : ℕ) (points : List ℕ) (q : ℕ) → IsGraph next n → IsWalk next (p ∷ points) q → q < n
  last_edge p [] q graph walk = graph p q walk
  last_edge p (r ∷ points) q graph walk = last_edge r points q graph walk.1

  pub order_no_cycle : IsGraph next n → IsOrder next n order → ¬ (IsCyclic next)
  order_no_cycle graph o (walk, closed) = go walk closed
    where
      go : (walk : List ℕ) → ¬ (IsClosedWalk next walk)
      go [] closed = closed
      go (p ∷ points) closed =
          let at = place order p (o.all p (last_edge p points p graph closed)) in
          let down = walk_down o at.0 points p at.1 (subst (λ (x : ℕ). IsWalk next (x ∷ points) p) (sym at.2) closed) in
          true_false (sym down ∙ subst (λ (x : ℕ). has (take at.0 order) x ≡ false) at.2 (o.once at.0 at.1))

  -- an edge from an early point leads to an early point
  pub after_old : IsOrder next n order → (k x q : ℕ) → k ≤ length order → has (take k order) x ≡ true → IsEdge next x q → has (take k order) q ≡ true
  after_old o k x q le old e =
      let at = place (take k order) x old in
      let below : at.0 < k = omega (arith, length-take k order, at.1) in
      let is : get_or order at.0 0 ≡ x = sym (get_or-take k order at.0 0 below) ∙ at.2 in
      let there = o.after at.0 q (omega (arith, below, le)) (subst (λ (y : ℕ). IsEdge next y q) (sym is) e) in
      let some = place (take at.0 order) q there in
      let under : some.0 < at.0 = omega (arith, length-take at.0 order, some.1) in
      subst (λ (y : ℕ). has (take k order) y ≡ true) (sym (get_or-take at.0 order some.0 0 under) ∙ some.2) (in_taken order some.0 k (omega (arith, under, below)) le)
