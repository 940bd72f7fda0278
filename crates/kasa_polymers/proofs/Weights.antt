-- Weights of the points of the step graph: they fall along its edges, and there is one weighing and one bound at most.
use Rattle.std.proofs.Common.{◌≡◌, ℕ, zero, suc, ◌<◌, ◌≤◌, inl, inr, List, [], ◌∷◌, length, refl, sym, ◌∙◌, arith}
use Rattle.std.specs.Prelude.{Some, slice_get, sum}
use Rattle.kasa_graph.specs.Signature.{HasSite}
use Rattle.kasa_graph.proofs.ListLemmas.{some_at}
use Rattle.kasa_rules.specs.declared.model.Model.{Model}
use Rattle.kasa_rules.specs.Reached.{IsModel}
use Rattle.kasa_families.specs.Table.{Table}
use Rattle.kasa_polymers.specs.declared.map.Bond.{Bond}
use Rattle.kasa_polymers.specs.StepGraph.{IsPoint, IsEdge, IsLargest, AreShares, IsWeighing, IsBound, IsWalk, IsClosedWalk}
use Rattle.kasa_polymers.proofs.Different.{sum-cons, share-within}
use Rattle.kasa_polymers.proofs.ContactSites.{HasSite-contact}

sum-same : (js ks : List ℕ) → length js ≡ length ks → ((z j k : ℕ) → slice_get js z ≡ Some j → slice_get ks z ≡ Some k → j ≡ k) → sum js ≡ sum ks
sum-same [] [] e same = refl
sum-same [] (k ∷ ks) e same = absurd (omega arith)
sum-same (j ∷ js) [] e same = absurd (omega arith)
sum-same (j ∷ js) (k ∷ ks) e same =
    let first = same zero j k refl refl in
    let rest = sum-same js ks (omega arith) (λ z. same (suc z)) in
    let s = sum-cons j js in let t = sum-cons k ks in omega arith

module _ (model : Model) (tables : List Table) where
  -- ---- weights that agree on some points have the same shares of them

  largest-within : (P : Bond → Type 0) (v w : Bond → ℕ) (j k : ℕ) → ((q : Bond) → P q → v q ≡ w q) → IsLargest model tables P v j → IsLargest model tables P w k → j ≤ k
  largest-within P v w j k agree (_, inl none) most = omega arith
  largest-within P v w j k agree (_, inr (q, has, is)) most = let e = agree q has in let h = most.0 q has in omega arith

  largest-same : (P : Bond → Type 0) (v w : Bond → ℕ) (j k : ℕ) → ((q : Bond) → P q → v q ≡ w q) → IsLargest model tables P v j → IsLargest model tables P w k → j ≡ k
  largest-same P v w j k agree first second =
      let h = largest-within P v w j k agree first second in
      let i = largest-within P w v k j (λ q has. sym (agree q has)) second first in omega arith

  pub shares-same : (a : ℕ) (P : ℕ → Bond → Type 0) (v w : Bond → ℕ) (js ks : List ℕ) (first : AreShares model tables a P v js) (second : AreShares model tables a P w ks) → ((z j : ℕ) → slice_get js z ≡ Some j → (q : Bond) → P z q → v q ≡ w q) → sum js ≡ sum ks
  shares-same a P v w js ks first second agree =
      sum-same js ks (first.0 ∙ sym second.0) (λ z j k is is'. largest-same (P z) v w j k (agree z j is) (first.1 z j is) (second.1 z k is'))

  -- ---- two weighings agree

  module _ (v w : Bond → ℕ) (first : IsWeighing model tables v) (second : IsWeighing model tables w) where
    abbrev Agree : ℕ → Type 0
    Agree most = (p : Bond) → IsPoint model tables p → v p < most → v p ≡ w p

    agree_further : (most : ℕ) → Agree most → Agree (suc most)
    agree_further most agree p point light =
        let f = first p point in
        let s = second p point in
        let e = f.2 in
        let d = s.2 in
        let same = shares-same p.b (λ z q. IsEdge model tables p q × (q.x ≡ z)) v w f.0 s.0 f.1 s.1 (λ z j is q step.
        let within = (f.1.1 z j is).0 q step in
        let share = share-within f.0 z j is in
        let edge = step.0 in
        agree q edge.to (omega arith)) in
        omega arith

    agree_nowhere : Agree 0
    agree_nowhere p point light = absurd (omega arith)

    agree_below : (most : ℕ) → Agree most
    agree_below zero = agree_nowhere
    agree_below (suc most) = agree_further most (agree_below most)

    pub weighings-agree : (p : Bond) → IsPoint model tables p → v p ≡ w p
    weighings-agree p point = agree_below (suc (v p)) p point (omega arith)

  bound-within : (n k : ℕ) → IsBound model tables n → IsBound model tables k → n ≤ k
  bound-within n k first second = elim first.reached [
    | inl none ↦ omega arith
    | inr (a, allowed, sum_of) ↦
        let other = second.largest a allowed in
        let other_sum = other.1 in
        let within = other.2 in
        let e = sum_of.2 in
        let d = other_sum.2 in
        let same = shares-same a (λ x q. IsPoint model tables q × (q.a ≡ a) × (q.x ≡ x)) first.weight second.weight sum_of.0 other_sum.0 sum_of.1 other_sum.1 (λ z j is q step. weighings-agree first.weight second.weight first.weighing second.weighing q step.0) in
        omega arith
  ]

  pub one_bound : (n k : ℕ) → IsBound model tables n → IsBound model tables k → n ≡ k
  one_bound n k first second = let h = bound-within n k first second in let i = bound-within k n second first in omega arith

  -- ---- weights fall along edges, so there is no closed walk

  module _ (valid : IsModel model) (w : Bond → ℕ) (weighing : IsWeighing model tables w) where
    weight_falls : (p q : Bond) → IsEdge model tables p q → w q < w p
    weight_falls p q edge =
        let s = weighing p edge.from in
        let e = s.2 in
        let to = edge.to in
        let has : HasSite model.sig q.a q.x = HasSite-contact model tables q valid to.0 in
        let has_b : HasSite model.sig p.b q.x = rw edge.goes_on has in
        let share = some_at s.0 q.x (rw s.1.0 has_b) in
        let within = (s.1.1 q.x share.0 share.1).0 q (edge, refl) in
        let h = share-within s.0 q.x share.0 share.1 in
        omega arith

    walk_falls : (points : List Bond) (p q : Bond) → IsWalk model tables (p ∷ points) q → w q < w p
    walk_falls [] p q walk = weight_falls p q walk
    walk_falls (next ∷ points) p q walk =
        let h = weight_falls p next walk.0 in
        let i = walk_falls points next q walk.1 in omega arith

    pub no_closed_walk : (points : List Bond) → ¬ IsClosedWalk model tables points
    no_closed_walk [] closed = closed
    no_closed_walk (p ∷ points) closed = let h = walk_falls points p p closed in omega arith
