-- Labels that spread.
use Rattle.std.proofs.Common.{◌≡◌, ◌≢◌, ◌<◌, ◌≤◌, ◌+◌, ℕ, zero, suc, List, [], ◌∷◌, ◌++◌, Bool, true, length, take, set, get_or, nat_eq, refl, sym, ap, subst, ◌∙◌, arith, ◌⊎◌, inl, inr, if◌then◌else◌}
use Rattle.std.specs.Prelude.{Vec}
use Rattle.std.proofs.lemmas.Bool.{cases_eq, eqb-true}
use Rattle.std.proofs.lemmas.List.{length-set, get_or-set_same, get_or-set_other, length_push, take_all}
use Rattle.std.proofs.lemmas.List.Sums.{sum_by-set}
use Rattle.kasa_digraph.specs.Graph.{has, successors, IsEdge}
use Rattle.kasa_digraph.specs.inner.Flood.{far, is_far, IsSpread}
use Rattle.kasa_digraph.proofs.Lists.{true_false, is_false, same, in_left, in_push, in_last, taken_back, taken_kept, taken_here}

pub far_is : is_far far ≡ 1
far_is = ap (λ (b : Bool). if b then 1 else 0) (same far)

pub not_far : (n : ℕ) → n ≢ far → is_far n ≡ 0
not_far n ne = ap (λ (b : Bool). if b then 1 else 0) (is_false (nat_eq n far) (λ e. ne (eqb-true n far e)))

pub spread_none : (label : ℕ) (labels found : List ℕ) → IsSpread (λ y. ⊥) label labels labels found found
spread_none label labels found = record { size = refl; cases = λ y. inl refl; found = λ y h. inl h; kept = λ y h. h; reached = λ y no_source. absurd no_source; count = refl }

pub spread_again : (P Q : ℕ → Type 0) (label : ℕ) (old new before after : List ℕ) → ((y : ℕ) → P y → Q y) → ((y : ℕ) → Q y → P y) →
    IsSpread P label old new before after → IsSpread Q label old new before after
spread_again P Q label old new before after to back s = record {
  size = s.size;
  cases = λ y. elim (s.cases y) [ inl e ↦ inl e | inr n ↦ inr (n.0, n.1, n.2, to y n.3) ];
  found = s.found;
  kept = s.kept;
  reached = λ y q. s.reached y (back y q);
  count = s.count;
}

pub spread_then : (P Q : ℕ → Type 0) (label : ℕ) (a b c f g h : List ℕ) → IsSpread P label a b f g → IsSpread Q label b c g h → IsSpread (λ y. P y ⊎ Q y) label a c f h
spread_then P Q label a b c f g h s t = record {
  size = t.size ∙ s.size;
  cases = λ y. elim (s.cases y) [
    | inl e ↦ elim (t.cases y) [
      | inl d ↦ inl (d ∙ e)
      | inr n ↦ inr (sym e ∙ n.0, n.1, n.2, inr n.3)
    ]
    | inr m ↦ inr (m.0, later y m.1, t.kept y m.2, inl m.3)
  ];
  found = λ y e. elim (t.found y e) [
    | inl d ↦ elim (s.found y d) [ inl o ↦ inl o | inr m ↦ inr (m.0, later y m.1) ]
    | inr n ↦ inr (earlier y n.0, n.1)
  ];
  kept = λ y e. t.kept y (s.kept y e);
  reached = λ y e. elim e [
    | inl p ↦ elim (t.cases y) [ inl d ↦ (λ f. s.reached y p (sym d ∙ f)) | inr n ↦ absurd (s.reached y p n.0) ]
    | inr q ↦ t.reached y q
  ];
  count = let x = s.count in let y = t.count in omega (arith, x, y);
}
  where
    later : (y : ℕ) → get_or b y 0 ≡ label → get_or c y 0 ≡ label
    later y e = elim (t.cases y) [ inl d ↦ d ∙ e | inr n ↦ n.1 ]

    earlier : (y : ℕ) → get_or b y 0 ≡ far → get_or a y 0 ≡ far
    earlier y e = elim (s.cases y) [ inl d ↦ sym d ∙ e | inr m ↦ m.0 ]

pub spread_old : (label p : ℕ) (labels found : List ℕ) → get_or labels p 0 ≢ far → IsSpread (λ y. y ≡ p) label labels labels found found
spread_old label p labels found known = record {
  size = refl;
  cases = λ y. inl refl;
  found = λ y h. inl h;
  kept = λ y h. h;
  reached = λ y is. (let P : ℕ → Type 0 = λ z. get_or labels z 0 ≢ far in subst P (sym is) known);
  count = refl;
}

pub spread_new : (label p : ℕ) (labels found : List ℕ) → label ≢ far → p < length labels → get_or labels p 0 ≡ far →
    IsSpread (λ y. y ≡ p) label labels (set labels p label) found (found ++ p ∷ [])
spread_new label p labels found ne h was = record {
  size = length-set labels p label;
  cases = λ y. elim (cases_eq y p) [
    | inl is ↦ (let P : ℕ → Type 0 = λ z. (get_or labels z 0 ≡ far) × (get_or (set labels p label) z 0 ≡ label) × (has (found ++ p ∷ []) z ≡ true) × (z ≡ p) in
        inr (subst P (sym is) (was, here, in_last found p, refl)))
    | inr other ↦ inl (get_or-set_other labels p y label 0 other)
  ];
  found = λ y e. elim (in_push found p y e) [
    | inl old ↦ inl old
    | inr is ↦ (let P : ℕ → Type 0 = λ z. (get_or labels z 0 ≡ far) × (get_or (set labels p label) z 0 ≡ label) in inr (subst P (sym is) (was, here)))
  ];
  kept = λ y e. in_left found (p ∷ []) y e;
  reached = λ y is. (let P : ℕ → Type 0 = λ z. get_or (set labels p label) z 0 ≢ far in subst P (sym is) (λ e. ne (sym here ∙ e)));
  count = let s = sum_by-set is_far labels p label 0 h in
      let one : is_far (get_or labels p 0) ≡ 1 = ap is_far was ∙ far_is in
      let none = not_far label ne in
      let l = length_push found p in
      omega (arith, s, one, none, l);
}
  where
    here : get_or (set labels p label) p 0 ≡ label
    here = get_or-set_same labels p label 0 h

-- one point more
pub spread_more : (points : List ℕ) (k p label : ℕ) (a b c f g h : List ℕ) → k < length points → p ≡ get_or points k 0 →
    IsSpread (λ y. has (take k points) y ≡ true) label a b f g → IsSpread (λ y. y ≡ p) label b c g h →
    IsSpread (λ y. has (take (k + 1) points) y ≡ true) label a c f h
spread_more points k p label a b c f g h below is s t =
    spread_again _ (λ y. has (take (k + 1) points) y ≡ true) label a c f h
    (λ y e. elim e [ inl old ↦ taken_kept points k y below old | inr now ↦ taken_here points k y below (now ∙ is) ])
    (λ y e. elim (taken_back points k y below e) [ inl old ↦ inl old | inr now ↦ inr (now ∙ sym is) ])
    (spread_then (λ y. has (take k points) y ≡ true) (λ y. y ≡ p) label a b c f g h s t)

-- one point more of a layer
pub layer_more : (next : ℕ → List ℕ) (layer : List ℕ) (k p label : ℕ) (points : List ℕ) (a b c f g h : List ℕ) → k < length layer → p ≡ get_or layer k 0 → points ≡ next p →
    IsSpread (λ y. (x : ℕ) × (has (take k layer) x ≡ true) × IsEdge next x y) label a b f g → IsSpread (λ y. has points y ≡ true) label b c g h →
    IsSpread (λ y. (x : ℕ) × (has (take (k + 1) layer) x ≡ true) × IsEdge next x y) label a c f h
layer_more next layer k p label points a b c f g h below is same s t =
    spread_again _ (λ y. (x : ℕ) × (has (take (k + 1) layer) x ≡ true) × IsEdge next x y) label a c f h
    (λ y e. elim e [
      | inl old ↦ (old.0, taken_kept layer k old.0 below old.1, old.2)
      | inr now ↦ (p, taken_here layer k p below is, subst (λ (qs : List ℕ). has qs y ≡ true) same now)
    ])
    (λ y e. elim (taken_back layer k e.0 below e.1) [
      | inl old ↦ inl (e.0, old, e.2)
      | inr now ↦ (let P : ℕ → Type 0 = λ z. IsEdge next z y in inr (subst (λ (qs : List ℕ). has qs y ≡ true) (sym same) (subst P (now ∙ sym is) e.2)))
    ])
    (spread_then (λ y. (x : ℕ) × (has (take k layer) x ≡ true) × IsEdge next x y) (λ y. has points y ≡ true) label a b c f g h s t)

pub spread_all : (points : List ℕ) (k label : ℕ) (a b f g : List ℕ) → length points ≤ k → IsSpread (λ y. has (take k points) y ≡ true) label a b f g →
    IsSpread (λ y. has points y ≡ true) label a b f g
spread_all points k label a b f g h s = subst (λ (qs : List ℕ). IsSpread (λ y. has qs y ≡ true) label a b f g) (take_all k points h) s

pub layer_all : (next : ℕ → List ℕ) (layer : List ℕ) (k label : ℕ) (a b f g : List ℕ) → length layer ≤ k →
    IsSpread (λ y. (x : ℕ) × (has (take k layer) x ≡ true) × IsEdge next x y) label a b f g → IsSpread (λ y. (x : ℕ) × (has layer x ≡ true) × IsEdge next x y) label a b f g
layer_all next layer k label a b f g h s = subst (λ (qs : List ℕ). IsSpread (λ y. (x : ℕ) × (has qs x ≡ true) × IsEdge next x y) label a b f g) (take_all k layer h) s

-- ---- the reversed graph

pub successors_set : {Z : Type 0} (graph : List (Vec ℕ Z)) (q : ℕ) (v : Vec ℕ Z) (x : ℕ) → x ≢ q → successors (set graph q v) x ≡ successors graph x
successors_set [] q v x ne = refl
successors_set (w ∷ graph) zero v zero ne = absurd (ne refl)
successors_set (w ∷ graph) zero v (suc x) ne = refl
successors_set (w ∷ graph) (suc q) v zero ne = refl
successors_set (w ∷ graph) (suc q) v (suc x) ne = successors_set graph q v x (λ e. ne (ap suc e))

pub successors_set_here : {Z : Type 0} (graph : List (Vec ℕ Z)) (q : ℕ) (v : Vec ℕ Z) → q < length graph → successors (set graph q v) q ≡ v.items
successors_set_here [] q v h = absurd (omega arith)
successors_set_here (w ∷ graph) zero v h = refl
successors_set_here (w ∷ graph) (suc q) v h = successors_set_here graph q v (omega arith)

pub successors_push : {Z : Type 0} (graph : List (Vec ℕ Z)) (v : Vec ℕ Z) (q : ℕ) → v.items ≡ [] → successors (graph ++ v ∷ []) q ≡ successors graph q
successors_push [] v zero none = none
successors_push [] v (suc q) none = refl
successors_push (w ∷ graph) v zero none = refl
successors_push (w ∷ graph) v (suc q) none = successors_push graph v q none

pub edge_from : {Z : Type 0} (graph : List (Vec ℕ Z)) (p q : ℕ) → IsEdge (successors graph) p q → p < length graph
edge_from [] p q e = true_false (sym e)
edge_from (w ∷ graph) zero q e = omega arith
edge_from (w ∷ graph) (suc p) q e = let h = edge_from graph p q e in omega (arith, h)
