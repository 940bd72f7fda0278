-- Distances to a point, and the first of the shortest closed walks from it.
use Rattle.std.proofs.Common.{◌≡◌, ◌≢◌, ◌<◌, ◌≤◌, ◌+◌, ℕ, zero, suc, List, [], ◌∷◌, ◌++◌, true, length, set, get_or, replicate, refl, sym, ap, subst, ◌∙◌, arith, inl, inr}
use Rattle.std.proofs.lemmas.Bool.{cases_lt, cases_eq}
use Rattle.std.proofs.lemmas.List.{length-set, length-replicate, get_or-set_same, get_or-set_other, get_or-replicate, get_or_past}
use Rattle.std.proofs.lemmas.List.Sums.{sum_by-set}
use Rattle.std.proofs.lemmas.List.Folds.{sum_by-replicate}
use Rattle.kasa_digraph.specs.Graph.{has, IsEdge, IsWalk, IsGraph, Leads}
use Rattle.kasa_digraph.specs.inner.Flood.{far, is_far, unknown, IsSpread}
use Rattle.kasa_digraph.specs.FirstCycle.{AreBelow}
use Rattle.kasa_digraph.specs.inner.Cycle.{IsFirstFrom, IsReverse, AreDistances, AreNear, IsBefore, IsClosest, IsStep, AreSteps, IsFound, IsFollowed}
use Rattle.kasa_digraph.proofs.Lists.{true_false, in_cons, in_head}
use Rattle.kasa_digraph.proofs.Flooding.{far_is}

pub far_within : (distances : List ℕ) (x : ℕ) → get_or distances x 0 ≡ far → x < length distances
far_within distances x e = elim (cases_lt x (length distances)) [
  | inl h ↦ h
  | inr h ↦ (let none = get_or_past distances x 0 h in absurd (omega (arith, none, e)))
]

-- ---- one layer more

module _ (next back : ℕ → List ℕ) (n s : ℕ) (reverse : IsReverse next back) where
  pub near_more : (layer found : List ℕ) (d : ℕ) (old new : List ℕ) → n < far → 0 < length layer → AreNear next n s layer d old →
      IsSpread (λ y. (x : ℕ) × (has layer x ≡ true) × IsEdge back x y) (d + 1) old new [] found → AreNear next n s found (d + 1) new
  near_more layer found d old new few some a spread = record {
    size = spread.size ∙ a.size;
    few = λ p. elim (spread.cases p) [
      | inl e ↦ (let f = a.few p in omega (arith, e, f))
      | inr m ↦ (let e = m.1 in omega (arith, e, low))
    ];
    zero = kept s 0 a.zero (omega arith);
    only = λ p h e. elim (spread.cases p) [
      | inl same ↦ a.only p (omega (arith, h, spread.size)) (sym same ∙ e)
      | inr m ↦ (let is = m.1 in absurd (omega (arith, is, e)))
    ];
    step = λ p e is known. elim (spread.cases p) [
      | inl same ↦ (let q = a.step p e (sym same ∙ is) known in let f = a.few p in (q.0, q.1, kept q.0 e q.2 (omega (arith, f, same, is))))
      | inr m ↦ (let x = m.3 in let now = m.1 in let to : d ≡ e = omega (arith, now, is) in
          (x.0, reverse.only p x.0 x.2, kept x.0 d (a.at_layer x.0 x.1) (omega (arith, low)) ∙ to))
    ];
    near = λ p q e known. elim (spread.cases q) [
      | inr m ↦ inl m.2
      | inl same ↦ elim (a.near p q e (λ f. known (same ∙ f))) [
        | inl in_layer ↦ (let reached = spread.reached p (q, in_layer, reverse.back_to p q e) in let at = a.at_layer q in_layer in let le = up_to p reached in
            inr (reached, omega (arith, same, at, le)))
        | inr was ↦ (let f = a.few p in let stays = kept p (get_or old p 0) refl (was.0) in let le = was.1 in
            inr ((λ g. was.0 (sym stays ∙ g)), omega (arith, stays, same, le)))
      ]
    ];
    at_layer = λ x h. elim (spread.found x h) [ inl bad ↦ true_false (sym bad) | inr m ↦ m.1 ];
    up_to = up_to;
    within = λ x h. elim (spread.found x h) [ inl bad ↦ true_false (sym bad) | inr m ↦ (let w = far_within old x m.0 in omega (arith, w, a.size)) ];
    room = let c = spread.count in let r = a.more_room some in omega (arith, c, r);
    more_room = λ h. let c = spread.count in let r = a.more_room some in omega (arith, c, r, h);
  }
    where
      low : d + 1 < far
      low = let r = a.more_room some in omega (arith, r, few)

      kept : (p v : ℕ) → get_or old p 0 ≡ v → v ≢ far → get_or new p 0 ≡ v
      kept p v e ne = elim (spread.cases p) [ inl same ↦ same ∙ e | inr m ↦ absurd (ne (sym e ∙ m.0)) ]

      up_to : (x : ℕ) → get_or new x 0 ≢ far → get_or new x 0 ≤ d + 1
      up_to x known = elim (spread.cases x) [
        | inl same ↦ (let h = a.up_to x (λ f. known (same ∙ f)) in omega (arith, h, same))
        | inr m ↦ (let e = m.1 in omega (arith, e))
      ]

unknown_all : (n : ℕ) → unknown (replicate n far) ≡ n
unknown_all n = let e = sum_by-replicate is_far n far in let one = far_is in omega (arith, e, one)

pub near_begins : (next : ℕ → List ℕ) (n s : ℕ) → IsGraph next n → s < n → AreNear next n s (s ∷ []) 0 (set (replicate n far) s 0)
near_begins next n s graph h = record {
  size = length-set (replicate n far) s 0 ∙ length-replicate n far;
  few = λ p. elim (cases_eq p s) [
    | inl is ↦ (let e = here p is in omega (arith, e))
    | inr ne ↦ elim (cases_lt p n) [
      | inl below ↦ (let e = there p ne below in omega (arith, e))
      | inr above ↦ (let e = get_or_past (set (replicate n far) s 0) p 0 (omega (arith, size, above)) in omega (arith, e))
    ]
  ];
  zero = here s refl;
  only = λ p below e. elim (cases_eq p s) [
    | inl is ↦ is
    | inr ne ↦ (let f = there p ne (omega (arith, below, size)) in absurd (omega (arith, e, f)))
  ];
  step = λ p e is known. absurd (no_step p e is known);
  near = λ p q e known. elim (cases_eq q s) [
    | inl is ↦ (let P : ℕ → Type 0 = λ z. has (s ∷ []) z ≡ true in inl (subst P (sym is) (in_head s [])))
    | inr ne ↦ absurd (known (there q ne (graph p q e)))
  ];
  at_layer = λ x e. elim (in_cons s [] x e) [ inl is ↦ here x is | inr bad ↦ true_false (sym bad) ];
  up_to = λ x known. elim (cases_eq x s) [
    | inl is ↦ (let e = here x is in omega (arith, e))
    | inr ne ↦ elim (cases_lt x n) [
      | inl below ↦ absurd (known (there x ne below))
      | inr above ↦ (let e = get_or_past (set (replicate n far) s 0) x 0 (omega (arith, size, above)) in omega (arith, e))
    ]
  ];
  within = λ x e. elim (in_cons s [] x e) [ inl is ↦ omega (arith, is, h) | inr bad ↦ true_false (sym bad) ];
  room = omega (arith, count);
  more_room = λ some. omega (arith, count, h);
}
  where
    size : length (set (replicate n far) s 0) ≡ n
    size = length-set (replicate n far) s 0 ∙ length-replicate n far

    here : (p : ℕ) → p ≡ s → get_or (set (replicate n far) s 0) p 0 ≡ 0
    here p is = ap (λ (k : ℕ). get_or (set (replicate n far) s 0) k 0) is ∙ get_or-set_same (replicate n far) s 0 0 (omega (arith, h, length-replicate n far))

    there : (p : ℕ) → p ≢ s → p < n → get_or (set (replicate n far) s 0) p 0 ≡ far
    there p ne below = get_or-set_other (replicate n far) s p 0 0 ne ∙ get_or-replicate n p far 0 below

    no_step : (p e : ℕ) → get_or (set (replicate n far) s 0) p 0 ≡ suc e → suc e ≢ far → ⊥
    no_step p e is known = elim (cases_eq p s) [
      | inl at ↦ (let z = here p at in omega (arith, is, z))
      | inr ne ↦ elim (cases_lt p n) [
        | inl below ↦ known (sym is ∙ there p ne below)
        | inr above ↦ (let z = get_or_past (set (replicate n far) s 0) p 0 (omega (arith, size, above)) in omega (arith, is, z))
      ]
    ]

    count : unknown (set (replicate n far) s 0) + 1 ≡ n
    count = let e = sum_by-set is_far (replicate n far) s 0 0 (omega (arith, h, length-replicate n far)) in
        let was : is_far (get_or (replicate n far) s 0) ≡ 1 = ap is_far (get_or-replicate n s far 0 h) ∙ far_is in
        let zero_not : is_far 0 ≡ 0 = refl in
        omega (arith, e, was, zero_not, unknown_all n)

pub near_ends : (next : ℕ → List ℕ) (n s d : ℕ) (layer distances : List ℕ) → layer ≡ [] → AreNear next n s layer d distances → AreDistances next s distances
near_ends next n s d layer distances none a = record {
  few = a.few;
  zero = a.zero;
  only = a.only;
  step = a.step;
  near = λ p q e known. elim (a.near p q e known) [
    | inl h ↦ true_false (sym h ∙ ap (λ (xs : List ℕ). has xs q) none)
    | inr far_enough ↦ far_enough
  ];
}

-- ---- the steps

before_then : (distances : List ℕ) (p q r : ℕ) → IsBefore distances p q → IsBefore distances q r → IsBefore distances p r
before_then distances p q r a b = elim a [
  | inl x ↦ elim b [ inl y ↦ inl (omega (arith, x, y)) | inr y ↦ (let e = y.0 in inl (omega (arith, x, e))) ]
  | inr x ↦ (let e = x.0 in elim b [ inl y ↦ inl (omega (arith, e, y)) | inr y ↦ (let f = y.0 in let i = x.1 in let j = y.1 in inr (omega (arith, e, f), omega (arith, i, j))) ])
]

pub before_on : (distances : List ℕ) (p q r : ℕ) → IsBefore distances p q → IsBefore distances q r → IsBefore distances p r
before_on = before_then

module _ (next : ℕ → List ℕ) (distances : List ℕ) (s : ℕ) where
  steps_push : (p : ℕ) (qs : List ℕ) (q r : ℕ) → AreSteps next distances p qs q → IsStep next distances q r → AreSteps next distances p (qs ++ q ∷ []) r
  steps_push p [] q r a b = (a, b)
  steps_push p (x ∷ qs) q r a b = (a.0, steps_push x qs q r a.1 b)

  found_push : (tail : List ℕ) (at r : ℕ) → IsFound next distances s tail at → IsStep next distances at r → IsFound next distances s (tail ++ at ∷ []) r
  found_push [] at r a b = (a, b)
  found_push (q ∷ qs) at r a b = (a.0, steps_push q qs at r a.1 b)

  module _ (a : AreDistances next s distances) where
    -- the closest successor of a point is one step closer
    pub is_step : (p q : ℕ) → get_or distances p 0 ≢ far → get_or distances p 0 ≢ 0 → IsClosest distances (next p) q → IsStep next distances p q
    is_step p q known not_zero c = go (get_or distances p 0) refl
      where
        go : (v : ℕ) → get_or distances p 0 ≡ v → IsStep next distances p q
        go zero e = absurd (not_zero e)
        go (suc e) is = record { closest = c; closer = exact }
          where
            exact : get_or distances p 0 ≡ 1 + get_or distances q 0
            exact = let r = a.step p e is (λ f. known (is ∙ f)) in let f = a.few p in let at = r.2 in
                elim (c.least r.0 r.1) [
                  | inl less ↦ (let n = a.near p q c.among (λ g. absurd (omega (arith, less, at, is, f, g))) in let le = n.1 in omega (arith, less, at, is, le))
                  | inr same ↦ (let e = same.0 in omega (arith, e, at, is))
                ]

    pub walk_far : (p : ℕ) (points : List ℕ) → IsWalk next (p ∷ points) s → (get_or distances p 0 ≢ far) × (get_or distances p 0 ≤ 1 + length points)
    walk_far p [] walk = let n = a.near p s walk (λ e. absurd (let z = a.zero in omega (arith, e, z))) in (n.0, (let le = n.1 in let z = a.zero in omega (arith, le, z)))
    walk_far p (r ∷ points) walk = let h = walk_far r points walk.1 in let n = a.near p r walk.0 h.0 in (n.0, (let le = n.1 in let m = h.1 in omega (arith, le, m)))

    steps_length : (q : ℕ) (qs : List ℕ) → AreSteps next distances q qs s → get_or distances q 0 ≡ 1 + length qs
    steps_length q [] steps = let c = steps.closer in let z = a.zero in omega (arith, c, z)
    steps_length q (r ∷ qs) steps = let c = steps.0.closer in let h = steps_length r qs steps.1 in omega (arith, c, h)

    steps_walk : (q : ℕ) (qs : List ℕ) → AreSteps next distances q qs s → IsWalk next (q ∷ qs) s
    steps_walk q [] steps = steps.closest.among
    steps_walk q (r ∷ qs) steps = (steps.0.closest.among, steps_walk r qs steps.1)

    found_walk : (tail : List ℕ) → IsFound next distances s tail s → IsWalk next (s ∷ tail) s
    found_walk [] found = found.among
    found_walk (q ∷ qs) found = (found.0.among, steps_walk q qs found.1)

    shortest : (tail points : List ℕ) → IsFound next distances s tail s → IsWalk next (s ∷ points) s → length tail ≤ length points
    shortest [] points found walk = omega arith
    shortest (q ∷ qs) [] found walk = let l = steps_length q qs found.1 in let z = a.zero in elim (found.0.least s walk) [
      | inl less ↦ absurd (omega (arith, less, z))
      | inr same ↦ (let e = same.0 in absurd (omega (arith, e, l, z)))
    ]
    shortest (q ∷ qs) (r ∷ points) found walk = let l = steps_length q qs found.1 in let f = (walk_far r points walk.1).1 in elim (found.0.least r walk.0) [
      | inl less ↦ omega (arith, less, l, f)
      | inr same ↦ (let e = same.0 in omega (arith, e, l, f))
    ]

    not_less : (x r : ℕ) (xs rs : List ℕ) → AreSteps next distances x xs s → IsWalk next (r ∷ rs) s → length rs ≡ length xs → IsBefore distances x r → ¬ (r < x)
    not_less x r xs rs steps walk same before = λ less. let l = steps_length x xs steps in let f = (walk_far r rs walk).1 in elim before [
      | inl closer ↦ omega (arith, closer, l, f, same)
      | inr equal ↦ (let le = equal.1 in omega (arith, le, less))
    ]

    first_steps : (q : ℕ) (qs points : List ℕ) → AreSteps next distances q qs s → IsWalk next (q ∷ points) s → length points ≡ length qs → ¬ (AreBelow points qs)
    first_steps q qs [] steps walk same = λ below. below
    first_steps q [] (r ∷ points) steps walk same = λ below. below
    first_steps q (x ∷ qs) (r ∷ points) steps walk same = λ below. elim below [
      | inl less ↦ not_less x r qs points steps.1 walk.1 (omega (arith, same)) (steps.0.closest.least r walk.0) less
      | inr rest ↦ first_steps x qs points steps.1 (subst (λ (z : ℕ). IsWalk next (z ∷ points) s) rest.0 walk.1) (omega (arith, same)) rest.1
    ]

    first : (tail points : List ℕ) → IsFound next distances s tail s → IsWalk next (s ∷ points) s → length points ≡ length tail → ¬ (AreBelow points tail)
    first tail [] found walk same = λ below. below
    first [] (r ∷ points) found walk same = λ below. below
    first (x ∷ qs) (r ∷ points) found walk same = λ below. elim below [
      | inl less ↦ not_less x r qs points found.1 walk.1 (omega (arith, same)) (found.0.least r walk.0) less
      | inr rest ↦ first_steps x qs points found.1 (subst (λ (z : ℕ). IsWalk next (z ∷ points) s) rest.0 walk.1) (omega (arith, same)) rest.1
    ]

    pub follow_begins : (q : ℕ) → IsGraph next (length distances) → Leads next s s → IsClosest distances (next s) q → IsFollowed next distances s (s ∷ []) q
    follow_begins q graph leads c = record { tail = []; parts = refl; found = c; known = known leads.0 leads.1; within = graph s q c.among }
      where
        known : (points : List ℕ) → IsWalk next (s ∷ points) s → get_or distances q 0 ≢ far
        known [] walk = let z = a.zero in elim (c.least s walk) [
          | inl less ↦ (λ e. absurd (omega (arith, less, z)))
          | inr same ↦ (let f = same.0 in λ e. absurd (omega (arith, f, z, e)))
        ]
        known (r ∷ points) walk = let h = walk_far r points walk.1 in let few = a.few r in elim (c.least r walk.0) [
          | inl less ↦ (λ e. absurd (omega (arith, less, few, e)))
          | inr same ↦ (λ e. h.0 (sym same.0 ∙ e))
        ]

    pub follow_more : (walk : List ℕ) (at q : ℕ) → IsGraph next (length distances) → at ≢ s → IsClosest distances (next at) q → IsFollowed next distances s walk at →
        IsFollowed next distances s (walk ++ at ∷ []) q
    follow_more walk at q graph ne c f = let st = is_step at q f.known (λ z. ne (a.only at f.within z)) c in record {
      tail = f.tail ++ at ∷ [];
      parts = ap (λ (xs : List ℕ). xs ++ at ∷ []) f.parts;
      found = found_push f.tail at q f.found st;
      known = λ e. let few = a.few at in let x = st.closer in absurd (omega (arith, few, x, e));
      within = graph at q c.among;
    }

    pub follow_ends : (walk : List ℕ) (at : ℕ) → at ≡ s → IsFollowed next distances s walk at → IsFirstFrom next s walk
    follow_ends walk at is f = let found = subst (λ (z : ℕ). IsFound next distances s f.tail z) is f.found in record {
      tail = f.tail;
      parts = f.parts;
      closed = found_walk f.tail found;
      shortest = λ points w. shortest f.tail points found w;
      first = λ points w same. first f.tail points found w same;
    }

pub goes_on : (next : ℕ → List ℕ) (distances : List ℕ) (s at : ℕ) (walk : List ℕ) → AreDistances next s distances → at ≢ s → IsFollowed next distances s walk at → (q : ℕ) × IsEdge next at q
goes_on next distances s at walk a ne f = go (get_or distances at 0) refl
  where
    go : (v : ℕ) → get_or distances at 0 ≡ v → (q : ℕ) × IsEdge next at q
    go zero e = absurd (ne (a.only at f.within e))
    go (suc e) is = let q = a.step at e is (λ g. f.known (is ∙ g)) in (q.0, q.1)

pub gets_closer : (next : ℕ → List ℕ) (distances : List ℕ) (s at q : ℕ) (walk : List ℕ) → AreDistances next s distances → at ≢ s → IsFollowed next distances s walk at →
    IsClosest distances (next at) q → get_or distances q 0 < get_or distances at 0
gets_closer next distances s at q walk a ne f c = let st = is_step next distances s a at q f.known (λ z. ne (a.only at f.within z)) c in let x = st.closer in omega (arith, x)
