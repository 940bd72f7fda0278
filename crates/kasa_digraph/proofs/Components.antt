-- The strongly connected components, from the order in which a search leaves the points.
use Rattle.std.proofs.Common.{◌≡◌, ◌≢◌, ◌<◌, ◌≤◌, ◌+◌, ℕ, List, [], ◌∷◌, ◌++◌, true, false, length, take, set, get_or, replicate, refl, sym, ap, subst, ◌∙◌, arith, ◌⊎◌, inl, inr}
use Rattle.std.specs.Prelude.{slice_get}
use Rattle.std.proofs.lemmas.Bool.{cases_lt, cases_eq}
use Rattle.std.proofs.lemmas.List.{length-set, length-replicate, get_or-set_same, get_or-set_other, get_or-replicate}
use Rattle.kasa_digraph.specs.Graph.{has, IsEdge, IsWalk, IsClosedWalk, IsCyclic, IsGraph, Leads}
use Rattle.kasa_digraph.specs.inner.Search.{IsFinished, IsFinishOrder}
use Rattle.kasa_digraph.specs.inner.Flood.{far, IsSpread}
use Rattle.kasa_digraph.specs.FirstCycle.{FirstBelow, AreBelow, IsFirstCycle}
use Rattle.kasa_digraph.specs.inner.Cycle.{IsFirstFrom, IsReverse, AreAssigned, IsFlooding, AreComponents}
use Rattle.kasa_digraph.proofs.Lists.{true_false, is_false, in_cons, in_head, in_append, in_left, in_last, in_at, in_taken, place}
use Rattle.kasa_digraph.proofs.Walks.{edge_leads, leads_on}
use Rattle.kasa_digraph.proofs.Distances.{far_within}

module _ (next : ℕ → List ℕ) (n : ℕ) (order : List ℕ) (f : IsFinishOrder next n order) (starts : (p q : ℕ) → IsEdge next p q → p < n) where
  module _ (k : ℕ) (below : k < length order) (small : k < far) where
    abbrev r : ℕ
    r = get_or order k 0

    abbrev fin : IsFinished next (take k order) (get_or order k 0)
    fin = f.finished k below

    r_within : get_or order k 0 < n
    r_within = f.within (get_or order k 0) (in_at order k below)

    r_out : has (f.finished k below).before (get_or order k 0) ≡ false
    r_out = is_false (has (f.finished k below).before (get_or order k 0)) (λ h.
        true_false (sym (subst (λ (xs : List ℕ). has xs (get_or order k 0) ≡ true) (sym (f.finished k below).parts) (in_left (f.finished k below).before (f.finished k below).own _ h)) ∙ (f.finished k below).fresh))

    pub assign_begins : (components : List ℕ) → get_or components (get_or order k 0) 0 ≡ far → AreAssigned next n order (k + 1) components →
        IsFlooding next n order k (f.finished k below).before (get_or order k 0 ∷ []) (set components (get_or order k 0) k)
    assign_begins components was a = record {
      size = length-set components (get_or order k 0) k ∙ a.size;
      all = λ j h l. elim (cases_eq j k) [
        | inl is ↦ (let e = now (get_or order j 0) (ap (λ (i : ℕ). get_or order i 0) is) in λ g. absurd (omega (arith, e, g, small)))
        | inr ne ↦ kept (get_or order j 0) (a.all j (omega (arith, h, ne)) l)
      ];
      least = λ x w known. elim (cases_eq x (get_or order k 0)) [
        | inl is ↦ (let e = now x is in omega (arith, e))
        | inr ne ↦ (let e = there x ne in let l = a.least x w (λ g. known (e ∙ g)) in omega (arith, e, l))
      ];
      root = λ x w known. elim (cases_eq x (get_or order k 0)) [
        | inl is ↦ inl (is ∙ ap (λ (i : ℕ). get_or order i 0) (sym (now x is)))
        | inr ne ↦ (let P : ℕ → Type 0 = λ v. (x ≡ get_or order v 0) ⊎ (Leads next x (get_or order v 0) × Leads next (get_or order v 0) x) in
            subst P (sym (there x ne)) (a.root x w (λ g. known (there x ne ∙ g))))
      ];
      falls = λ x y w known e. elim (cases_eq x (get_or order k 0)) [
        | inl is ↦ (let P : ℕ → Type 0 = λ z. has (get_or order k 0 ∷ []) z ≡ true in inl (subst P (sym is) (in_head (get_or order k 0) [])))
        | inr ne ↦ (let h = a.falls x y w (λ g. known (there x ne ∙ g)) e in
            let y_ne : y ≢ get_or order k 0 = λ is. h.0 (ap (λ (i : ℕ). get_or components i 0) is ∙ was) in
            let s = there y y_ne in let t = there x ne in let le = h.1 in
            inr ((λ g. h.0 (sym s ∙ g)), omega (arith, s, t, le)))
      ];
      at_layer = λ x h. now x (only x h);
      within = λ x h. (let e = only x h in let w = r_within in omega (arith, e, w));
      out = λ x h. (let P : ℕ → Type 0 = λ z. has (f.finished k below).before z ≡ false in subst P (sym (only x h)) r_out);
      early = λ x h. (let P : ℕ → Type 0 = λ z. has (take k order ++ get_or order k 0 ∷ []) z ≡ true in subst P (sym (only x h)) (in_last (take k order) (get_or order k 0)));
    }
      where
        now : (x : ℕ) → x ≡ get_or order k 0 → get_or (set components (get_or order k 0) k) x 0 ≡ k
        now x is = ap (λ (i : ℕ). get_or (set components (get_or order k 0) k) i 0) is
            ∙ get_or-set_same components (get_or order k 0) k 0 (let w = r_within in omega (arith, w, a.size))

        there : (x : ℕ) → x ≢ get_or order k 0 → get_or (set components (get_or order k 0) k) x 0 ≡ get_or components x 0
        there x ne = get_or-set_other components (get_or order k 0) x k 0 ne

        kept : (x : ℕ) → get_or components x 0 ≢ far → get_or (set components (get_or order k 0) k) x 0 ≢ far
        kept x known = let ne : x ≢ get_or order k 0 = λ is. known (ap (λ (i : ℕ). get_or components i 0) is ∙ was) in λ g. known (sym (there x ne) ∙ g)

        only : (x : ℕ) → has (get_or order k 0 ∷ []) x ≡ true → x ≡ get_or order k 0
        only x h = elim (in_cons (get_or order k 0) [] x h) [ inl is ↦ is | inr bad ↦ true_false (sym bad) ]

    module _ (back : ℕ → List ℕ) (reverse : IsReverse next back) (layer found old new : List ℕ)
        (a : IsFlooding next n order k (f.finished k below).before layer old)
        (s : IsSpread (λ y. (x : ℕ) × (has layer x ≡ true) × IsEdge back x y) k old new [] found) where
      kept : (x : ℕ) → get_or old x 0 ≢ far → get_or new x 0 ≡ get_or old x 0
      kept x known = elim (s.cases x) [ inl same ↦ same | inr m ↦ absurd (known m.0) ]

      -- a point that has its label now stands early in the order, not among `before`, and is reached from the root
      record New (y : ℕ) : Type 0 where
        out : has (f.finished k below).before y ≡ false
        early : has (take k order) y ≡ true
        to_root : Leads next y (get_or order k 0)
        from_root : Leads next (get_or order k 0) y

      new_at : (y : ℕ) → get_or old y 0 ≡ far → ((x : ℕ) × (has layer x ≡ true) × IsEdge back x y) → New y
      new_at y was from = record { out = out; early = early; to_root = to_root; from_root = from_root }
        where
          edge : IsEdge next y from.0
          edge = reverse.only y from.0 from.2

          within : y < n
          within = let w = far_within old y was in omega (arith, w, a.size)

          early : has (take k order) y ≡ true
          early = let at = place order y (f.all y (let w = far_within old y was in omega (arith, w, a.size))) in elim (cases_lt at.0 k) [
            | inl less ↦ subst (λ (z : ℕ). has (take k order) z ≡ true) at.2 (in_taken order at.0 k less (omega (arith, below)))
            | inr more ↦ absurd (a.all at.0 more at.1 (ap (λ (z : ℕ). get_or old z 0) at.2 ∙ was))
          ]

          out : has (f.finished k below).before y ≡ false
          out = is_false (has (f.finished k below).before y) (λ h. elim ((f.finished k below).settled y from.0 h (reverse.only y from.0 from.2)) [
            | inl b ↦ true_false (sym b ∙ a.out from.0 from.1)
            | inr o ↦ true_false (sym (a.early from.0 from.1) ∙ o)
          ])

          to_root : Leads next y (get_or order k 0)
          to_root = let at = a.at_layer from.0 from.1 in let w = a.within from.0 from.1 in
              elim (subst (λ (v : ℕ). (from.0 ≡ get_or order v 0) ⊎ (Leads next from.0 (get_or order v 0) × Leads next (get_or order v 0) from.0)) at
              (a.root from.0 w (λ g. absurd (omega (arith, at, g, small))))) [
                | inl is ↦ (let P : ℕ → Type 0 = λ z. IsEdge next y z in edge_leads next y (get_or order k 0) (subst P is (reverse.only y from.0 from.2)))
                | inr both ↦ leads_on next y from.0 (get_or order k 0) (edge_leads next y from.0 (reverse.only y from.0 from.2)) both.0
              ]

          from_root : Leads next (get_or order k 0) y
          from_root = elim (in_append (f.finished k below).before (f.finished k below).own y (subst (λ (xs : List ℕ). has xs y ≡ true) (f.finished k below).parts early)) [
            | inl b ↦ true_false (sym b ∙ out)
            | inr own ↦ (f.finished k below).leads y own
          ]

      pub assign_more : IsFlooding next n order k (f.finished k below).before found new
      assign_more = record {
        size = s.size ∙ a.size;
        all = λ j h l. (let known = a.all j h l in λ g. known (sym (kept (get_or order j 0) known) ∙ g));
        least = λ x w known. elim (s.cases x) [
          | inl same ↦ (let l = a.least x w (λ g. known (same ∙ g)) in omega (arith, same, l))
          | inr m ↦ (let e = m.1 in omega (arith, e))
        ];
        root = λ x w known. elim (s.cases x) [
          | inl same ↦ (let P : ℕ → Type 0 = λ v. (x ≡ get_or order v 0) ⊎ (Leads next x (get_or order v 0) × Leads next (get_or order v 0) x) in
              subst P (sym same) (a.root x w (λ g. known (same ∙ g))))
          | inr m ↦ (let P : ℕ → Type 0 = λ v. (x ≡ get_or order v 0) ⊎ (Leads next x (get_or order v 0) × Leads next (get_or order v 0) x) in
              let new = new_at x m.0 m.3 in subst P (sym m.1) (inr (new.to_root, new.from_root)))
        ];
        falls = λ x y w known e. elim (s.cases x) [
          | inr m ↦ inl m.2
          | inl same ↦ elim (a.falls x y w (λ g. known (same ∙ g)) e) [
            | inl in_layer ↦ (let reached = s.reached y (x, in_layer, reverse.back_to y x e) in let at = a.at_layer x in_layer in let l = least y x e reached in
                inr (reached, omega (arith, same, at, l)))
            | inr old ↦ (let stays = kept y old.0 in let le = old.1 in inr ((λ g. old.0 (sym stays ∙ g)), omega (arith, stays, same, le)))
          ]
        ];
        at_layer = λ x h. elim (s.found x h) [ inl bad ↦ true_false (sym bad) | inr m ↦ m.1 ];
        within = λ x h. elim (s.found x h) [ inl bad ↦ true_false (sym bad) | inr m ↦ (let w = far_within old x m.0 in omega (arith, w, a.size)) ];
        out = λ x h. (fresh x h).out;
        early = λ x h. in_left (take k order) (get_or order k 0 ∷ []) x (fresh x h).early;
      }
        where
          least : (y x : ℕ) → IsEdge next y x → get_or new y 0 ≢ far → k ≤ get_or new y 0
          least y x e known = elim (s.cases y) [
            | inl same ↦ elim (cases_lt y n) [
              | inl w ↦ (let l = a.least y w (λ g. known (same ∙ g)) in omega (arith, same, l))
              | inr w ↦ (let h = starts y x e in absurd (omega (arith, w, h)))
            ]
            | inr m ↦ (let e = m.1 in omega (arith, e))
          ]

          fresh : (x : ℕ) → has found x ≡ true → New x
          fresh x h = elim (s.found x h) [
            | inl bad ↦ true_false (sym bad)
            | inr m ↦ elim (s.cases x) [
              | inl same ↦ absurd (let g : k ≡ far = sym m.1 ∙ same ∙ m.0 in omega (arith, g, small))
              | inr p ↦ new_at x p.0 p.3
            ]
          ]

  pub assign_ends : (k : ℕ) (before layer components : List ℕ) → layer ≡ [] → IsFlooding next n order k before layer components → AreAssigned next n order k components
  assign_ends k before layer components none a = record {
    size = a.size;
    all = a.all;
    least = a.least;
    root = a.root;
    falls = λ x y w known e. elim (a.falls x y w known e) [
      | inl h ↦ true_false (sym h ∙ ap (λ (xs : List ℕ). has xs x) none)
      | inr done ↦ done
    ];
  }

  pub assign_skips : (k : ℕ) (components : List ℕ) → get_or components (get_or order k 0) 0 ≢ far → AreAssigned next n order (k + 1) components → AreAssigned next n order k components
  assign_skips k components known a = record {
    size = a.size;
    all = λ j h l. elim (cases_eq j k) [
      | inl is ↦ (let P : ℕ → Type 0 = λ i. get_or components (get_or order i 0) 0 ≢ far in subst P (sym is) known)
      | inr ne ↦ a.all j (omega (arith, h, ne)) l
    ];
    least = λ x w g. (let l = a.least x w g in omega (arith, l));
    root = a.root;
    falls = a.falls;
  }

  pub assign_none : (k : ℕ) → length order ≤ k → AreAssigned next n order k (replicate n far)
  assign_none k h = record {
    size = length-replicate n far;
    all = λ j le l. absurd (omega (arith, h, le, l));
    least = λ x w known. absurd (known (get_or-replicate n x far 0 w));
    root = λ x w known. absurd (known (get_or-replicate n x far 0 w));
    falls = λ x y w known e. absurd (known (get_or-replicate n x far 0 w));
  }

  pub components_from : (components : List ℕ) → IsGraph next n → AreAssigned next n order 0 components → AreComponents next n components
  components_from components graph a = record {
    falls = λ y x e. (a.falls x y (graph y x e) (known x (graph y x e)) e).1;
    joined = λ x y wx wy same. (let P : ℕ → Type 0 = λ v. (x ≡ get_or order v 0) ⊎ (Leads next x (get_or order v 0) × Leads next (get_or order v 0) x) in
        let rx = subst P same (a.root x wx (known x wx)) in let ry = a.root y wy (known y wy) in
        elim rx [
          | inl ex ↦ elim ry [
            | inl ey ↦ inl (ex ∙ sym ey)
            | inr ly ↦ inr (let Q : ℕ → Type 0 = λ z. Leads next z y in subst Q (sym ex) ly.1)
          ]
          | inr lx ↦ elim ry [
            | inl ey ↦ inr (let Q : ℕ → Type 0 = λ z. Leads next x z in subst Q (sym ey) lx.0)
            | inr ly ↦ inr (leads_on next x _ y lx.0 ly.1)
          ]
        ]);
  }
    where
      known : (x : ℕ) → x < n → get_or components x 0 ≢ far
      known x w = let at = place order x (f.all x w) in
          let P : ℕ → Type 0 = λ z. get_or components z 0 ≢ far in subst P at.2 (a.all at.0 (omega arith) at.1)

-- ---- the least point on a cycle

module _ (next : ℕ → List ℕ) (n : ℕ) (components : List ℕ) (a : AreComponents next n components) where
  falls_walk : (p : ℕ) (points : List ℕ) (q : ℕ) → IsWalk next (p ∷ points) q → get_or components q 0 ≤ get_or components p 0
  falls_walk p [] q walk = a.falls p q walk
  falls_walk p (r ∷ points) q walk = let x = a.falls p r walk.0 in let y = falls_walk r points q walk.1 in omega (arith, x, y)

  pub cycle_same : (p : ℕ) → Leads next p p → (q : ℕ) × IsEdge next p q × (get_or components q 0 ≡ get_or components p 0)
  cycle_same p (points, walk) = go points walk
    where
      go : (points : List ℕ) → IsWalk next (p ∷ points) p → (q : ℕ) × IsEdge next p q × (get_or components q 0 ≡ get_or components p 0)
      go [] walk = (p, walk, refl)
      go (r ∷ points) walk = (r, walk.0, (let x = a.falls p r walk.0 in let y = falls_walk r points p walk.1 in omega (arith, x, y)))

  pub same_cycle : (p q : ℕ) → p < n → q < n → IsEdge next p q → get_or components q 0 ≡ get_or components p 0 → Leads next p p
  same_cycle p q wp wq e same = elim (a.joined q p wq wp same) [
    | inl is ↦ (let P : ℕ → Type 0 = λ z. IsEdge next p z in edge_leads next p p (subst P is e))
    | inr back ↦ leads_on next p q p (edge_leads next p q e) back
  ]

-- ---- the first cycle

pub first_cycle_is : (next : ℕ → List ℕ) (s : ℕ) (cycle : List ℕ) → ((p : ℕ) → p < s → ¬ (Leads next p p)) → IsFirstFrom next s cycle → IsFirstCycle next cycle
first_cycle_is next s cycle least f = subst (λ (xs : List ℕ). IsFirstCycle next xs) (sym f.parts) (record {
  closed = f.closed;
  least_start = starts;
  shortest = shortest;
  first = first;
})
  where
    starts : (other : List ℕ) → IsClosedWalk next other → ¬ (FirstBelow other (s ∷ f.tail))
    starts [] closed below = below
    starts (p ∷ points) closed below = least p below (points, closed)

    shortest : (other : List ℕ) → IsClosedWalk next other → slice_get other 0 ≡ slice_get (s ∷ f.tail) 0 → length (s ∷ f.tail) ≤ length other
    shortest [] closed same = absurd closed
    shortest (p ∷ points) closed same = let is : p ≡ s = cc in
        let h = f.shortest points (subst (λ (z : ℕ). IsWalk next (z ∷ points) z) is closed) in omega (arith, h)

    first : (other : List ℕ) → IsClosedWalk next other → slice_get other 0 ≡ slice_get (s ∷ f.tail) 0 → length other ≡ length (s ∷ f.tail) → ¬ (AreBelow other (s ∷ f.tail))
    first [] closed same long below = closed
    first (p ∷ points) closed same long below = let is : p ≡ s = cc in elim below [
      | inl less ↦ omega (arith, less, is)
      | inr rest ↦ f.first points (subst (λ (z : ℕ). IsWalk next (z ∷ points) z) is closed) (omega (arith, long)) rest.1
    ]

pub no_cycle : (next : ℕ → List ℕ) → ((p : ℕ) → ¬ (Leads next p p)) → ¬ (IsCyclic next)
no_cycle next none (walk, closed) = go walk closed
  where
    go : (walk : List ℕ) → ¬ (IsClosedWalk next walk)
    go [] closed = closed
    go (p ∷ points) closed = none p (points, closed)
