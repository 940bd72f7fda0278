-- The steps of a search depth first.
use Rattle.std.proofs.Common.{◌≡◌, ◌<◌, ◌+◌, ◌^◌, ℕ, zero, suc, List, [], ◌∷◌, ◌++◌, Bool, true, false, length, set, replicate, get_or, refl, sym, ap, subst, ◌∙◌, arith, ◌⊎◌, inl, inr}
use Rattle.std.specs.Prelude.{Vec}
use Rattle.std.proofs.lemmas.Bool.{cases_lt, cases_eq}
use Rattle.std.proofs.lemmas.List.{append-nil, append_assoc, length-set, length-replicate, length_push, get_or-set_same, get_or-set_other, get_or_past}
use Rattle.std.proofs.lemmas.List.Sums.{sum_by-set}
use Rattle.std.proofs.lemmas.List.Folds.{sum_by-replicate}
use Rattle.kasa_digraph.specs.declared.search.Task.{Task}
use Rattle.kasa_digraph.specs.declared.search.Task.TheVariants.{Visit, Leave}
use Rattle.kasa_digraph.specs.Graph.{has, successors, IsEdge, IsGraph, Leads}
use Rattle.kasa_digraph.specs.inner.Search.{is_seen, leaves, visits, with_visits, IsFinished, IsFinishOrder, IsOpen, AreOpen, AreReached, ArePlanned, IsSearch, not_seen, unseen, work}
use Rattle.kasa_digraph.proofs.Lists.{true_false, is_false, in_cons, in_head, in_tail, in_left, in_push, in_last, not_in_push, at_push}
use Rattle.kasa_digraph.proofs.Walks.{edge_leads, leads_on}

-- ---- what was seen

pub seen_here : (seen : List Bool) (p : ℕ) → p < length seen → is_seen (set seen p true) p ≡ true
seen_here seen p h = get_or-set_same seen p true false h

pub seen_kept : (seen : List Bool) (p x : ℕ) → p < length seen → is_seen seen x ≡ true → is_seen (set seen p true) x ≡ true
seen_kept seen p x h e = elim (cases_eq x p) [
  | inl is ↦ (let P : ℕ → Type 0 = λ z. is_seen (set seen p true) z ≡ true in subst P (sym is) (seen_here seen p h))
  | inr ne ↦ get_or-set_other seen p x true false ne ∙ e
]

pub seen_back : (seen : List Bool) (p x : ℕ) → is_seen (set seen p true) x ≡ true → (is_seen seen x ≡ true) ⊎ (x ≡ p)
seen_back seen p x e = elim (cases_eq x p) [
  | inl is ↦ inr is
  | inr ne ↦ inl (sym (get_or-set_other seen p x true false ne) ∙ e)
]

pub seen_within : (seen : List Bool) (x : ℕ) → is_seen seen x ≡ true → x < length seen
seen_within seen x e = elim (cases_lt x (length seen)) [
  | inl h ↦ h
  | inr h ↦ true_false (sym e ∙ get_or_past seen x false h)
]

-- ---- visits on top

pub with_visits_push : (qs : List ℕ) (q : ℕ) (ts : List Task) → with_visits (qs ++ q ∷ []) ts ≡ Visit q ∷ with_visits qs ts
with_visits_push [] q ts = refl
with_visits_push (x ∷ qs) q ts = with_visits_push qs q (Visit x ∷ ts)

pub leaves_under : (qs : List ℕ) (ts : List Task) → leaves (with_visits qs ts) ≡ leaves ts
leaves_under [] ts = refl
leaves_under (q ∷ qs) ts = leaves_under qs (Visit q ∷ ts)

visits_back : (qs : List ℕ) (ts : List Task) (x : ℕ) → has (visits (with_visits qs ts)) x ≡ true → (has qs x ≡ true) ⊎ (has (visits ts) x ≡ true)
visits_back [] ts x h = inr h
visits_back (q ∷ qs) ts x h = elim (visits_back qs (Visit q ∷ ts) x h) [
  | inl e ↦ inl (in_tail q qs x e)
  | inr e ↦ elim (in_cons q (visits ts) x e) [
    | inl is ↦ (let P : ℕ → Type 0 = λ z. has (q ∷ qs) z ≡ true in inl (subst P (sym is) (in_head q qs)))
    | inr old ↦ inr old
  ]
]

visits_under : (qs : List ℕ) (ts : List Task) (x : ℕ) → has (visits ts) x ≡ true → has (visits (with_visits qs ts)) x ≡ true
visits_under [] ts x h = h
visits_under (q ∷ qs) ts x h = visits_under qs (Visit q ∷ ts) x (in_tail q (visits ts) x h)

pub length_with_visits : (qs : List ℕ) (ts : List Task) → length (with_visits qs ts) ≡ length qs + length ts
length_with_visits [] ts = omega arith
length_with_visits (q ∷ qs) ts = let e = length_with_visits qs (Visit q ∷ ts) in omega arith

module _ (next : ℕ → List ℕ) where
  reached_visits : (qs : List ℕ) (ts : List Task) → AreReached next ts → ((q p : ℕ) → has qs q ≡ true → has (leaves ts) p ≡ true → Leads next p q) →
      AreReached next (with_visits qs ts)
  reached_visits [] ts old new = old
  reached_visits (q ∷ qs) ts old new = reached_visits qs (Visit q ∷ ts) ((λ p. new q p (in_head q qs)), old) (λ x p h. new x p (in_tail q qs x h))

  opened_visits : (qs : List ℕ) (ts : List Task) (done : List ℕ) → AreOpen next ts done → AreOpen next (with_visits qs ts) done
  opened_visits [] ts done old = old
  opened_visits (q ∷ qs) ts done old = opened_visits qs (Visit q ∷ ts) done old

  planned_visits : (seen : List Bool) (qs above : List ℕ) (ts : List Task) → ArePlanned next seen (qs ++ above) ts → ArePlanned next seen above (with_visits qs ts)
  planned_visits seen [] above ts old = old
  planned_visits seen (q ∷ qs) above ts old = planned_visits seen qs above (Visit q ∷ ts) old

  planned_more : (seen later : List Bool) (above over : List ℕ) (ts : List Task) → ((y : ℕ) → is_seen seen y ≡ true → is_seen later y ≡ true) →
      ((y : ℕ) → has above y ≡ true → (is_seen later y ≡ true) ⊎ (has over y ≡ true)) → ArePlanned next seen above ts → ArePlanned next later over ts
  planned_more seen later above over [] kept more old = tt
  planned_more seen later above over (Visit q ∷ ts) kept more old = planned_more seen later (q ∷ above) (q ∷ over) ts kept (wider q) old
    where
      wider : (q y : ℕ) → has (q ∷ above) y ≡ true → (is_seen later y ≡ true) ⊎ (has (q ∷ over) y ≡ true)
      wider q y h = elim (in_cons q above y h) [
        | inl is ↦ (let P : ℕ → Type 0 = λ z. has (q ∷ over) z ≡ true in inr (subst P (sym is) (in_head q over)))
        | inr e ↦ elim (more y e) [ inl s ↦ inl s | inr o ↦ inr (in_tail q over y o) ]
      ]
  planned_more seen later above over (Leave p ∷ ts) kept more old = (
    (λ y e. elim (old.0 y e) [ inl s ↦ inl (kept y s) | inr a ↦ more y a ]),
    planned_more seen later above over ts kept more old.1,
  )

  opened_more : (ts : List Task) (done : List ℕ) (p : ℕ) → ((q : ℕ) → has (leaves ts) q ≡ true → Leads next q p) → AreOpen next ts done → AreOpen next ts (done ++ p ∷ [])
  opened_more [] done p leads old = tt
  opened_more (Visit q ∷ ts) done p leads old = opened_more ts done p leads old
  opened_more (Leave q ∷ ts) done p leads old = (
    record {
      before = old.0.before;
      own = old.0.own ++ p ∷ [];
      parts = ap (λ (xs : List ℕ). xs ++ p ∷ []) old.0.parts ∙ append_assoc old.0.before old.0.own (p ∷ []);
      leads = λ x h. elim (in_push old.0.own p x h) [
        | inl e ↦ old.0.leads x e
        | inr is ↦ (let P : ℕ → Type 0 = λ z. Leads next q z in subst P (sym is) (leads q (in_head q (leaves ts))))
      ];
      settled = old.0.settled;
      once = old.0.once;
    },
    opened_more ts done p (λ x h. leads x (in_tail q (leaves ts) x h)) old.1,
  )

  -- ---- the steps

  module _ (n : ℕ) where
    pub search_skips : (seen : List Bool) (p : ℕ) (ts : List Task) (done : List ℕ) → is_seen seen p ≡ true →
        IsSearch next n seen (Visit p ∷ ts) done → IsSearch next n seen ts done
    search_skips seen p ts done was s = record {
      size = s.size;
      reached = s.reached.1;
      planned = planned_more seen seen (p ∷ []) [] ts (λ y e. e) (λ y h. elim (in_cons p [] y h) [ inl is ↦ inl (seen_at y is) | inr bad ↦ true_false (sym bad) ]) s.planned;
      opened = s.opened;
      finished = s.finished;
      seen_are = s.seen_are;
      done_seen = s.done_seen;
      leaves_seen = s.leaves_seen;
      apart = s.apart;
      closed = s.closed;
      visits_in = λ x h. s.visits_in x (in_tail p (visits ts) x h);
      all = λ x h. elim (s.all x h) [
        | inl e ↦ inl e
        | inr e ↦ elim (in_cons p (visits ts) x e) [ inl is ↦ inl (seen_at x is) | inr old ↦ inr old ]
      ];
      count = s.count;
    }
      where
        seen_at : (y : ℕ) → y ≡ p → is_seen seen y ≡ true
        seen_at y is = let P : ℕ → Type 0 = λ z. is_seen seen z ≡ true in subst P (sym is) was

    pub search_leaves : (seen : List Bool) (p : ℕ) (ts : List Task) (done : List ℕ) →
        IsSearch next n seen (Leave p ∷ ts) done → IsSearch next n seen ts (done ++ p ∷ [])
    search_leaves seen p ts done s = record {
      size = s.size;
      reached = s.reached.1;
      planned = s.planned.1;
      opened = opened_more ts done p s.reached.0 s.opened.1;
      finished = at_push (λ xs x. IsFinished next xs x) done p s.finished (record {
        before = o.before;
        own = o.own;
        parts = o.parts;
        leads = o.leads;
        settled = λ x y h e. elim (o.settled x y h e) [ inl b ↦ inl b | inr u ↦ inr (not_done y u) ];
        fresh = s.apart p (in_head p (leaves ts));
      });
      seen_are = λ x e. elim (s.seen_are x e) [
        | inl d ↦ inl (in_left done (p ∷ []) x d)
        | inr l ↦ elim (in_cons p (leaves ts) x l) [ inl is ↦ inl (last x is) | inr old ↦ inr old ]
      ];
      done_seen = λ x h. elim (in_push done p x h) [ inl d ↦ s.done_seen x d | inr is ↦ p_seen x is ];
      leaves_seen = λ x h. s.leaves_seen x (in_tail p (leaves ts) x h);
      apart = not_done;
      closed = λ x y h e. elim (in_push done p x h) [ inl d ↦ s.closed x y d e | inr is ↦ from_p x y is e ];
      visits_in = s.visits_in;
      all = s.all;
      count = let c = s.count in let l = length_push done p in omega (arith, c, l);
    }
      where
        o : IsOpen next done (leaves ts) p
        o = s.opened.0

        not_done : (y : ℕ) → has (leaves ts) y ≡ true → has (done ++ p ∷ []) y ≡ false
        not_done y u = not_in_push done p y (s.apart y (in_tail p (leaves ts) y u))
            (λ is. let P : ℕ → Type 0 = λ z. has (leaves ts) z ≡ true in true_false (sym (subst P is u) ∙ s.opened.0.once))

        last : (x : ℕ) → x ≡ p → has (done ++ p ∷ []) x ≡ true
        last x is = let P : ℕ → Type 0 = λ z. has (done ++ p ∷ []) z ≡ true in subst P (sym is) (in_last done p)

        p_seen : (x : ℕ) → x ≡ p → is_seen seen x ≡ true
        p_seen x is = let P : ℕ → Type 0 = λ z. is_seen seen z ≡ true in subst P (sym is) (s.leaves_seen p (in_head p (leaves ts)))

        from_p : (x y : ℕ) → x ≡ p → IsEdge next x y → is_seen seen y ≡ true
        from_p x y is e = let P : ℕ → Type 0 = λ z. IsEdge next z y in elim (s.planned.0 y (subst P is e)) [ inl h ↦ h | inr bad ↦ true_false (sym bad) ]

    pub search_enters : (seen : List Bool) (p : ℕ) (ts : List Task) (done : List ℕ) → IsGraph next n → is_seen seen p ≡ false →
        IsSearch next n seen (Visit p ∷ ts) done → IsSearch next n (set seen p true) (with_visits (next p) (Leave p ∷ ts)) done
    search_enters seen p ts done graph new s = record {
      size = length-set seen p true ∙ s.size;
      reached = reached_visits (next p) (Leave p ∷ ts) ((λ q h. s.reached.0 q h), s.reached.1) (λ q r h l. elim (in_cons p (leaves ts) r l) [
        | inl is ↦ (let P : ℕ → Type 0 = λ z. Leads next z q in subst P (sym is) (edge_leads next p q h))
        | inr old ↦ leads_on next r p q (s.reached.0 r old) (edge_leads next p q h)
      ]);
      planned = planned_visits (set seen p true) (next p) [] (Leave p ∷ ts) (
        (λ y e. inr (in_left (next p) [] y e)),
        planned_more seen (set seen p true) (p ∷ []) (next p ++ []) ts kept (λ y h. elim (in_cons p [] y h) [ inl is ↦ inl (here y is) | inr bad ↦ true_false (sym bad) ]) s.planned,
      );
      opened = opened_visits (next p) (Leave p ∷ ts) done (
        record {
          before = done;
          own = [];
          parts = sym (append-nil done);
          leads = λ x h. true_false (sym h);
          settled = λ x y h e. s.seen_are y (s.closed x y h e);
          once = is_false (has (leaves ts) p) (λ h. true_false (sym (s.leaves_seen p h) ∙ new));
        },
        s.opened,
      );
      finished = s.finished;
      seen_are = λ x e. elim (seen_back seen p x e) [
        | inl old ↦ elim (s.seen_are x old) [ inl d ↦ inl d | inr l ↦ inr (below x (in_tail p (leaves ts) x l)) ]
        | inr is ↦ inr (below x (let P : ℕ → Type 0 = λ z. has (p ∷ leaves ts) z ≡ true in subst P (sym is) (in_head p (leaves ts))))
      ];
      done_seen = λ x h. kept x (s.done_seen x h);
      leaves_seen = λ x h. elim (in_cons p (leaves ts) x (above x h)) [ inl is ↦ here x is | inr old ↦ kept x (s.leaves_seen x old) ];
      apart = λ x h. elim (in_cons p (leaves ts) x (above x h)) [ inl is ↦ not_done x is | inr old ↦ s.apart x old ];
      closed = λ x y h e. kept y (s.closed x y h e);
      visits_in = λ x h. elim (visits_back (next p) (Leave p ∷ ts) x h) [
        | inl e ↦ graph p x e
        | inr old ↦ s.visits_in x (in_tail p (visits ts) x old)
      ];
      all = λ x h. elim (s.all x h) [
        | inl e ↦ inl (kept x e)
        | inr e ↦ elim (in_cons p (visits ts) x e) [ inl is ↦ inl (here x is) | inr old ↦ inr (visits_under (next p) (Leave p ∷ ts) x old) ]
      ];
      count = let c = s.count in let l = ap length (leaves_under (next p) (Leave p ∷ ts)) in let e = sum_by-set not_seen seen p true false within in
          let was : not_seen (get_or seen p false) ≡ 1 = ap not_seen new in omega (arith, c, l, e, was);
    }
      where
        within : p < length seen
        within = let h : p < n = s.visits_in p (in_head p (visits ts)) in omega (arith, s.size)

        kept : (y : ℕ) → is_seen seen y ≡ true → is_seen (set seen p true) y ≡ true
        kept y e = seen_kept seen p y within e

        here : (y : ℕ) → y ≡ p → is_seen (set seen p true) y ≡ true
        here y is = let P : ℕ → Type 0 = λ z. is_seen (set seen p true) z ≡ true in subst P (sym is) (seen_here seen p within)

        below : (x : ℕ) → has (p ∷ leaves ts) x ≡ true → has (leaves (with_visits (next p) (Leave p ∷ ts))) x ≡ true
        below x h = ap (λ (xs : List ℕ). has xs x) (leaves_under (next p) (Leave p ∷ ts)) ∙ h

        above : (x : ℕ) → has (leaves (with_visits (next p) (Leave p ∷ ts))) x ≡ true → has (p ∷ leaves ts) x ≡ true
        above x h = sym (ap (λ (xs : List ℕ). has xs x) (leaves_under (next p) (Leave p ∷ ts))) ∙ h

        not_done : (x : ℕ) → x ≡ p → has done x ≡ false
        not_done x is = let P : ℕ → Type 0 = λ z. has done z ≡ false in
            subst P (sym is) (is_false (has done p) (λ h. true_false (sym (s.done_seen p h) ∙ new)))

    pub search_ends : (seen : List Bool) (done : List ℕ) → IsSearch next n seen [] done → IsFinishOrder next n done
    search_ends seen done s = record {
      all = λ x h. elim (s.all x h) [
        | inl e ↦ elim (s.seen_are x e) [ inl d ↦ d | inr bad ↦ true_false (sym bad) ]
        | inr bad ↦ true_false (sym bad)
      ];
      within = λ x h. let w : x < length seen = seen_within seen x (s.done_seen x h) in omega (arith, s.size);
      finished = s.finished;
      few = let c = s.count in omega (arith, c);
    }

-- ---- a task that is known

pub successors_at : {Z : Type 0} (graph : List (Vec ℕ Z)) (p : ℕ) (v : Vec ℕ Z) → p < length graph → v ≡ get_or graph p v → successors graph p ≡ v.items
successors_at [] p v h is = absurd (omega arith)
successors_at (w ∷ graph) zero v h is = ap (λ (u : Vec ℕ _). u.items) (sym is)
successors_at (w ∷ graph) (suc p) v h is = successors_at graph p v (omega arith) is

pub edge_at : {Z : Type 0} (graph : List (Vec ℕ Z)) (p : ℕ) (v : Vec ℕ Z) (ws : List ℕ) → p < length graph → v ≡ get_or graph p v → ws ≡ v.items →
    (q : ℕ) → has ws q ≡ true → IsEdge (successors graph) p q
edge_at graph p v ws h is same q e = subst (λ (xs : List ℕ). has xs q ≡ true) (same ∙ sym (successors_at graph p v h is)) e

pub at_edge : {Z : Type 0} (graph : List (Vec ℕ Z)) (p : ℕ) (v : Vec ℕ Z) (ws : List ℕ) → p < length graph → v ≡ get_or graph p v → ws ≡ v.items →
    (q : ℕ) → IsEdge (successors graph) p q → has ws q ≡ true
at_edge graph p v ws h is same q e = subst (λ (xs : List ℕ). has xs q ≡ true) (sym (same ∙ sym (successors_at graph p v h is))) e

pub at_task : (next : ℕ → List ℕ) (n : ℕ) (seen : List Bool) (task t : Task) (ts : List Task) (done : List ℕ) → task ≡ t →
    IsSearch next n seen (task ∷ ts) done → IsSearch next n seen (t ∷ ts) done
at_task next n seen task t ts done is s = subst (λ (u : Task). IsSearch next n seen (u ∷ ts) done) is s

pub visit_within : (next : ℕ → List ℕ) (n : ℕ) (seen : List Bool) (task : Task) (p : ℕ) (ts : List Task) (done : List ℕ) → task ≡ Visit p →
    IsSearch next n seen (task ∷ ts) done → p < n
visit_within next n seen task p ts done is s = (at_task next n seen task (Visit p) ts done is s).visits_in p (in_head p (visits ts))

-- ---- the work falls

pub work_enters : (seen : List Bool) (p : ℕ) (qs : List ℕ) (ts : List Task) → p < length seen → is_seen seen p ≡ false → length qs < 2 ^ 64 →
    work (set seen p true) (with_visits qs (Leave p ∷ ts)) < work seen (Visit p ∷ ts)
work_enters seen p qs ts h new few =
    let e = sum_by-set unseen seen p true false h in
    let was : unseen (get_or seen p false) ≡ 2 ^ 64 + 1 = ap unseen new in
    omega (arith, length_with_visits qs (Leave p ∷ ts))

-- ---- the start

no_leaves : (next : ℕ → List ℕ) (ts : List Task) → leaves ts ≡ [] → AreReached next ts
no_leaves next [] none = tt
no_leaves next (Visit q ∷ ts) none = ((λ p h. let e : has (leaves ts) p ≡ false = ap (λ (xs : List ℕ). has xs p) none in true_false (sym h ∙ e)), no_leaves next ts none)
no_leaves next (Leave p ∷ ts) none = absurd (let bad : ⊥ = cc in bad)

no_leaves_open : (next : ℕ → List ℕ) (ts : List Task) (done : List ℕ) → leaves ts ≡ [] → AreOpen next ts done
no_leaves_open next [] done none = tt
no_leaves_open next (Visit q ∷ ts) done none = no_leaves_open next ts done none
no_leaves_open next (Leave p ∷ ts) done none = absurd (let bad : ⊥ = cc in bad)

no_leaves_planned : (next : ℕ → List ℕ) (seen : List Bool) (above : List ℕ) (ts : List Task) → leaves ts ≡ [] → ArePlanned next seen above ts
no_leaves_planned next seen above [] none = tt
no_leaves_planned next seen above (Visit q ∷ ts) none = no_leaves_planned next seen (q ∷ above) ts none
no_leaves_planned next seen above (Leave p ∷ ts) none = absurd (let bad : ⊥ = cc in bad)

unseen_all : (n x : ℕ) → is_seen (replicate n false) x ≡ true → ⊥
unseen_all zero x e = cc
unseen_all (suc n) zero e = cc
unseen_all (suc n) (suc x) e = unseen_all n x e

pub search_begins : (next : ℕ → List ℕ) (n : ℕ) (ts : List Task) → leaves ts ≡ [] → ((p : ℕ) → p < n → has (visits ts) p ≡ true) →
    ((p : ℕ) → has (visits ts) p ≡ true → p < n) → IsSearch next n (replicate n false) ts []
search_begins next n ts none all within = record {
  size = length-replicate n false;
  reached = no_leaves next ts none;
  planned = no_leaves_planned next (replicate n false) [] ts none;
  opened = no_leaves_open next ts [] none;
  finished = λ k h. absurd (omega arith);
  seen_are = λ x e. absurd (unseen_all n x e);
  done_seen = λ x h. true_false (sym h);
  leaves_seen = λ x h. true_false (sym h ∙ no_leaf x);
  apart = λ x h. true_false (sym h ∙ no_leaf x);
  closed = λ x y h e. true_false (sym h);
  visits_in = within;
  all = λ x h. inr (all x h);
  count = let e = sum_by-replicate not_seen n false in let l : length (leaves ts) ≡ 0 = ap length none in omega (arith, e, l);
}
  where
    no_leaf : (x : ℕ) → has (leaves ts) x ≡ false
    no_leaf x = ap (λ (xs : List ℕ). has xs x) none
