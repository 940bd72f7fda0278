-- Where points and edges are known, a first cycle is found, or there is no closed walk.
use Rattle.std.proofs.Common.{◌≡◌, ℕ, zero, suc, ◌<◌, ◌≤◌, ◌⊎◌, inl, inr, List, [], ◌∷◌, length, refl, subst, arith}
use Rattle.std.specs.Prelude.{Some, slice_get}
use Rattle.kasa_graph.specs.Lists.{Has, AllDifferent}
use Rattle.kasa_graph.proofs.ListLemmas.{below_or, AllDifferent-tail, AllDifferent-cons, AllDifferent-[]}
use Rattle.kasa_rules.specs.declared.model.Model.{Model}
use Rattle.kasa_families.specs.Table.{Table}
use Rattle.kasa_polymers.specs.declared.map.Bond.{Bond}
use Rattle.kasa_polymers.specs.StepGraph.{IsPoint, IsEdge, IsWalk, IsClosedWalk, IsFirstCycle}
use Rattle.kasa_polymers.specs.Order.{IsBondBelow, AreBondsBelow, FirstBelow}
use Rattle.kasa_polymers.proofs.Different.{length-different}
use Rattle.kasa_polymers.proofs.Walks.{listed_or_not}
use Rattle.kasa_polymers.proofs.OrderLemmas.{bonds_ordered, not_below_self, below-trans}
use Rattle.kasa_polymers.proofs.Rounds.{Decided, both}

-- ---- the least bond and the least number with a property

all-cons : (Q : Bond → Type 0) (x : Bond) (xs : List Bond) → Q x → ((y : Bond) (k : ℕ) → slice_get xs k ≡ Some y → Q y) → (y : Bond) (k : ℕ) → slice_get (x ∷ xs) k ≡ Some y → Q y
all-cons Q x xs first rest y zero e = let same : x ≡ y = cc in subst Q same first
all-cons Q x xs first rest y (suc k) e = rest y k e

abbrev Least : (Bond → Type 0) → List Bond → Type 0
Least P xs = (r : Bond) × P r × ((y : Bond) (k : ℕ) → slice_get xs k ≡ Some y → P y → ¬ IsBondBelow y r)

abbrev NoneOf : (Bond → Type 0) → List Bond → Type 0
NoneOf P xs = (y : Bond) (k : ℕ) → slice_get xs k ≡ Some y → ¬ P y

least-cons : (P : Bond → Type 0) (x : Bond) (xs : List Bond) → Decided (P x) → Least P xs ⊎ NoneOf P xs → Least P (x ∷ xs) ⊎ NoneOf P (x ∷ xs)
least-cons P x xs (inr not_x) (inr none) = inr (all-cons (λ y. ¬ P y) x xs not_x none)
least-cons P x xs (inr not_x) (inl (r, has, least)) = inl (r, has, all-cons (λ y. P y → ¬ IsBondBelow y r) x xs (λ has_x. absurd (not_x has_x)) least)
least-cons P x xs (inl has_x) (inr none) = inl (x, has_x, all-cons (λ y. P y → ¬ IsBondBelow y x) x xs (λ _. not_below_self x) (λ y k e has. absurd (none y k e has)))
least-cons P x xs (inl has_x) (inl (r, has, least)) = elim (bonds_ordered x r) [
  | inl less ↦ inl (x, has_x, all-cons (λ y. P y → ¬ IsBondBelow y x) x xs (λ _. not_below_self x) (λ y k e has_y lower. least y k e has_y (below-trans y x r lower less)))
  | inr (inl same) ↦ inl (r, has, all-cons (λ y. P y → ¬ IsBondBelow y r) x xs (λ _ lower. not_below_self r (subst (λ (z : Bond). IsBondBelow z r) same lower)) least)
  | inr (inr more) ↦ inl (r, has, all-cons (λ y. P y → ¬ IsBondBelow y r) x xs (λ _ lower. not_below_self x (below-trans x r x lower more)) least)
]

least_of : (P : Bond → Type 0) → ((q : Bond) → Decided (P q)) → (xs : List Bond) → Least P xs ⊎ NoneOf P xs
least_of P decided [] = inr (λ y k e. absurd cc)
least_of P decided (x ∷ xs) = least-cons P x xs (decided x) (least_of P decided xs)

least_number : (P : ℕ → Type 0) → ((k : ℕ) → Decided (P k)) → (n : ℕ) → ((k : ℕ) × (k < n) × P k × ((j : ℕ) → P j → k ≤ j)) ⊎ ((j : ℕ) → j < n → ¬ P j)
least_number P decided zero = inr (λ j h. absurd (omega arith))
least_number P decided (suc n) = elim (least_number P decided n) [
  | inl (k, h, has, least) ↦ inl (k, (omega arith), has, least)
  | inr none ↦ elim (decided n) [
    | inl has ↦ inl (n, (omega arith), has, λ j has_j. elim (below_or j n) [ inl less ↦ absurd (none j less has_j) | inr i ↦ (let e = i.1 in omega arith) ])
    | inr not_n ↦ inr (λ j h has_j. elim (below_or j n) [ inl less ↦ none j less has_j | inr i ↦ (let same : j ≡ n = (let e = i.1 in omega arith) in not_n (subst P same has_j)) ])
  ]
]

module _ (model : Model) (tables : List Table) where
  -- ---- a walk without repeats

  -- a walk from p to q by different points, of which there are at most so many behind p
  abbrev Straight : Bond → Bond → ℕ → Type 0
  Straight p q n = (ys : List Bond) × IsWalk model tables (p ∷ ys) q × AllDifferent (p ∷ ys) × (length ys ≤ n)

  from_there : (k : ℕ) (x p q : Bond) (zs : List Bond) (n : ℕ) → slice_get (x ∷ zs) k ≡ Some p → IsWalk model tables (x ∷ zs) q → AllDifferent (x ∷ zs) → length zs ≤ n → Straight p q n
  from_there zero x p q zs n e walk different h = let same : x ≡ p = cc in subst (λ (r : Bond). Straight r q n) same (zs, walk, different, h)
  from_there (suc k) x p q [] n e walk different h = absurd cc
  from_there (suc k) x p q (z ∷ zs) n e walk different h = from_there k z p q zs n e walk.1 (AllDifferent-tail x (z ∷ zs) different) (omega arith)

  straight : (xs : List Bond) (p q : Bond) → IsWalk model tables (p ∷ xs) q → Straight p q (length xs)
  straight [] p q walk = ([], walk, AllDifferent-cons p [] (λ i e. cc) AllDifferent-[], omega arith)
  straight (x ∷ xs) p q walk =
      let rest = straight xs x q walk.1 in
      elim (listed_or_not (x ∷ rest.0) p) [
        | inl has ↦ from_there has.0 x p q rest.0 (suc (length xs)) has.1 rest.1 rest.2 (let h = rest.3 in omega arith)
        | inr out ↦ (x ∷ rest.0, (walk.0, rest.1), AllDifferent-cons p (x ∷ rest.0) out rest.2, let h = rest.3 in omega arith)
      ]

  pub are_points : (xs : List Bond) (p q : Bond) → IsWalk model tables (p ∷ xs) q → (s : Bond) (k : ℕ) → slice_get (p ∷ xs) k ≡ Some s → IsPoint model tables s
  are_points [] p q walk s zero e = let same : p ≡ s = cc in subst (λ (r : Bond). IsPoint model tables r) same walk.from
  are_points [] p q walk s (suc k) e = absurd cc
  are_points (x ∷ xs) p q walk s zero e = let same : p ≡ s = cc in subst (λ (r : Bond). IsPoint model tables r) same (let edge = walk.0 in edge.from)
  are_points (x ∷ xs) p q walk s (suc k) e = are_points xs x q walk.1 s k e

  -- ---- walks of a length

  abbrev pub Goes : ℕ → Bond → Bond → Type 0
  Goes zero p q = IsEdge model tables p q
  Goes (suc k) p q = (r : Bond) × IsEdge model tables p r × Goes k r q

  goes : (xs : List Bond) (p q : Bond) → IsWalk model tables (p ∷ xs) q → Goes (length xs) p q
  goes [] p q walk = walk
  goes (x ∷ xs) p q walk = (x, walk.0, goes xs x q walk.1)

  -- the first of the walks of a length
  abbrev pub FirstWalk : ℕ → Bond → Bond → Type 0
  FirstWalk k p q = (xs : List Bond) × (length xs ≡ k) × IsWalk model tables (p ∷ xs) q × ((ys : List Bond) → length ys ≡ k → IsWalk model tables (p ∷ ys) q → ¬ AreBondsBelow ys xs)

  pub first-cons : (k : ℕ) (p q r : Bond) → IsEdge model tables p r → ((y : Bond) → IsEdge model tables p y × Goes k y q → ¬ IsBondBelow y r) → FirstWalk k r q → FirstWalk (suc k) p q
  first-cons k p q r edge least rest = (r ∷ rest.0, (let e = rest.1 in omega arith), (edge, rest.2), before)
    where
      before : (ys : List Bond) → length ys ≡ suc k → IsWalk model tables (p ∷ ys) q → ¬ AreBondsBelow ys (r ∷ rest.0)
      before [] e walk below = below
      before (y ∷ ys) e walk (inl lower) = least y (walk.0, let same : length ys ≡ k = omega arith in subst (λ (n : ℕ). Goes n y q) same (goes ys y q walk.1)) lower
      before (y ∷ ys) e walk (inr (same, lower)) = rest.3 ys (omega arith) (subst (λ (z : Bond). IsWalk model tables (z ∷ ys) q) same walk.1) lower

  module _ (points : List Bond) (listed : (p : Bond) → IsPoint model tables p → Has points p) where
    -- ---- closed walks

    -- a closed walk from p that is no longer than there are points
    abbrev pub Closes : Bond → Type 0
    Closes p = (k : ℕ) × (k < length points) × Goes k p p

    pub closes : (p : Bond) (xs : List Bond) → IsWalk model tables (p ∷ xs) p → Closes p
    closes p xs walk =
        let s = straight xs p p walk in
        let h = length-different (p ∷ s.0) points s.2 (λ r has. listed r (are_points s.0 p p s.1 r has.0 has.1)) in
        (length s.0, (omega arith), goes s.0 p p s.1)

    -- the least bond at which a walk closes, and the first of its shortest ones
    pub first_cycle_at : (p : Bond) → ((y : Bond) → Closes y → ¬ IsBondBelow y p) → (k : ℕ) → ((j : ℕ) → Goes j p p → k ≤ j) → (w : FirstWalk k p p) → IsFirstCycle model tables (p ∷ w.0)
    first_cycle_at p least k short w = record { closed = w.2; least_start = start; shortest = shorter; first = before }
      where
        start : (other : List Bond) → IsClosedWalk model tables other → ¬ FirstBelow other (p ∷ w.0)
        start [] closed below = below
        start (q ∷ ys) closed below = least q (closes q ys closed) below

        shorter : (other : List Bond) → IsClosedWalk model tables other → slice_get other 0 ≡ slice_get (p ∷ w.0) 0 → length (p ∷ w.0) ≤ length other
        shorter [] closed e = absurd closed
        shorter (q ∷ ys) closed e =
            let same : q ≡ p = cc in
            let h = short (length ys) (goes ys p p (subst (λ (z : Bond). IsWalk model tables (z ∷ ys) z) same closed)) in
            let long = w.1 in omega arith

        before : (other : List Bond) → IsClosedWalk model tables other → slice_get other 0 ≡ slice_get (p ∷ w.0) 0 → length other ≡ length (p ∷ w.0) → ¬ AreBondsBelow other (p ∷ w.0)
        before [] closed e long below = below
        before (q ∷ ys) closed e long (inl lower) = let same : q ≡ p = cc in not_below_self p (subst (λ (z : Bond). IsBondBelow z p) same lower)
        before (q ∷ ys) closed e long (inr (_, lower)) =
            let same : q ≡ p = cc in
            let far = w.1 in
            w.3 ys (omega arith) (subst (λ (z : Bond). IsWalk model tables (z ∷ ys) z) same closed) lower

    -- ---- what is found where edges are known

    module _ (edge : (p q : Bond) → Decided (IsEdge model tables p q)) where
      least_point : (P : Bond → Type 0) → ((q : Bond) → Decided (P q)) → ((q : Bond) → P q → IsPoint model tables q) → ((r : Bond) × P r × ((y : Bond) → P y → ¬ IsBondBelow y r)) ⊎ ((y : Bond) → ¬ P y)
      least_point P decided are = elim (least_of P decided points) [
        | inl (r, has, least) ↦ inl (r, has, λ y has_y. let at = listed y (are y has_y) in least y at.0 at.1 has_y)
        | inr none ↦ inr (λ y has_y. let at = listed y (are y has_y) in none y at.0 at.1 has_y)
      ]

      point_on : (k : ℕ) (p q : Bond) → Goes k p q → IsPoint model tables p
      point_on zero p q e = e.from
      point_on (suc k) p q g = let e = g.1 in e.from

      goes_or_not : (k : ℕ) (p q : Bond) → Decided (Goes k p q)
      goes_or_not zero p q = edge p q
      goes_or_not (suc k) p q = elim (least_point (λ r. IsEdge model tables p r × Goes k r q) (λ r. both (edge p r) (goes_or_not k r q)) (λ r has. point_on k r q has.1)) [
        | inl (r, has, least) ↦ inl (r, has.0, has.1)
        | inr none ↦ inr (λ g. none g.0 (g.1, g.2))
      ]

      first_walk : (k : ℕ) (p q : Bond) → Goes k p q → FirstWalk k p q
      first_walk zero p q e = ([], refl, e, λ ys long walk below. not_short ys long below)
        where
          not_short : (ys : List Bond) → length ys ≡ 0 → ¬ AreBondsBelow ys []
          not_short [] long below = below
          not_short (y ∷ ys) long below = below
      first_walk (suc k) p q g = elim (least_point (λ r. IsEdge model tables p r × Goes k r q) (λ r. both (edge p r) (goes_or_not k r q)) (λ r has. point_on k r q has.1)) [
        | inl (r, has, least) ↦ first-cons k p q r has.0 least (first_walk k r q has.1)
        | inr none ↦ absurd (none g.0 (g.1, g.2))
      ]

      closes_or_not : (p : Bond) → Decided (Closes p)
      closes_or_not p = elim (least_number (λ k. Goes k p p) (λ k. goes_or_not k p p) (length points)) [
        | inl (k, h, g, least) ↦ inl (k, h, g)
        | inr none ↦ inr (λ c. none c.0 c.1 c.2)
      ]

      shortest_walk : (p : Bond) → Closes p → (k : ℕ) × Goes k p p × ((j : ℕ) → Goes j p p → k ≤ j)
      shortest_walk p c = elim (least_number (λ k. Goes k p p) (λ k. goes_or_not k p p) (length points)) [
        | inl (k, h, g, least) ↦ (k, g, least)
        | inr none ↦ absurd (none c.0 c.1 c.2)
      ]

      pub first_cycle_or_none : ((walk : List Bond) × IsFirstCycle model tables walk) ⊎ ((walk : List Bond) → ¬ IsClosedWalk model tables walk)
      first_cycle_or_none = elim (least_point Closes closes_or_not (λ q c. point_on c.0 q q c.2)) [
        | inl (p, c, least) ↦
            let s = shortest_walk p c in
            let w = first_walk s.0 p p s.1 in
            inl (p ∷ w.0, first_cycle_at p least s.0 s.2 w)
        | inr none ↦ inr (no_walk none)
      ]
        where
          no_walk : ((p : Bond) → ¬ Closes p) → (walk : List Bond) → ¬ IsClosedWalk model tables walk
          no_walk none [] closed = closed
          no_walk none (p ∷ xs) closed = none p (closes p xs closed)
