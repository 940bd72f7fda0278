-- Where points and edges are known and there is no closed walk, there is a weighing, and so a bound.
use Rattle.std.proofs.Common.{◌≡◌, ◌≢◌, ℕ, zero, suc, ◌+◌, ◌<◌, ◌≤◌, ◌⊎◌, inl, inr, List, [], ◌∷◌, length, refl, ap, subst, ◌↔◌, arith}
use Rattle.std.specs.Prelude.{Some, slice_get, sum}
use Rattle.kasa_graph.specs.declared.pattern.Node.{Node}
use Rattle.kasa_graph.specs.Lists.{Has}
use Rattle.kasa_graph.specs.Pattern.{blank_node}
use Rattle.kasa_graph.specs.Signature.{state_counts}
use Rattle.kasa_graph.proofs.ListLemmas.{same_or_not, below_or}
use Rattle.kasa_rules.specs.declared.model.Model.{Model}
use Rattle.kasa_families.specs.Table.{Table}
use Rattle.kasa_polymers.specs.declared.map.Bond.{Bond}
use Rattle.kasa_pre.specs.Allowed.{IsAllowed}
use Rattle.kasa_polymers.specs.Contact.{IsContactBond}
use Rattle.kasa_polymers.specs.StepGraph.{bond_pattern, step_pattern, IsPoint, IsEdge, IsLargest, AreShares, IsWeighing, IsTypeSum, IsAllowedType, IsBound, IsClosedWalk}
use Rattle.kasa_polymers.proofs.Settled.{IsRound, IsAfter, IsWeighing-after}
use Rattle.kasa_polymers.proofs.Walks.{listed_or_not}

-- ---- what is decided

abbrev pub Decided : Type 0 → Type 0
Decided A = A ⊎ (¬ A)

pub both : {A B : Type 0} → Decided A → Decided B → Decided (A × B)
both (inl a) (inl b) = inl (a, b)
both (inl a) (inr none) = inr (λ p. none p.1)
both (inr none) b = inr (λ p. none p.0)

all_three : {A B C : Type 0} → Decided A → Decided B → Decided C → Decided (A × B × C)
all_three (inl a) (inl b) (inl c) = inl (a, b, c)
all_three (inl a) (inl b) (inr none) = inr (λ p. none p.2)
all_three (inl a) (inr none) c = inr (λ p. none p.1)
all_three (inr none) b c = inr (λ p. none p.0)

-- ---- the largest of the listed ones with a property

abbrev Largest : {X : Type 0} → (X → Type 0) → (X → ℕ) → List X → ℕ → Type 0
Largest {X} P w xs n = ((x : X) (k : ℕ) → slice_get xs k ≡ Some x → P x → w x ≤ n) × ((n ≡ 0) ⊎ ((x : X) × P x × (w x ≡ n)))

most-cons : {X : Type 0} (P : X → Type 0) (w : X → ℕ) (x : X) (xs : List X) (n k : ℕ) → (P x → w x ≤ k) → n ≤ k → ((y : X) (i : ℕ) → slice_get xs i ≡ Some y → P y → w y ≤ n) → (y : X) (i : ℕ) → slice_get (x ∷ xs) i ≡ Some y → P y → w y ≤ k
most-cons P w x xs n k first more rest y zero e has = let same : x ≡ y = cc in rw same at first has
most-cons P w x xs n k first more rest y (suc i) e has = let h = rest y i e has in omega arith

largest-cons : {X : Type 0} (P : X → Type 0) (w : X → ℕ) (x : X) (xs : List X) → Decided (P x) → (n : ℕ) → Largest P w xs n → (k : ℕ) × Largest P w (x ∷ xs) k
largest-cons P w x xs (inr none) n rest = (n, (most-cons P w x xs n n (λ has. absurd (none has)) (omega arith) rest.0, rest.1))
largest-cons P w x xs (inl has) n rest = elim (below_or n (w x)) [
  | inl less ↦ (w x, (most-cons P w x xs n (w x) (λ _. omega arith) (omega arith) rest.0, inr (x, has, refl)))
  | inr j ↦ (n, (most-cons P w x xs n n (λ _. let e = j.1 in omega arith) (omega arith) rest.0, rest.1))
]

largest_of : {X : Type 0} (P : X → Type 0) → ((x : X) → Decided (P x)) → (w : X → ℕ) (xs : List X) → (n : ℕ) × Largest P w xs n
largest_of P decided w [] = (0, ((λ x k e has. absurd cc), inl refl))
largest_of P decided w (x ∷ xs) = let rest = largest_of P decided w xs in largest-cons P w x xs (decided x) rest.0 rest.1

-- ---- all numbers below n

numbers : ℕ → List ℕ
numbers zero = []
numbers (suc n) = n ∷ numbers n

Has-numbers : (n a : ℕ) → a < n → Has (numbers n) a
unfolding numbers
Has-numbers zero a h = absurd (omega arith)
Has-numbers (suc n) a h = elim (same_or_not n a) [
  | inl e ↦ (zero, ap Some e)
  | inr ne ↦ let rest = Has-numbers n a (omega arith) in (suc rest.0, rest.1)
]

module _ (model : Model) (tables : List Table) (points : List Bond) (listed : (p : Bond) → IsPoint model tables p → Has points p) where
  -- ---- shares of points

  share_of : (P : Bond → Type 0) → ((q : Bond) → Decided (P q)) → ((q : Bond) → P q → IsPoint model tables q) → (w : Bond → ℕ) → (n : ℕ) × IsLargest model tables P w n
  share_of P decided are w =
      let l = largest_of P decided w points in
      (l.0, ((λ q has. let at = listed q (are q has) in l.1.0 q at.0 at.1 has), l.1.1))

  -- the shares of the first so many sites
  abbrev AreFirst : ℕ → (ℕ → Bond → Type 0) → (Bond → ℕ) → List ℕ → Type 0
  AreFirst count P w shares = (length shares ≡ count) × ((z n : ℕ) → slice_get shares z ≡ Some n → IsLargest model tables (P z) w n)

  first-cons : (P : ℕ → Bond → Type 0) (w : Bond → ℕ) (n : ℕ) (shares : List ℕ) → IsLargest model tables (P 0) w n → ((z k : ℕ) → slice_get shares z ≡ Some k → IsLargest model tables (P (suc z)) w k) → (z k : ℕ) → slice_get (n ∷ shares) z ≡ Some k → IsLargest model tables (P z) w k
  first-cons P w n shares first rest zero k e = let same : n ≡ k = cc in subst (λ (j : ℕ). IsLargest model tables (P 0) w j) same first
  first-cons P w n shares first rest (suc z) k e = rest z k e

  first_shares : (count : ℕ) (P : ℕ → Bond → Type 0) → ((z : ℕ) (q : Bond) → Decided (P z q)) → ((z : ℕ) (q : Bond) → P z q → IsPoint model tables q) → (w : Bond → ℕ) → (shares : List ℕ) × AreFirst count P w shares
  first_shares zero P decided are w = ([], (refl, λ z n e. absurd cc))
  first_shares (suc count) P decided are w =
      let first = share_of (P 0) (decided 0) (are 0) w in
      let rest = first_shares count (λ z. P (suc z)) (λ z. decided (suc z)) (λ z. are (suc z)) w in
      (first.0 ∷ rest.0, ((let e = rest.1.0 in omega arith), first-cons P w first.0 rest.0 first.1 rest.1.1))

  -- ---- weights by rounds

  module _ (edge : (p q : Bond) → Decided (IsEdge model tables p q)) where
    edge_shares : (w : Bond → ℕ) (p : Bond) → (shares : List ℕ) × AreShares model tables p.b (λ z q. IsEdge model tables p q × (q.x ≡ z)) w shares
    edge_shares w p = first_shares (length (state_counts model.sig p.b)) (λ z q. IsEdge model tables p q × (q.x ≡ z)) (λ z q. both (edge p q) (same_or_not q.x z)) (λ z q has. let e = has.0 in e.to) w

    weight_after : ℕ → Bond → ℕ
    weight_after zero p = 0
    weight_after (suc k) p = 1 + sum (edge_shares (weight_after k) p).0

    round : (k : ℕ) → IsRound model tables (weight_after k) (weight_after (suc k))
    unfolding weight_after
    round k p point = let s = edge_shares (weight_after k) p in (s.0, s.1, refl)

    after : (k : ℕ) → IsAfter model tables k (weight_after k)
    after zero = tt
    after (suc k) = (weight_after k, after k, round k)

    module _ (none : (walk : List Bond) → ¬ IsClosedWalk model tables walk) where
      weighing_after : IsWeighing model tables (weight_after (length points))
      weighing_after = IsWeighing-after model tables points (weight_after (length points)) (weight_after (suc (length points))) listed none (after (length points)) (round (length points))

      module _ (point : (q : Bond) → Decided (IsPoint model tables q)) (allowed : (a : ℕ) → Decided (IsAllowedType model tables a)) where
        type_sum : (a : ℕ) → (k : ℕ) × IsTypeSum model tables (weight_after (length points)) a k
        type_sum a =
            let s = first_shares (length (state_counts model.sig a)) (λ x q. IsPoint model tables q × (q.a ≡ a) × (q.x ≡ x)) (λ x q. all_three (point q) (same_or_not q.a a) (same_or_not q.x x)) (λ x q has. has.0) (weight_after (length points)) in
            (1 + sum s.0, (s.0, s.1, refl))

        bound_after : (n : ℕ) × IsBound model tables n
        bound_after =
            let l = largest_of (IsAllowedType model tables) allowed (λ a. (type_sum a).0) (numbers (length model.sig)) in (
              l.0,
              record {
                weight = weight_after (length points);
                weighing = weighing_after;
                largest = λ a ok. let at = Has-numbers (length model.sig) a ok.0 in ((type_sum a).0, (type_sum a).1, l.1.0 a at.0 at.1 ok);
                reached = elim l.1.1 [
                  | inl nothing ↦ inl nothing
                  | inr (a, ok, is) ↦ inr (a, ok, subst (λ (k : ℕ). IsTypeSum model tables (weight_after (length points)) a k) is (type_sum a).1)
                ];
              },
            )

-- ---- where the bonds of the contact map are listed, and allowed patterns are known

module _ (model : Model) (tables : List Table) (bonds : List Bond) (map_of : (p : Bond) → IsContactBond model tables p ↔ Has bonds p) (decided : (g : List Node) → Decided (IsAllowed model.sig tables g)) where
  contact_or_not : (p : Bond) → Decided (IsContactBond model tables p)
  contact_or_not p = elim (listed_or_not bonds p) [ inl has ↦ inl ((map_of p).1 has) | inr out ↦ inr (λ is. let has = (map_of p).0 is in out has.0 has.1) ]

  point_or_not : (p : Bond) → Decided (IsPoint model tables p)
  point_or_not p = both (contact_or_not p) (decided (bond_pattern model.sig p))

  pub edge_or_not : (p q : Bond) → Decided (IsEdge model tables p q)
  edge_or_not p q = by_parts (point_or_not p) (point_or_not q) (same_or_not p.b q.a) (same_or_not q.x p.y) (decided (step_pattern model.sig p q))
    where
      by_parts : Decided (IsPoint model tables p) → Decided (IsPoint model tables q) → (p.b ≡ q.a) ⊎ (p.b ≢ q.a) → (q.x ≡ p.y) ⊎ (q.x ≢ p.y) → Decided (IsAllowed model.sig tables (step_pattern model.sig p q)) → Decided (IsEdge model tables p q)
      by_parts (inr not_from) to on same ok = inr (λ e. not_from e.from)
      by_parts (inl from) (inr not_to) on same ok = inr (λ e. not_to e.to)
      by_parts (inl from) (inl to) (inr not_on) same ok = inr (λ e. not_on e.goes_on)
      by_parts (inl from) (inl to) (inl on) (inl same) ok = inr (λ e. e.other_site same)
      by_parts (inl from) (inl to) (inl on) (inr other) (inr not_ok) = inr (λ e. not_ok e.allowed)
      by_parts (inl from) (inl to) (inl on) (inr other) (inl ok) = inl (record { from = from; to = to; goes_on = on; other_site = other; allowed = ok })

  type_or_not : (a : ℕ) → Decided (IsAllowedType model tables a)
  type_or_not a = elim (below_or a (length model.sig)) [
    | inl less ↦ both (inl less) (decided (blank_node model.sig a ∷ []))
    | inr k ↦ inr (λ ok. let e = k.1 in let h = ok.0 in omega arith)
  ]

  pub bound_exists : ((walk : List Bond) → ¬ IsClosedWalk model tables walk) → (n : ℕ) × IsBound model tables n
  bound_exists none = bound_after model tables bonds (λ p point. (map_of p).0 point.0) edge_or_not none point_or_not type_or_not
