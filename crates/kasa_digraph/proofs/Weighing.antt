-- Shares and weights, exact and cut off.
use Rattle.std.proofs.Common.{◌≡◌, ◌≢◌, ◌<◌, ◌≤◌, ◌+◌, ◌^◌, ℕ, zero, suc, List, [], ◌∷◌, Bool, true, min, max, sum, map, length, take, set, replicate, get_or, nat_eq, refl, sym, ap, subst, ◌∙◌, arith, ◌⊎◌, inl, inr, if◌then◌else◌}
use Rattle.std.specs.List.{fold}
use Rattle.std.proofs.lemmas.Bool.{cases_lt, cases_eq, eqb-true}
use Rattle.std.proofs.lemmas.List.{length-set, length-replicate, get_or-set_same, get_or-set_other, map-set, take_all}
use Rattle.std.proofs.lemmas.List.Sums.{sum_by-cons}
use Rattle.kasa_digraph.specs.Graph.{has, IsOrder}
use Rattle.kasa_digraph.specs.Weight.{IsLargest, AreShares, IsWeight, AreWeights}
use Rattle.kasa_digraph.specs.inner.Weigh.{AreWeighed, with_share, shares_of}
use Rattle.kasa_digraph.proofs.Orders.{after_old}
use Rattle.kasa_digraph.proofs.Lists.{true_false, same, in_cons, in_head, in_tail, is_false, taken_back}

-- ---- shares are the largest weights

pub get_or-zeros : (m z : ℕ) → ◌≡◌ {A = ℕ} (get_or (replicate m 0) z 0) 0
get_or-zeros zero z = refl
get_or-zeros (suc m) zero = refl
get_or-zeros (suc m) (suc z) = get_or-zeros m z

module _ (group weight : ℕ → ℕ) where
  length-with_shares : (qs best : List ℕ) → length (fold (with_share group weight) best qs) ≡ length best
  length-with_shares [] best = refl
  length-with_shares (q ∷ qs) best = length-with_shares qs (with_share group weight best q) ∙ length-set best (group q) (max (get_or best (group q) 0) (weight q))

  record Found (best : List ℕ) (qs : List ℕ) (z n : ℕ) : Type 0 where
    above : get_or best z 0 ≤ n
    each : (q : ℕ) → has qs q ≡ true → group q ≡ z → weight q ≤ n
    from : (n ≡ get_or best z 0) ⊎ ((q : ℕ) × (has qs q ≡ true) × (group q ≡ z) × (weight q ≡ n))

  found_step : (q : ℕ) (qs best : List ℕ) (z : ℕ) → z < length best →
      Found (with_share group weight best q) qs z (get_or (fold (with_share group weight) (with_share group weight best q) qs) z 0) →
      Found best (q ∷ qs) z (get_or (fold (with_share group weight) (with_share group weight best q) qs) z 0)
  found_step q qs best z h rest = elim (cases_eq z (group q)) [
    | inl is ↦ record {
      above = let e = here is in let r = rest.above in omega (arith, r, e);
      each = λ r e g. elim (in_cons q qs r e) [
        | inl this ↦ (let w : weight r ≡ weight q = ap weight this in let e = here is in let a = rest.above in omega (arith, a, e, w))
        | inr other ↦ rest.each r other g
      ];
      from = elim rest.from [
        | inl kept ↦ elim (cases_lt (weight q) (get_or best z 0)) [
          | inl less ↦ inl (let e = here is in omega (arith, kept, e, less))
          | inr more ↦ inr (q, in_head q qs, sym is, (let e = here is in omega (arith, kept, e, more)))
        ]
        | inr other ↦ inr (other.0, in_tail q qs other.0 other.1, other.2, other.3)
      ];
    }
    | inr ne ↦ record {
      above = let e = there ne in let r = rest.above in omega (arith, r, e);
      each = λ r e g. elim (in_cons q qs r e) [
        | inl this ↦ absurd (ne (sym g ∙ ap group this))
        | inr other ↦ rest.each r other g
      ];
      from = elim rest.from [
        | inl kept ↦ inl (kept ∙ there ne)
        | inr other ↦ inr (other.0, in_tail q qs other.0 other.1, other.2, other.3)
      ];
    }
  ]
    where
      here : z ≡ group q → get_or (with_share group weight best q) z 0 ≡ max (get_or best z 0) (weight q)
      here is = ap (λ (k : ℕ). get_or (with_share group weight best q) k 0) is
          ∙ get_or-set_same best (group q) (max (get_or best (group q) 0) (weight q)) 0 (omega (arith, is, h))
          ∙ ap (λ (k : ℕ). max (get_or best k 0) (weight q)) (sym is)

      there : z ≢ group q → get_or (with_share group weight best q) z 0 ≡ get_or best z 0
      there ne = get_or-set_other best (group q) z (max (get_or best (group q) 0) (weight q)) 0 ne

  found : (qs best : List ℕ) (z : ℕ) → z < length best → Found best qs z (get_or (fold (with_share group weight) best qs) z 0)
  found [] best z h = record { above = omega arith; each = λ q e. true_false (sym e); from = inl refl }
  found (q ∷ qs) best z h = found_step q qs best z h
      (found qs (with_share group weight best q) z (let l = length-set best (group q) (max (get_or best (group q) 0) (weight q)) in omega (arith, l, h)))

  pub shares_are : (m : ℕ) (qs : List ℕ) → AreShares group weight qs m (shares_of group weight m qs)
  shares_are m qs = (length-with_shares qs (replicate m 0) ∙ length-replicate {A = ℕ} m 0, largest)
    where
      largest : (z : ℕ) → z < m → IsLargest (λ q. (has qs q ≡ true) × (group q ≡ z)) weight (get_or (shares_of group weight m qs) z 0)
      largest z h = let f = found qs (replicate m 0) z (omega (arith, length-replicate {A = ℕ} m 0, h)) in (
        (λ q p. f.each q p.0 p.1),
        elim f.from [
          | inl e ↦ inl (e ∙ get_or-zeros m z)
          | inr g ↦ inr (g.0, (g.1, g.2), g.3)
        ],
      )

-- the shares of a list rest on the weights of its own points alone
pub same_shares : (group weight other : ℕ → ℕ) (best qs : List ℕ) → ((q : ℕ) → has qs q ≡ true → weight q ≡ other q) →
    fold (with_share group weight) best qs ≡ fold (with_share group other) best qs
same_shares group weight other best [] same = refl
same_shares group weight other best (q ∷ qs) same =
    ap (λ (n : ℕ). fold (with_share group weight) (set best (group q) (max (get_or best (group q) 0) n)) qs) (same q (in_head q qs))
    ∙ same_shares group weight other (with_share group other best q) qs (λ r h. same r (in_tail q qs r h))

-- ---- cut off

abbrev cut : ℕ → ℕ
cut n = min n (2 ^ 64)

get_or-cut : (xs : List ℕ) (k : ℕ) → get_or (map cut xs) k 0 ≡ cut (get_or xs k 0)
get_or-cut [] k = omega arith
get_or-cut (x ∷ xs) zero = refl
get_or-cut (x ∷ xs) (suc k) = get_or-cut xs k

cut_zeros : (m : ℕ) → replicate m 0 ≡ map cut (replicate m 0)
cut_zeros zero = refl
cut_zeros (suc m) = let z : 0 ≡ cut 0 = omega arith in ap (λ (n : ℕ). n ∷ replicate m 0) z ∙ ap (λ (xs : List ℕ). cut 0 ∷ xs) (cut_zeros m)

cut_shares : (group weight value : ℕ → ℕ) (best qs : List ℕ) → ((q : ℕ) → has qs q ≡ true → value q ≡ cut (weight q)) →
    fold (with_share group value) (map cut best) qs ≡ map cut (fold (with_share group weight) best qs)
cut_shares group weight value best [] same = refl
cut_shares group weight value best (q ∷ qs) same =
    let v = same q (in_head q qs) in
    let g = get_or-cut best (group q) in
    let m : max (get_or (map cut best) (group q) 0) (value q) ≡ cut (max (get_or best (group q) 0) (weight q)) = omega (arith, v, g) in
    let step : with_share group value (map cut best) q ≡ map cut (with_share group weight best q) =
    ap (λ (n : ℕ). set (map cut best) (group q) n) m ∙ sym (map-set cut best (group q) (max (get_or best (group q) 0) (weight q))) in
    ap (λ (b : List ℕ). fold (with_share group value) b qs) step
    ∙ cut_shares group weight value (with_share group weight best q) qs (λ r h. same r (in_tail q qs r h))

cut_sum : (xs : List ℕ) → cut (sum (map cut xs)) ≡ cut (sum xs)
cut_sum [] = refl
cut_sum (x ∷ xs) = let e = cut_sum xs in
    let a = sum_by-cons (λ (n : ℕ). n) (cut x) (map cut xs) in
    let b = sum_by-cons (λ (n : ℕ). n) x xs in
    omega (arith, e, a, b)

-- what the program finds from values that are cut off is the weight, cut off
pub cut_weight : (group weight value : ℕ → ℕ) (m : ℕ) (qs : List ℕ) → ((q : ℕ) → has qs q ≡ true → value q ≡ cut (weight q)) →
    min (1 + sum (shares_of group value m qs)) (2 ^ 64) ≡ min (1 + sum (shares_of group weight m qs)) (2 ^ 64)
cut_weight group weight value m qs same =
    let e : shares_of group value m qs ≡ map cut (shares_of group weight m qs) =
    ap (λ (b : List ℕ). fold (with_share group value) b qs) (cut_zeros m) ∙ cut_shares group weight value (replicate m 0) qs same in
    let s = ap sum e in
    let c = cut_sum (shares_of group weight m qs) in
    omega (arith, s, c)

-- ---- one point more

update : (ℕ → ℕ) → ℕ → ℕ → ℕ → ℕ
update weight p n q = if nat_eq q p then n else weight q

update_here : (weight : ℕ → ℕ) (p n : ℕ) → update weight p n p ≡ n
unfolding update
update_here weight p n = ap (λ (b : Bool). if b then n else weight p) (same p)

update_there : (weight : ℕ → ℕ) (p n q : ℕ) → q ≢ p → update weight p n q ≡ weight q
unfolding update
update_there weight p n q ne = ap (λ (b : Bool). if b then n else weight q) (is_false (nat_eq q p) (λ e. ne (eqb-true q p e)))

pub weigh_none : (next : ℕ → List ℕ) (group groups : ℕ → ℕ) (values : List ℕ) → AreWeighed next group groups [] values
weigh_none next group groups values = record { weight = λ p. 0; weighing = λ p h. true_false (sym h); capped = λ p h. true_false (sym h) }

largest_same : (P : ℕ → Type 0) (weight other : ℕ → ℕ) (n : ℕ) → ((q : ℕ) → P q → weight q ≡ other q) → IsLargest P weight n → IsLargest P other n
largest_same P weight other n same l = (
  (λ q h. let e = same q h in let le = l.0 q h in omega (arith, e, le)),
  elim l.1 [
    | inl none ↦ inl none
    | inr at ↦ inr (at.0, at.1, sym (same at.0 at.1) ∙ at.2)
  ],
)

weight_same : (group weight other : ℕ → ℕ) (qs : List ℕ) (m n : ℕ) → ((q : ℕ) → has qs q ≡ true → weight q ≡ other q) → IsWeight group weight qs m n → IsWeight group other qs m n
weight_same group weight other qs m n same w = (w.0, (w.1.0, λ z h. largest_same (λ q. (has qs q ≡ true) × (group q ≡ z)) weight other (get_or w.0 z 0) (λ q e. same q e.0) (w.1.1 z h)), w.2)

module _ (next : ℕ → List ℕ) (n : ℕ) (group groups : ℕ → ℕ) (order values : List ℕ) (k p w : ℕ) (o : IsOrder next n order) (h : k < length order)
    (at : p ≡ get_or order k 0) (within : p < length values) (is : w ≡ min (1 + sum (shares_of group (λ q. get_or values q 0) (groups p) (next p))) (2 ^ 64))
    (s : AreWeighed next group groups (take k order) values) where
  abbrev exact : ℕ
  exact = 1 + sum (shares_of group s.weight (groups p) (next p))

  abbrev later : ℕ → ℕ
  later = update s.weight p exact

  differs : (x : ℕ) → has (take k order) x ≡ true → x ≢ p
  differs x old e = let P : ℕ → Type 0 = λ y. has (take k order) y ≡ true in true_false (sym (subst P (e ∙ at) old) ∙ o.once k h)

  old_weight : (x : ℕ) → has (take k order) x ≡ true → later x ≡ s.weight x
  old_weight x old = update_there s.weight p exact x (differs x old)

  from_old : (x q : ℕ) → has (take k order) x ≡ true → has (next x) q ≡ true → has (take k order) q ≡ true
  from_old x q old e = after_old next n order o k x q (omega (arith, h)) old e

  from_here : (q : ℕ) → has (next p) q ≡ true → has (take k order) q ≡ true
  from_here q e = o.after k q h (let P : ℕ → Type 0 = λ y. has (next y) q ≡ true in subst P at e)

  pub weigh_more : AreWeighed next group groups (take (k + 1) order) (set values p w)
  weigh_more = record {
    weight = later;
    weighing = λ x e. elim (taken_back order k x h e) [
      | inl old ↦ subst (λ (v : ℕ). IsWeight group later (next x) (groups x) v) (sym (old_weight x old))
          (weight_same group s.weight later (next x) (groups x) (s.weight x) (λ q e. sym (old_weight q (from_old x q old e))) (s.weighing x old))
      | inr now ↦ (let P : ℕ → Type 0 = λ y. IsWeight group later (next y) (groups y) (later y) in subst P (at ∙ sym now) (
        shares_of group later (groups p) (next p),
        shares_are group later (groups p) (next p),
        update_here s.weight p exact ∙ ap (λ (xs : List ℕ). 1 + sum xs) (same_shares group s.weight later (replicate (groups p) 0) (next p) (λ q e. sym (old_weight q (from_here q e)))),
      ))
    ];
    capped = λ x e. elim (taken_back order k x h e) [
      | inl old ↦ get_or-set_other values p x w 0 (differs x old) ∙ s.capped x old ∙ ap (λ (v : ℕ). min v (2 ^ 64)) (sym (old_weight x old))
      | inr now ↦ (let P : ℕ → Type 0 = λ y. get_or (set values p w) y 0 ≡ min (later y) (2 ^ 64) in subst P (at ∙ sym now)
          (get_or-set_same values p w 0 within ∙ is ∙ cut_weight group s.weight (λ q. get_or values q 0) (groups p) (next p) (λ q e. s.capped q (from_here q e))
          ∙ ap (λ (v : ℕ). min v (2 ^ 64)) (sym (update_here s.weight p exact))))
    ];
  }

pub weigh_all : (next : ℕ → List ℕ) (n : ℕ) (group groups : ℕ → ℕ) (order values : List ℕ) (k : ℕ) → IsOrder next n order → length order ≤ k →
    AreWeighed next group groups (take k order) values → AreWeights next n group groups values
weigh_all next n group groups order values k o h s = record {
  weight = s.weight;
  weighing = λ p below. s.weighing p (at p below);
  capped = λ p below. s.capped p (at p below);
}
  where
    at : (p : ℕ) → p < n → has (take k order) p ≡ true
    at p below = subst (λ (xs : List ℕ). has xs p ≡ true) (sym (take_all k order h)) (o.all p below)

pub few_zeros : (m z : ℕ) (xs : List ℕ) → xs ≡ replicate m 0 → get_or xs z 0 ≤ 2 ^ 64
few_zeros m z xs is = let e : get_or xs z 0 ≡ 0 = ap (λ (ys : List ℕ). get_or ys z 0) is ∙ get_or-zeros m z in omega (arith, e)

pub few_set : (xs : List ℕ) (p w : ℕ) → p < length xs → w ≤ 2 ^ 64 → ((z : ℕ) → get_or xs z 0 ≤ 2 ^ 64) → (z : ℕ) → get_or (set xs p w) z 0 ≤ 2 ^ 64
few_set xs p w h le few z = elim (cases_eq z p) [
  | inl is ↦ (let e : get_or (set xs p w) z 0 ≡ w = ap (λ (k : ℕ). get_or (set xs p w) k 0) is ∙ get_or-set_same xs p w 0 h in omega (arith, e, le))
  | inr ne ↦ (let e = get_or-set_other xs p z w 0 ne in let f = few z in omega (arith, e, f))
]
