-- What a list that ascends by sites has at one site: a run of it.
use Rattle.std.proofs.Common.{◌≡◌, ℕ, zero, suc, ◌+◌, ◌-◌, ◌<◌, ◌≤◌, ◌⊎◌, inl, inr, Bool, true, false, not, List, [], ◌∷◌, length, take, drop, get_or, refl, sym, ap, subst, ◌∙◌, arith}
use Rattle.std.specs.Prelude.{slice_range, nat_eq, nat_lt, ◌&&◌, filter}
use Rattle.std.specs.List.{AllPairs}
use Rattle.std.specs.List.Sorted.{IsPartitionPoint, IsPartitionedBy}
use Rattle.std.specs.Bool.{Decides}
use Rattle.std.proofs.lemmas.Bool.{cases_Bool, cases_lt, cases_eq}
use Rattle.std.proofs.lemmas.Bool.Decides.{Decides-eqb, Decides-ltb, Decides-and, Decides-or, Decides-not}
use Rattle.kasa_lists.proofs.Elements.{some_at}
use Rattle.kasa_polymers.specs.declared.map.Bond.{Bond}
use Rattle.kasa_polymers.specs.declared.map.StateSeen.{StateSeen}
use Rattle.kasa_polymers.specs.Order.{IsBondBelow, IsStateBelow}
use Rattle.kasa_report.specs.inner.Runs.{comes_before}

-- ---- a filter that passes from one place up to another

module _ {X : Type 0} (test : X → Bool) where
  Passes : Bool → List X → ℕ → ℕ → Type 0
  Passes b xs low high = (k : ℕ) (d : X) → low ≤ k → k < high → test (get_or xs k d) ≡ b

  none_passes : (xs : List X) → Passes false xs 0 (length xs) → filter test xs ≡ []
  unfolding Passes
  none_passes [] out = refl
  none_passes (x ∷ xs) out = rw (out zero x (omega arith) (omega arith)) (none_passes xs (λ k d l h. out (suc k) d (omega arith) (omega arith)))

  first_pass : (xs : List X) (n : ℕ) → n ≤ length xs → Passes true xs 0 n → Passes false xs n (length xs) → filter test xs ≡ take n xs
  unfolding Passes
  first_pass [] zero within in_run out = refl
  first_pass [] (suc n) within in_run out = refl
  first_pass (x ∷ xs) zero within in_run out = none_passes (x ∷ xs) out
  first_pass (x ∷ xs) (suc n) within in_run out = rw (in_run zero x (omega arith) (omega arith))
      (ap (λ ys. x ∷ ys) (first_pass xs n (omega arith) (λ k d l h. in_run (suc k) d (omega arith) (omega arith)) (λ k d l h. out (suc k) d (omega arith) (omega arith))))

  run_passes : (xs : List X) (i n : ℕ) → i + n ≤ length xs → Passes false xs 0 i → Passes true xs i (i + n) → Passes false xs (i + n) (length xs) → filter test xs ≡ take n (drop i xs)
  unfolding Passes
  run_passes xs zero n within before in_run after = first_pass xs n (omega arith) (λ k d l h. in_run k d l (omega arith)) (λ k d l h. after k d (omega arith) h)
  run_passes [] (suc i) n within before in_run after = absurd (omega arith)
  run_passes (x ∷ xs) (suc i) n within before in_run after = rw (before zero x (omega arith) (omega arith))
      (run_passes xs i n (omega arith) (λ k d l h. before (suc k) d (omega arith) (omega arith)) (λ k d l h. in_run (suc k) d (omega arith) (omega arith)) (λ k d l h. after (suc k) d (omega arith) (omega arith)))

-- ---- the order of sites

module _ (a x b y : ℕ) where
  abbrev pub IsBefore : Type 0
  IsBefore = (a < b) ⊎ ((a ≡ b) × (x < y))

  decides_before : Decides (comes_before a x b y) IsBefore
  decides_before = Decides-or (nat_lt a b) (nat_eq a b && nat_lt x y) (Decides-ltb a b) (Decides-and (nat_eq a b) (nat_lt x y) (Decides-eqb a b) (Decides-ltb x y))

  abbrev pub is_site : Bool
  is_site = nat_eq a b && nat_eq x y

  decides_site : Decides is_site ((a ≡ b) × (x ≡ y))
  decides_site = Decides-and (nat_eq a b) (nat_eq x y) (Decides-eqb a b) (Decides-eqb x y)

neither : {P : Type 0} (b : Bool) → Decides b P → ¬ P → b ≡ false
neither b decides isnt_so = elim (cases_Bool b) [ inl e ↦ absurd (isnt_so (decides.0 e)) | inr e ↦ e ]

-- ---- a list whose sites ascend

module _ {X : Type 0} (f g : X → ℕ) (xs : List X) where
  -- an element that stands earlier isn't of a later site
  abbrev pub AreBySites : Type 0
  AreBySites = (i j : ℕ) (d : X) → i < j → j < length xs → (f (get_or xs i d) < f (get_or xs j d)) ⊎ ((f (get_or xs i d) ≡ f (get_or xs j d)) × (g (get_or xs i d) ≤ g (get_or xs j d)))

  module _ (by_sites : AreBySites) (a x : ℕ) where
    before : X → Bool
    before q = comes_before (f q) (g q) a x

    up_to : X → Bool
    up_to q = not (comes_before a x (f q) (g q))

    is_at : X → Bool
    is_at q = nat_eq (f q) a && nat_eq (g q) x

    joined : (q r : X) → (f q < f r) ⊎ ((f q ≡ f r) × (g q ≤ g r)) → IsBefore (f r) (g r) a x → IsBefore (f q) (g q) a x
    joined q r (inl o) (inl h) = inl (omega arith)
    joined q r (inl o) (inr (e, h)) = inl (omega arith)
    joined q r (inr (o, k)) (inl h) = inl (omega arith)
    joined q r (inr (o, k)) (inr (e, h)) = inr (o ∙ e, omega arith)

    joined_after : (q r : X) → (f q < f r) ⊎ ((f q ≡ f r) × (g q ≤ g r)) → IsBefore a x (f q) (g q) → IsBefore a x (f r) (g r)
    joined_after q r (inl o) (inl h) = inl (omega arith)
    joined_after q r (inl o) (inr (e, h)) = inl (omega arith)
    joined_after q r (inr (o, k)) (inl h) = inl (omega arith)
    joined_after q r (inr (o, k)) (inr (e, h)) = inr (e ∙ o, omega arith)

    pub parted_before : IsPartitionedBy (λ q. comes_before (f q) (g q) a x) xs
    parted_before i j d less within later = elim (cases_eq i j) [
      | inl e ↦ (let P : ℕ → Type 0 = λ k. comes_before (f (get_or xs k d)) (g (get_or xs k d)) a x ≡ true in subst P (sym e) later)
      | inr ne ↦ (
          let q = get_or xs i d in
          let r = get_or xs j d in
          (decides_before (f q) (g q) a x).1 (joined q r (by_sites i j d (omega arith) within) ((decides_before (f r) (g r) a x).0 later)))
    ]

    pub parted_up_to : IsPartitionedBy (λ q. not (comes_before a x (f q) (g q))) xs
    parted_up_to i j d less within later = elim (cases_eq i j) [
      | inl e ↦ (let P : ℕ → Type 0 = λ k. not (comes_before a x (f (get_or xs k d)) (g (get_or xs k d))) ≡ true in subst P (sym e) later)
      | inr ne ↦ (
          let q = get_or xs i d in
          let r = get_or xs j d in
          let isnt_so = (Decides-not (comes_before a x (f r) (g r)) (decides_before a x (f r) (g r))).0 later in
          (Decides-not (comes_before a x (f q) (g q)) (decides_before a x (f q) (g q))).1 (λ h. isnt_so (joined_after q r (by_sites i j d (omega arith) within) h)))
    ]

    -- three cases
    out_before : (q : X) → comes_before (f q) (g q) a x ≡ true → nat_eq (f q) a && nat_eq (g q) x ≡ false
    out_before q h = neither _ (decides_site (f q) (g q) a x) (λ (e, k). elim ((decides_before (f q) (g q) a x).0 h) [ inl less ↦ omega arith | inr (same, less) ↦ omega arith ])

    out_after : (q : X) → not (comes_before a x (f q) (g q)) ≡ false → nat_eq (f q) a && nat_eq (g q) x ≡ false
    out_after q h = elim (cases_Bool (comes_before a x (f q) (g q))) [
      | inl e ↦ neither _ (decides_site (f q) (g q) a x) (λ (s, k). elim ((decides_before a x (f q) (g q)).0 e) [ inl less ↦ omega arith | inr (same, less) ↦ omega arith ])
      | inr e ↦ (let yes : not (comes_before a x (f q) (g q)) ≡ true = rw e refl in let clash : true ≡ false = sym yes ∙ h in absurd cc)
    ]

    in_between : (q : X) → comes_before (f q) (g q) a x ≡ false → not (comes_before a x (f q) (g q)) ≡ true → nat_eq (f q) a && nat_eq (g q) x ≡ true
    in_between q isnt_so up =
        let later = (Decides-not (comes_before a x (f q) (g q)) (decides_before a x (f q) (g q))).0 up in
        let earlier : ¬ IsBefore (f q) (g q) a x = λ h. let yes = (decides_before (f q) (g q) a x).1 h in let clash : true ≡ false = sym yes ∙ isnt_so in cc in
        (decides_site (f q) (g q) a x).1 (elim (cases_lt (f q) a) [
          | inl less ↦ absurd (earlier (inl less))
          | inr le ↦ elim (cases_lt a (f q)) [
            | inl more ↦ absurd (later (inl more))
            | inr ge ↦ (
                let same : f q ≡ a = omega arith in (
                  same,
                  elim (cases_lt (g q) x) [
                    | inl less ↦ absurd (earlier (inr (same, less)))
                    | inr le2 ↦ elim (cases_lt x (g q)) [
                      | inl more ↦ absurd (later (inr (sym same, more)))
                      | inr ge2 ↦ omega arith
                    ]
                  ],
                ))
          ]
        ])

    -- the run from the first that isn't before the site up to the first behind it
    pub record IsRun (i j : ℕ) : Type 0 where
      pub ordered : i ≤ j
      pub is : slice_range xs i j ≡ filter (λ q. nat_eq (f q) a && nat_eq (g q) x) xs

    pub run_at : (i j : ℕ) → i ≤ length xs → j ≤ length xs → IsPartitionPoint (λ q. comes_before (f q) (g q) a x ≡ true) (λ q. comes_before (f q) (g q) a x ≡ false) xs i →
        IsPartitionPoint (λ q. not (comes_before a x (f q) (g q)) ≡ true) (λ q. not (comes_before a x (f q) (g q)) ≡ false) xs j → IsRun i j
    unfolding Passes
    run_at i j short short2 (first, rest) (upper, past) =
        let ordered : i ≤ j = (elim (cases_lt j i) [
          | inl less ↦ (
              let d = (some_at xs j (omega arith)).0 in
              let q = get_or xs j d in
              let b = (decides_before (f q) (g q) a x).0 (first j d (omega arith) less) in
              let c = past j d (omega arith) (omega arith) in
              let up : not (comes_before a x (f q) (g q)) ≡ true = (Decides-not (comes_before a x (f q) (g q)) (decides_before a x (f q) (g q))).1 (λ h. both q b h) in
              let clash : true ≡ false = sym up ∙ c in absurd cc)
          | inr le ↦ le
        ]) in
        record {
          ordered = ordered;
          is = sym (run_passes (λ q. nat_eq (f q) a && nat_eq (g q) x) xs i (j - i) (omega arith)
              (λ k d l h. out_before (get_or xs k d) (first k d l h))
              (λ k d l h. in_between (get_or xs k d) (rest k d l (omega arith)) (upper k d (omega arith) (omega arith)))
              (λ k d l h. out_after (get_or xs k d) (past k d (omega arith) h)));
        }
      where
        both : (q : X) → IsBefore (f q) (g q) a x → IsBefore a x (f q) (g q) → ⊥
        both q (inl h) (inl k) = omega arith
        both q (inl h) (inr k) = let e = k.0 in omega arith
        both q (inr h) (inl k) = let e = h.0 in omega arith
        both q (inr h) (inr k) = let e = h.1 in let l = k.1 in omega arith

-- ---- lists of the contact map

state_site : (q r : StateSeen) → IsStateBelow q r → (q.a < r.a) ⊎ ((q.a ≡ r.a) × (q.x ≤ r.x))
state_site q r (inl h) = inl h
state_site q r (inr (inl (e, h))) = inr (e, omega arith)
state_site q r (inr (inr (e, k, h))) = inr (e, omega arith)

pub states_by_sites : (xs : List StateSeen) → AllPairs IsStateBelow xs → AreBySites (λ (q : StateSeen). q.a) (λ (q : StateSeen). q.x) xs
states_by_sites xs ascend i j d less within = state_site (get_or xs i d) (get_or xs j d) (ascend i j d less within)

bond_site : (p q : Bond) → IsBondBelow p q → (p.a < q.a) ⊎ ((p.a ≡ q.a) × (p.x ≤ q.x))
bond_site p q (inl h) = inl h
bond_site p q (inr (inl (e, h))) = inr (e, omega arith)
bond_site p q (inr (inr (inl (e, k, h)))) = inr (e, omega arith)
bond_site p q (inr (inr (inr (e, k, l, h)))) = inr (e, omega arith)

pub bonds_by_sites : (xs : List Bond) → AllPairs IsBondBelow xs → AreBySites (λ (p : Bond). p.a) (λ (p : Bond). p.x) xs
bonds_by_sites xs ascend i j d less within = bond_site (get_or xs i d) (get_or xs j d) (ascend i j d less within)
