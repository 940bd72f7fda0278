-- Numbers of bonds in the text of a pattern.
use Rattle.std.proofs.Common.{◌≡◌, ◌≢◌, ◌∙◌, ◌<◌, ◌≤◌, ◌+◌, one-add, ◌&&◌, nat_eq, nat_lt, ℕ, zero, suc, List, [], ◌∷◌, ◌++◌, Bool, true, false, not, cond, if◌then◌else◌, length, refl, sym, ap, arith, Option, Some, None, slice_get, position, take, append_assoc, ◌⊎◌, inl, inr}
use Rattle.std.specs.List.{list_any}
use Rattle.std.proofs.lemmas.Grind.{common_steps}
use Rattle.std.proofs.lemmas.Bool.{le-ltb, lt-ltb}
use Rattle.std.proofs.lemmas.Bool.Decides.{nat_tests}
use Rattle.indexmap.specs.IndexSet.{insert_key}
use Rattle.kasa_lists.specs.Lists.{Has}
use Rattle.std.proofs.lemmas.List.{take_all}
use Rattle.kasa_graph.specs.declared.pattern.LinkTest.TheVariants.{Any, To}
use Rattle.kasa_graph.specs.declared.pattern.SiteTests.{SiteTests}
use Rattle.kasa_graph.specs.declared.pattern.Node.{Node}
use Rattle.kasa_graph.specs.Pattern.{site_at, link_test, IsPattern}
use Rattle.kasa_graph.specs.PatternText.{place, stands_before, begins_bond, first_ends_in, first_ends, bond_number}
use Rattle.std.specs.Option.{option_map_or}
use Rattle.std.specs.Prelude.{option_and_then}
use Rattle.kasa_lists.proofs.Numbers.{below_or}
use Rattle.kasa_lists.proofs.Elements.{slice_get-take}
use Rattle.kasa_lists.proofs.Having.{Has-append, Has-left, Has-right}
use Rattle.kasa_graph.proofs.ShapeLemmas.{node_of_site}
use Rattle.kasa_graph.specs.PatternTextParts.{sites_at, ends_before}

-- the two sites are the same
abbrev pub is_site : ℕ × ℕ → ℕ × ℕ → Bool
is_site e f = nat_eq e.0 f.0 && nat_eq e.1 f.1

pub same : (e f : ℕ × ℕ) → is_site e f ≡ true → e ≡ f
same (a, b) (c, d) h = let first : a ≡ c = grind (arith, common_steps, nat_tests, h) in let second : b ≡ d = grind (arith, common_steps, nat_tests, h) in cc

is : (e : ℕ × ℕ) → is_site e e ≡ true
is (a, b) = grind (arith, common_steps, nat_tests)

differs : (e f : ℕ × ℕ) → e ≢ f → is_site e f ≡ false
differs e f ne = by (is_site e f) refl
  where
    by : (b : Bool) → b ≡ is_site e f → b ≡ false
    by false h = refl
    by true h = absurd (ne (same e f (sym h)))

pub place-le : (e : ℕ × ℕ) (ends : List (ℕ × ℕ)) → place e ends ≤ length ends
place-le e [] = omega arith
place-le e (f ∷ ends) = by (is_site e f) (place-le e ends)
  where
    by : (b : Bool) → place e ends ≤ length ends → cond (not b) (1 + place e ends) 0 ≤ suc (length ends)
    by true h = omega arith
    by false h = omega arith

pub place_absent : (e : ℕ × ℕ) (ends : List (ℕ × ℕ)) → None ≡ position (is_site e) ends → place e ends ≡ length ends
place_absent e ends h = by (place e ends) (length ends) (place-le e ends) h
  where
    by : (n m : ℕ) → n ≤ m → None ≡ cond (nat_lt n m) (Some n) None → n ≡ m
    by n m le h = grind (arith, common_steps, nat_tests, h)

pub insert_site-new : (ends : List (ℕ × ℕ)) (e : ℕ × ℕ) → ¬ Has ends e → insert_key is_site ends e ≡ ends ++ e ∷ []
insert_site-new ends e absent = rw (none ends absent)
  where
    none : (ends : List (ℕ × ℕ)) → ¬ Has ends e → list_any (is_site e) ends ≡ false
    none [] absent = refl
    none (f ∷ ends) absent =
        let here : e ≢ f = λ eq. absent (0, ap (λ x. Some x) (sym eq)) in
        let rest : ¬ Has ends e = λ h. absent (suc h.0, h.1) in
        rw (differs e f here, none ends rest)

pub nat_lt-self : (n : ℕ) → nat_lt n n ≡ false
nat_lt-self n = le-ltb n n (omega arith)

-- ---- where a site stands among some

pub place_there : (e : ℕ × ℕ) (ends : List (ℕ × ℕ)) → Has ends e → place e ends < length ends
place_there e [] (k, at) = absurd (none k at)
  where
    none : (k : ℕ) → slice_get [] k ≡ Some e → ⊥
    none zero h = cc
    none (suc k) h = cc
place_there e (f ∷ ends) (zero, at) = let this : f ≡ e = cc in rw (this, is e) (omega arith)
place_there e (f ∷ ends) (suc k, at) = by (is_site e f) (place_there e ends (k, at))
  where
    by : (b : Bool) → place e ends < length ends → cond (not b) (1 + place e ends) 0 < suc (length ends)
    by true h = omega arith
    by false h = omega arith

-- a new one has the place behind them
pub place-new : (e : ℕ × ℕ) (ends rest : List (ℕ × ℕ)) → ¬ Has ends e → place e (ends ++ e ∷ rest) ≡ length ends
place-new e [] rest absent = rw (is e)
place-new e (f ∷ ends) rest absent =
    let here : e ≢ f = λ eq. absent (0, ap (λ x. Some x) (sym eq)) in
    let later : ¬ Has ends e = λ h. absent (suc h.0, h.1) in
    rw (differs e f here, place-new e ends rest later) (one-add (length ends))

pub place_not_there : (e : ℕ × ℕ) (ends : List (ℕ × ℕ)) → ¬ Has ends e → place e ends ≡ length ends
place_not_there e [] absent = refl
place_not_there e (f ∷ ends) absent =
    let here : e ≢ f = λ eq. absent (0, ap (λ x. Some x) (sym eq)) in
    let later : ¬ Has ends e = λ h. absent (suc h.0, h.1) in
    rw (differs e f here, place_not_there e ends later) (one-add (length ends))

-- one that is there keeps its place
pub place-append : (e : ℕ × ℕ) (ends rest : List (ℕ × ℕ)) → Has ends e → place e (ends ++ rest) ≡ place e ends
place-append e [] rest (k, at) = absurd (none k at)
  where
    none : (k : ℕ) → slice_get [] k ≡ Some e → ⊥
    none zero h = cc
    none (suc k) h = cc
place-append e (f ∷ ends) rest (zero, at) = let this : f ≡ e = cc in rw (this, is e)
place-append e (f ∷ ends) rest (suc k, at) = ap (λ n. cond (not (is_site e f)) (1 + n) 0) (place-append e ends rest (k, at))

-- ---- first ends before a site, at it and behind it

cut_in : (n k j s : ℕ) (sites : List SiteTests) (x : SiteTests) → k + j ≡ s → slice_get sites j ≡ Some x →
    (rest : List (ℕ × ℕ)) × (first_ends_in n k sites ≡ first_ends_in n k (take j sites) ++ ((if begins_bond n s x.link then (n, s) ∷ [] else []) ++ rest))
cut_in n k j s [] x e at = absurd cc
cut_in n k zero s (y ∷ sites) x e at = let same : y ≡ x = cc in let here : k ≡ s = omega arith in (first_ends_in n (suc k) sites, rw (same, here) refl)
cut_in n k (suc j) s (y ∷ sites) x e at =
    let later = cut_in n (suc k) j s sites x (omega arith) at in
    (later.0, ap (λ ends. (if begins_bond n k y.link then (n, k) ∷ [] else []) ++ ends) later.1 ∙ sym (append_assoc (if begins_bond n k y.link then (n, k) ∷ [] else []) (first_ends_in n (suc k) (take j sites)) _))

cut : (k i n : ℕ) (g : List Node) (node : Node) → k + i ≡ n → slice_get g i ≡ Some node →
    (rest : List (ℕ × ℕ)) × (first_ends k g ≡ first_ends k (take i g) ++ (first_ends_in n 0 node.sites ++ rest))
cut k i n [] node e at = absurd cc
cut k zero n (y ∷ g) node e at = let same : y ≡ node = cc in let here : k ≡ n = omega arith in (first_ends (suc k) g, rw (same, here) refl)
cut k (suc i) n (y ∷ g) node e at =
    let later = cut (suc k) i n g node (omega arith) at in
    (later.0, ap (λ ends. first_ends_in k 0 y.sites ++ ends) later.1 ∙ sym (append_assoc (first_ends_in k 0 y.sites) (first_ends (suc k) (take i g)) _))

-- they stand before
below_in : (n k j : ℕ) (sites : List SiteTests) (e : ℕ × ℕ) → Has (first_ends_in n k (take j sites)) e → (e.0 ≡ n) × (e.1 < k + j)
below_in n k zero sites e h = absurd (none h.0 h.1)
  where
    none : (k : ℕ) → slice_get [] k ≡ Some e → ⊥
    none zero h = cc
    none (suc k) h = cc
below_in n k (suc j) [] e h = absurd (none h.0 h.1)
  where
    none : (k : ℕ) → slice_get [] k ≡ Some e → ⊥
    none zero h = cc
    none (suc k) h = cc
below_in n k (suc j) (x ∷ sites) e h = elim (Has-append (if begins_bond n k x.link then (n, k) ∷ [] else []) (first_ends_in n (suc k) (take j sites)) e h) [ inl here ↦ this (begins_bond n k x.link) here.0 here.1 | inr later ↦ next (below_in n (suc k) j sites e later) ]
  where
    this : (b : Bool) (i : ℕ) → slice_get (if b then (n, k) ∷ [] else []) i ≡ Some e → (e.0 ≡ n) × (e.1 < k + suc j)
    this true zero at = let same : e ≡ (n, k) = cc in rw same (refl, omega arith)
    this true (suc zero) at = absurd cc
    this true (suc (suc i)) at = absurd cc
    this false zero at = absurd cc
    this false (suc i) at = absurd cc

    next : (e.0 ≡ n) × (e.1 < suc k + j) → (e.0 ≡ n) × (e.1 < k + suc j)
    next p = let below = p.1 in (p.0, omega arith)

below : (k i : ℕ) (g : List Node) (e : ℕ × ℕ) → Has (first_ends k (take i g)) e → e.0 < k + i
below k zero g e h = absurd (none h.0 h.1)
  where
    none : (k : ℕ) → slice_get [] k ≡ Some e → ⊥
    none zero h = cc
    none (suc k) h = cc
below k (suc i) [] e h = absurd (none h.0 h.1)
  where
    none : (k : ℕ) → slice_get [] k ≡ Some e → ⊥
    none zero h = cc
    none (suc k) h = cc
below k (suc i) (x ∷ g) e h = elim (Has-append (first_ends_in k 0 x.sites) (first_ends (suc k) (take i g)) e h) [ inl here ↦ this (below_in k 0 (length x.sites) x.sites e (rw (take_all (length x.sites) x.sites (omega arith)) here)) | inr later ↦ next (below (suc k) i g e later) ]
  where
    this : (e.0 ≡ k) × (e.1 < 0 + length x.sites) → e.0 < k + suc i
    this p = let same = p.0 in omega arith

    next : e.0 < suc k + i → e.0 < k + suc i
    next p = omega arith

pub before_here : (g : List Node) (n s : ℕ) (e : ℕ × ℕ) → Has (ends_before g n s) e → stands_before e.0 e.1 n s ≡ true
before_here g n s e h = elim (Has-append (first_ends 0 (take n g)) (first_ends_in n 0 (take s (sites_at g n))) e h) [ inl node ↦ left (below 0 n g e node) | inr site ↦ right (below_in n 0 s (sites_at g n) e site) ]
  where
    left : e.0 < 0 + n → stands_before e.0 e.1 n s ≡ true
    left p = grind (arith, common_steps, nat_tests, p)

    right : (e.0 ≡ n) × (e.1 < 0 + s) → stands_before e.0 e.1 n s ≡ true
    right p = let same = p.0 in let less = p.1 in grind (arith, common_steps, nat_tests, same, less)

pub here_new : (g : List Node) (n s : ℕ) → ¬ Has (ends_before g n s) (n, s)
here_new g n s h = let before = before_here g n s (n, s) h in grind (arith, common_steps, nat_tests, before)

-- ---- the number of a bond

-- the sites of a node, as the tests see them
pub slice_get-sites_at : (g : List Node) (n s : ℕ) → slice_get (sites_at g n) s ≡ site_at g n s
unfolding site_at
slice_get-sites_at g n s = by (slice_get g n) s
  where
    by : (o : Option Node) (s : ℕ) → slice_get (option_map_or (λ node. node.sites) o []) s ≡ option_and_then (λ node. slice_get node.sites s) o
    by None zero = refl
    by None (suc s) = refl
    by (Some node) s = refl

-- a bond stands at a site
pub site_of_bond : (g : List Node) (n s m t : ℕ) → link_test g n s ≡ To m t → (x : SiteTests) × (site_at g n s ≡ Some x) × (x.link ≡ To m t)
unfolding link_test
site_of_bond g n s m t h = by (site_at g n s) h
  where
    by : (o : Option SiteTests) → option_map_or (λ x. x.link) o Any ≡ To m t → (x : SiteTests) × (o ≡ Some x) × (x.link ≡ To m t)
    by None h = absurd cc
    by (Some x) h = (x, refl, h)

begun_in : (n s : ℕ) (sites : List SiteTests) (x : SiteTests) → slice_get sites s ≡ Some x → begins_bond n s x.link ≡ true → Has (first_ends_in n 0 sites) (n, s)
begun_in n s sites x at begins =
    let parts = cut_in n 0 s s sites x (omega arith) at in
    rw (parts.1, begins) (Has-right (first_ends_in n 0 (take s sites)) ((n, s) ∷ parts.0) (n, s) (0, refl))

there_before : (g : List Node) (n s m t : ℕ) → link_test g m t ≡ To n s → stands_before m t n s ≡ true → Has (ends_before g n s) (m, t)
there_before g n s m t h before = by (below_or m n)
  where
    there : (x : SiteTests) × (site_at g m t ≡ Some x) × (x.link ≡ To n s)
    there = site_of_bond g m t n s h

    begins : begins_bond m t there.0.link ≡ true
    begins = rw there.2 before

    by : (m < n) ⊎ ((k : ℕ) × (n + k ≡ m)) → Has (ends_before g n s) (m, t)
    by (inl less) =
        let node = node_of_site g m t there.0 there.1 in
        let parts = cut 0 m m (take n g) node.0 (omega arith) (slice_get-take g n m less ∙ node.1) in
        let here = begun_in m t node.0.sites there.0 node.2 begins in
        Has-left (first_ends 0 (take n g)) (first_ends_in n 0 (take s (sites_at g n))) (m, t)
        (rw parts.1 (Has-right (first_ends 0 (take m (take n g))) (first_ends_in m 0 node.0.sites ++ parts.0) (m, t) (Has-left (first_ends_in m 0 node.0.sites) parts.0 (m, t) here)))
    by (inr more) =
        let same : m ≡ n = grind (arith, common_steps, nat_tests, before, more.1) in
        let less : t < s = grind (arith, common_steps, nat_tests, before, more.1) in
        let at : slice_get (take s (sites_at g m)) t ≡ Some there.0 = slice_get-take (sites_at g m) s t less ∙ slice_get-sites_at g m t ∙ there.1 in
        rw (← same)
        (Has-right (first_ends 0 (take m g)) (first_ends_in m 0 (take s (sites_at g m))) (m, t) (begun_in m t (take s (sites_at g m)) there.0 at begins))

-- all first ends are those before a site, the one at it and those behind it
cut_here : (g : List Node) (n s : ℕ) (x : SiteTests) → site_at g n s ≡ Some x →
    (rest : List (ℕ × ℕ)) × (first_ends 0 g ≡ ends_before g n s ++ ((if begins_bond n s x.link then (n, s) ∷ [] else []) ++ rest))
cut_here g n s x at =
    let node = node_of_site g n s x at in
    let outer = cut 0 n n g node.0 (omega arith) node.1 in
    let inner = cut_in n 0 s s node.0.sites x (omega arith) node.2 in
    let sites : sites_at g n ≡ node.0.sites = rw node.1 in
    (inner.0 ++ outer.0, rw (outer.1, inner.1, sites) (simp append_assoc))

module _ (g : List Node) (is : IsPattern g) (n s m t : ℕ) (h : link_test g n s ≡ To m t) where
  parts : (rest : List (ℕ × ℕ)) × (first_ends 0 g ≡ ends_before g n s ++ ((if stands_before n s m t then (n, s) ∷ [] else []) ++ rest))
  parts =
      let here = site_of_bond g n s m t h in
      let c = cut_here g n s here.0 here.1 in
      (c.0, c.1 ∙ ap (λ link. ends_before g n s ++ ((if begins_bond n s link then (n, s) ∷ [] else []) ++ c.0)) here.2)

  not_there : true ≡ stands_before n s m t → ¬ Has (ends_before g n s) (m, t)
  not_there e h = let back = before_here g n s (m, t) h in grind (arith, common_steps, nat_tests, e, back)

  there : false ≡ stands_before n s m t → Has (ends_before g n s) (m, t)
  there e = there_before g n s m t (is.both_ways n s m t h) (other (λ a b. is.apart n s (rw (a, b) at h)))
    where
      other : (m ≡ n → t ≡ s → ⊥) → stands_before m t n s ≡ true
      other apart = grind (arith, common_steps, nat_tests, e, apart)

  pub bond_number-is : bond_number g n s m t ≡ 1 + place (m, t) (ends_before g n s)
  bond_number-is = by (stands_before n s m t) refl parts.1
    where
      by : (b : Bool) → b ≡ stands_before n s m t → first_ends 0 g ≡ ends_before g n s ++ ((if b then (n, s) ∷ [] else []) ++ parts.0) →
          1 + place (if b then (n, s) else (m, t)) (first_ends 0 g) ≡ 1 + place (m, t) (ends_before g n s)
      by true e all =
          let here : ¬ Has (ends_before g n s) (n, s) = here_new g n s in
          rw (all, place-new (n, s) (ends_before g n s) parts.0 here, place_not_there (m, t) (ends_before g n s) (not_there e))
      by false e all = rw (all, place-append (m, t) (ends_before g n s) parts.0 (there e))

  -- whether the other end stands before
  pub seen-is : nat_lt (place (m, t) (ends_before g n s)) (length (ends_before g n s)) ≡ not (stands_before n s m t)
  seen-is = by (stands_before n s m t) refl
    where
      by : (b : Bool) → b ≡ stands_before n s m t → nat_lt (place (m, t) (ends_before g n s)) (length (ends_before g n s)) ≡ not b
      by true e = rw (place_not_there (m, t) (ends_before g n s) (not_there e), nat_lt-self (length (ends_before g n s)))
      by false e = let less = place_there (m, t) (ends_before g n s) (there e) in lt-ltb (place (m, t) (ends_before g n s)) (length (ends_before g n s)) less
