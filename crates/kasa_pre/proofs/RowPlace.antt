-- The root of a family has a place in each row's pattern, places compose, and where a row's pattern has a place, only this row
-- is compatible.
use Rattle.std.proofs.Common.{◌≡◌, ℕ, zero, suc, ◌+◌, ◌<◌, List, [], ◌∷◌, refl, sym, ap, ◌∙◌, length, map, arith, get_or}
use Rattle.std.specs.Prelude.{Option, Some, None, slice_get, option_map}
use Rattle.std.proofs.lemmas.List.{length-map}
use Rattle.std.proofs.lemmas.Option.{slice_get-map, slice_get_within, slice_get-get_or}
use Rattle.kasa_graph.specs.declared.pattern.StateTest.TheVariants as state
use Rattle.kasa_graph.specs.declared.pattern.LinkTest.{LinkTest}
use Rattle.kasa_graph.specs.declared.pattern.LinkTest.TheVariants.{Any, Free, Bound, Partner, To}
use Rattle.kasa_graph.specs.declared.pattern.Node.{Node}
use Rattle.kasa_graph.specs.Signature.{TypeEntry}
use Rattle.kasa_graph.specs.Lists.{AllDifferent}
use Rattle.kasa_graph.specs.Pattern.{agent_at, site_at, state_test, link_test, blank_node, with_link, LinkImplies}
use Rattle.kasa_families.specs.declared.family.Family.{Family}
use Rattle.kasa_families.specs.declared.family.Family.TheVariants.{Parallel}
use Rattle.kasa_families.specs.declared.row.Row.{Row}
use Rattle.kasa_families.specs.declared.row.Row.TheVariants.{Locals, Same, Different}
use Rattle.kasa_families.specs.Family.{IsFamily, shape_of, root}
use Rattle.kasa_families.specs.Row.{IsRow}
use Rattle.kasa_families.specs.Pattern.{row_pattern}
use Rattle.kasa_pre.specs.Place.{ImpliesAt, IsPlace}
use Rattle.kasa_pre.proofs.Implied.{StateImplies-trans}
use Rattle.kasa_pre.proofs.CoverLemmas.{root_size, length-root}
use Rattle.kasa_graph.proofs.TestLemmas.{agent_at-types, state_test-blank, state_test-with_link}
use Rattle.kasa_families.proofs.RowPattern.{root_types, row_types, types_of-family_root, types_of-row_pattern, state_test-root_of, row_implies_root}
use Rattle.kasa_families.proofs.OverLemmas.{IsPatternOver-root}

-- ---- places compose

Bound-implied : (c : List Node) (z : LinkTest) (b y : ℕ) → LinkImplies c z (Partner b y) → LinkImplies c z Bound
Bound-implied c (Partner a x) b y p = tt
Bound-implied c (To m t) b y p = tt
Bound-implied c Any b y p = p
Bound-implied c Free b y p = p
Bound-implied c Bound b y p = tt

module _ (g h : List Node) (first second : ℕ → Option ℕ) (typed : (n p a : ℕ) → second n ≡ Some p → agent_at g n ≡ Some a → agent_at h p ≡ Some a) where
  link_composed : (both : ℕ → Option ℕ) → ((n p q : ℕ) → first n ≡ Some p → second p ≡ Some q → both n ≡ Some q) → (z x y : LinkTest) → ImpliesAt g first x y → ImpliesAt h second z x → ImpliesAt h both z y
  link_composed both join z x Any p q = tt
  link_composed both join z Free Free p q = q
  link_composed both join z Bound Bound p q = q
  link_composed both join z (Partner b y) Bound p q = Bound-implied h z b y q
  link_composed both join z (To m t) Bound p q = rw q.2 tt
  link_composed both join z (Partner b y) (Partner c u) p q = rw (← p.0, ← p.1) q
  link_composed both join z (To m t) (Partner c u) p q = rw q.2 (typed m q.0 c q.1 p.0, p.1)
  link_composed both join z x (To n t) p q =
      let r : ImpliesAt h second z (To p.0 t) = rw p.2 at q in
      (r.0, join n p.0 r.0 p.1 r.1, r.2)
  link_composed both join z x y p q = absurd p

-- the places in h of places in g
abbrev pub through : List ℕ → List ℕ → List ℕ
through second first = map (λ p. get_or second p 0) first

through-at : (first second : List ℕ) (n p q : ℕ) → slice_get first n ≡ Some p → slice_get second p ≡ Some q → slice_get (through second first) n ≡ Some q
through-at first second n p q e f =
    let read : get_or second p 0 ≡ q = let a = slice_get-get_or second p 0 (slice_get_within second p q f) in cc in
    slice_get-map (λ p. get_or second p 0) first n ∙ ap (option_map (λ (p : ℕ). get_or second p 0)) e ∙ ap Some read

through-from : (first second : List ℕ) (n q : ℕ) → ((i p : ℕ) → slice_get first i ≡ Some p → p < length second) → slice_get (through second first) n ≡ Some q → (p : ℕ) × (slice_get first n ≡ Some p) × (slice_get second p ≡ Some q)
through-from first second n q within e = by_place (slice_get first n) refl (sym (slice_get-map (λ p. get_or second p 0) first n) ∙ e)
  where
    by_place : (o : Option ℕ) → slice_get first n ≡ o → option_map (λ p. get_or second p 0) o ≡ Some q → (p : ℕ) × (slice_get first n ≡ Some p) × (slice_get second p ≡ Some q)
    by_place None f g = absurd cc
    by_place (Some p) f g = (p, f, slice_get-get_or second p 0 (within n p f) ∙ g)

pub IsPlace-through : (f g h : List Node) (first second : List ℕ) → IsPlace f g first → IsPlace g h second → ((i p : ℕ) → slice_get first i ≡ Some p → p < length second) → IsPlace f h (through second first)
IsPlace-through f g h first second at at' within = record {
  count = length-map first (λ p. get_or second p 0) ∙ at.count;
  different = λ i j q d e.
      let p = through-from first second i q within d in
      let r = through-from first second j q within e in
      at.different i j r.0 (p.1 ∙ ap Some (at'.different p.0 r.0 q p.2 r.2)) r.1;
  types = λ n q a e is. let p = through-from first second n q within e in at'.types p.0 q a p.2 (at.types n p.0 a p.1 is);
  states = λ n q s e. let p = through-from first second n q within e in StateImplies-trans _ _ _ (at'.states p.0 q s p.2) (at.states n p.0 s p.1);
  links = λ n q s e.
      let p = through-from first second n q within e in
      link_composed g h (slice_get first) (slice_get second) (λ i j a x y. at'.types i j a x y) (slice_get (through second first)) (λ i j k x y. through-at first second i j k x y) _ _ _ (at.links n p.0 s p.1) (at'.links p.0 q s p.2);
}

-- ---- so many numbers from k on

abbrev pub places : ℕ → ℕ → List ℕ
places k zero = []
places k (suc n) = k ∷ places (suc k) n

pub length-places : (k n : ℕ) → length (places k n) ≡ n
length-places k zero = refl
length-places k (suc n) = ap suc (length-places (suc k) n)

pub places-at : (k n i : ℕ) → i < n → slice_get (places k n) i ≡ Some (k + i)
places-at k zero i within = absurd (omega arith)
places-at k (suc n) zero within = ap Some (omega arith)
places-at k (suc n) (suc i) within = places-at (suc k) n i (omega arith) ∙ ap Some (omega arith)

pub places-from : (k n i p : ℕ) → slice_get (places k n) i ≡ Some p → (p ≡ k + i) × (i < n)
places-from k n i p e =
    let within : i < n = rw length-places at (slice_get_within (places k n) i p e) in
    (let same : Some p ≡ Some (k + i) = sym e ∙ places-at k n i within in cc, within)

pub places-different : (k n : ℕ) → AllDifferent (places k n)
places-different k n i j x e f = let p = (places-from k n i x e).0 in let q = (places-from k n j x f).0 in omega arith

-- through the first places nodes come to where they were
pub through-first : (qs : List ℕ) (count : ℕ) → length qs ≡ count → (k n : ℕ) → slice_get (through qs (places 0 count)) k ≡ Some n → slice_get qs k ≡ Some n
through-first qs count long k n e =
    let p = through-from (places 0 count) qs k n (λ i p e. let h = places-from 0 count i p e in let at = h.0 in let within = h.1 in omega arith) e in
    let same : p.0 ≡ k = let h = (places-from 0 count k p.0 p.1).0 in omega arith in
    rw same at p.2

-- ---- the root's place in a row's pattern: its first nodes

first_types : (family : Family) (row : Row) (n a : ℕ) → slice_get (root_types family) n ≡ Some a → slice_get (row_types family row) n ≡ Some a
first_types (Parallel b x u c y w) (Locals locals) zero a e = e
first_types (Parallel b x u c y w) Same zero a e = e
first_types (Parallel b x u c y w) Different zero a e = e
first_types (Parallel b x u c y w) row (suc n) a e = absurd cc
first_types family row n a e = e

pub state_test-root : (sig : List TypeEntry) (family : Family) (n s : ℕ) → state_test (root sig family) n s ≡ state.Any
state_test-root sig (Parallel a x u b y w) n s =
    state_test-with_link (with_link (blank_node sig a ∷ []) 0 x (Partner b y)) 0 u (Partner b w) n s
    ∙ state_test-with_link (blank_node sig a ∷ []) 0 x (Partner b y) n s
    ∙ state_test-blank sig (a ∷ []) n s
state_test-root sig family n s = state_test-root_of sig (shape_of family) n s

-- a test that isn't Any is one of a node that there is
To-within : (g : List Node) (n s m t : ℕ) → link_test g n s ≡ To m t → n < length g
unfolding link_test site_at
To-within [] n s m t e = absurd cc
To-within (node ∷ g) zero s m t e = omega arith
To-within (node ∷ g) (suc n) s m t e = let h = To-within g n s m t e in omega arith

-- what implies a test implies it where the first nodes have their own numbers as places
ImpliesAt-first : (v : List Node) (count : ℕ) (a b : LinkTest) → ((m t : ℕ) → b ≡ To m t → m < count) → LinkImplies v a b → ImpliesAt v (slice_get (places 0 count)) a b
ImpliesAt-first v count a Any within h = tt
ImpliesAt-first v count a Free within h = h
ImpliesAt-first v count a Bound within h = h
ImpliesAt-first v count a (Partner b y) within h = h
ImpliesAt-first v count (To m t) (To k u) within h =
    (k, places-at 0 count k (within k u refl) ∙ ap Some (omega arith), let node = h.0 in let site = h.1 in cc)
ImpliesAt-first v count Any (To k u) within h = absurd h
ImpliesAt-first v count Free (To k u) within h = absurd h
ImpliesAt-first v count Bound (To k u) within h = absurd h
ImpliesAt-first v count (Partner b y) (To k u) within h = absurd h

root_links : (sig : List TypeEntry) (family : Family) (row : Row) → IsFamily sig family → IsRow sig family row → (n s : ℕ) → ImpliesAt (row_pattern sig family row) (slice_get (places 0 (root_size family))) (link_test (row_pattern sig family row) n s) (link_test (root sig family) n s)
root_links sig family row valid ok n s =
    ImpliesAt-first (row_pattern sig family row) (root_size family) _ _
    (λ m t e. rw length-root at (To-within (root sig family) m t n s ((IsPatternOver-root sig family valid).linked.both_ways n s m t e)))
    (row_implies_root sig family row valid ok n s).1

-- the first nodes of a row's pattern are a place of the root
pub IsPlace-root : (sig : List TypeEntry) (family : Family) (row : Row) → IsFamily sig family → IsRow sig family row → IsPlace (root sig family) (row_pattern sig family row) (places 0 (root_size family))
IsPlace-root sig family row valid ok = record {
  count = length-places 0 (root_size family) ∙ sym (length-root sig family);
  different = places-different 0 (root_size family);
  types = λ n p a e is.
      let at = places-from 0 (root_size family) n p e in
      let same : p ≡ n = let h = at.0 in omega arith in
      let typed : slice_get (root_types family) n ≡ Some a = sym (agent_at-types (root sig family) n ∙ ap (λ (ts : List ℕ). slice_get ts n) (types_of-family_root sig family)) ∙ is in
      rw same (agent_at-types (row_pattern sig family row) n ∙ ap (λ (ts : List ℕ). slice_get ts n) (types_of-row_pattern sig family row ok) ∙ first_types family row n a typed);
  states = λ n p s e. rw (state_test-root sig family n s) tt;
  links = λ n p s e.
      let at = places-from 0 (root_size family) n p e in
      let same : p ≡ n = let h = at.0 in omega arith in
      rw same (root_links sig family row valid ok n s);
}
