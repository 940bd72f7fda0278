-- The places of a root that begin with a given node: a shape's bonds lead from node to node.
use Rattle.std.proofs.Common.{◌≡◌, ◌≢◌, ℕ, zero, suc, ◌+◌, ◌<◌, ◌≤◌, ◌⊎◌, inl, inr, List, [], ◌∷◌, ◌++◌, refl, sym, ap, subst, ◌∙◌, length, length-append, arith}
use Rattle.std.specs.Prelude.{Option, Some, slice_get}
use Rattle.std.specs.List.{AllByRecursion, AllZip}
use Rattle.std.proofs.lemmas.Option.{same_Some, slice_get_within}
use Rattle.kasa_graph.specs.declared.pattern.LinkTest.{LinkTest}
use Rattle.kasa_graph.specs.declared.pattern.LinkTest.TheVariants.{Partner, To}
use Rattle.kasa_graph.specs.declared.pattern.Node.{Node}
use Rattle.kasa_graph.specs.Signature.{TypeEntry, HasSite}
use Rattle.kasa_graph.specs.Lists.{Has, AllDifferent}
use Rattle.kasa_graph.specs.Pattern.{agent_at, link_test, HasNodeSite, LinkImplies, IsPatternOver}
use Rattle.kasa_graph.proofs.ListLemmas.{some_at, below_or, slice_get-append_left, slice_get-append_right}
use Rattle.kasa_graph.proofs.PatternLemmas.{same_site_or_not}
use Rattle.kasa_graph.proofs.TestLemmas.{agent_at-types}
use Rattle.kasa_graph.proofs.SiteLemmas.{HasNodeSite-over}
use Rattle.kasa_families.specs.declared.family.Family.{Family}
use Rattle.kasa_families.specs.declared.family.Family.TheVariants.{View, Across, Parallel, Chain}
use Rattle.kasa_families.specs.declared.shape.NodeSite.{NodeSite}
use Rattle.kasa_families.specs.declared.shape.Bond.{Bond}
use Rattle.kasa_families.specs.Shape.{Shape, IsShape, Nth, named, ends, bond, root_of, at as site_of}
use Rattle.kasa_families.specs.Family.{IsFamily, shape_of, root, family_types}
use Rattle.kasa_families.specs.declared.place.Spot.{Spot}
use Rattle.kasa_families.specs.declared.place.Place.{Place}
use Rattle.kasa_families.specs.declared.place.Place.TheVariants.{One, Two, Three}
use Rattle.kasa_families.specs.Spot.{nodes_of, led_to, root_bonds, place_of, AsksMet, NamesSite, HasNamedSites}
use Rattle.kasa_families.proofs.ColumnLemmas.{nth_of, All-at, All-left, one_or_apart, end_of, first_end, second_end, TestsBond, types_of-root}
use Rattle.kasa_families.proofs.FamilyShape.{IsShape-of, some_types}
use Rattle.kasa_families.proofs.RowPattern.{root_types, types_of-family_root, length_of, typed_of, state_test-root_of, link_test-root_of, TestsBond-root_of, link_test-parallel_root_first, link_test-parallel_root_second, link_test-parallel_root_other}
use Rattle.kasa_pre.specs.Place.{ImpliesAt, IsPlace}
use Rattle.kasa_pre.specs.Spots.{StandsFrom, Leads, AreTyped, IsOnlySpot}
use Rattle.kasa_pre.proofs.CoverLemmas.{length-root}
use Rattle.kasa_pre.proofs.RowPlace.{state_test-root}

-- ---- lists of nodes

pub AllDifferent-one : (n : ℕ) → AllDifferent (n ∷ [])
AllDifferent-one n zero zero y e f = refl
AllDifferent-one n zero (suc j) y e f = absurd cc
AllDifferent-one n (suc i) j y e f = absurd cc

one_of : (place : List ℕ) (n : ℕ) → length place ≡ 1 → slice_get place 0 ≡ Some n → place ≡ n ∷ []
one_of [] n count first = absurd cc
one_of (p ∷ []) n count first = let same : p ≡ n = cc in rw same
one_of (p ∷ q ∷ place) n count first = absurd (omega arith)

-- an element by another name of its number
at_number : (xs : List ℕ) (i j x : ℕ) → i ≡ j → slice_get xs j ≡ Some x → slice_get xs i ≡ Some x
at_number xs i j x e h = rw e h

-- two lists with the same elements by number
same_elements : (xs ys : List ℕ) → length xs ≡ length ys → ((k x y : ℕ) → slice_get xs k ≡ Some x → slice_get ys k ≡ Some y → x ≡ y) → xs ≡ ys
same_elements [] [] count same = refl
same_elements [] (y ∷ ys) count same = absurd (omega arith)
same_elements (x ∷ xs) [] count same = absurd (omega arith)
same_elements (x ∷ xs) (y ∷ ys) count same =
    let first = same 0 x y refl refl in
    let rest = same_elements xs ys (omega arith) (λ k. same (suc k)) in
    rw (first, rest) refl

-- ---- the types of a root

typed_root : (sig : List TypeEntry) (family : Family) (n : ℕ) → agent_at (root sig family) n ≡ slice_get (root_types family) n
typed_root sig family n = agent_at-types (root sig family) n ∙ ap (λ (ts : List ℕ). slice_get ts n) (types_of-family_root sig family)

first_type : (family : Family) (a : ℕ) → slice_get (root_types family) 0 ≡ Some a → slice_get (family_types family) 0 ≡ Some a
first_type (Parallel b x u c y w) a e = e
first_type family a e = e

root_first : (family : Family) → (a : ℕ) × (slice_get (root_types family) 0 ≡ Some a)
root_first (Parallel b x u c y w) = (b, refl)
root_first family = some_at (shape_of family).types 0 (some_types family)

-- where a root stands, its first node has its first type
pub rooted-stands : (sig : List TypeEntry) (family : Family) (g : List Node) (n a : ℕ) (place : List ℕ) → StandsFrom sig family g n place → agent_at g n ≡ Some a → slice_get (family_types family) 0 ≡ Some a
rooted-stands sig family g n a place at typed =
    let b = root_first family in
    let there = at.stands.types 0 n b.0 at.first (typed_root sig family 0 ∙ b.1) in
    let same : b.0 ≡ a = same_Some b.0 a (sym there ∙ typed) in
    rw (← same) (first_type family b.0 b.1)

-- ---- shapes

-- g has a bond of the shape between the places of its nodes
abbrev pub IsBondAt : List Node → List ℕ → Bond → Type 0
IsBondAt g place b = (p q : ℕ) → slice_get place b.first.node ≡ Some p → slice_get place b.second.node ≡ Some q → link_test g p b.first.site ≡ To q b.second.site

-- different nodes of g of the shape's types, the first one n, between which g has the shape's bonds
pub record Follows (g : List Node) (shape : Shape) (n : ℕ) (place : List ℕ) : Type 0 where
  pub count : length place ≡ length shape.types
  pub first : slice_get place 0 ≡ Some n
  pub different : AllDifferent place
  pub types : (k p a : ℕ) → slice_get place k ≡ Some p → slice_get shape.types k ≡ Some a → agent_at g p ≡ Some a
  pub bonds : AllByRecursion (IsBondAt g place) shape.bonds

module _ (sig : List TypeEntry) (g : List Node) (over : IsPatternOver sig g) (shape : Shape) (ok : IsShape sig shape) (n : ℕ) where
  -- a node that the shape names has its place
  placed : (place : List ℕ) → length place ≡ length shape.types → (s : NodeSite) → Has (ends shape.bonds) s → (p : ℕ) × (slice_get place s.node ≡ Some p)
  placed place count s has =
      let a = nth_of shape.types s.node (λ a. HasSite sig a s.site) (All-at _ (ends shape.bonds) has.0 s (All-left _ (ends shape.bonds) shape.columns ok.sites) has.1) in
      let inside = slice_get_within shape.types s.node a.0 a.1 in
      some_at place s.node (omega arith)

  pub IsPlace-follows : (place : List ℕ) → Follows g shape n place → IsPlace (root_of sig shape) g place
  IsPlace-follows place f = record {
    count = f.count ∙ sym (length_of (root_of sig shape) shape.types (types_of-root sig shape));
    different = f.different;
    types = λ k p a on is. f.types k p a on (sym (agent_at-types (root_of sig shape) k ∙ ap (λ (ts : List ℕ). slice_get ts k) (types_of-root sig shape)) ∙ is);
    states = λ k p s on. rw (state_test-root_of sig shape k s) tt;
    links = λ k p s on. elim (one_or_apart (site_of k s) (ends shape.bonds)) [
      | inl has ↦ at_end k p s on (end_of shape.bonds (site_of k s) has)
      | inr out ↦ rw (link_test-root_of sig shape (site_of k s) out) tt
    ];
  }
    where
      at_end : (k p s : ℕ) → slice_get place k ≡ Some p → (b : Bond) × Has shape.bonds b × ((b.first ≡ site_of k s) ⊎ (b.second ≡ site_of k s)) → ImpliesAt g (slice_get place) (link_test g p s) (link_test (root_of sig shape) k s)
      at_end k p s on (b, has, inl e) =
          let node : b.first.node ≡ k = ap (λ (r : NodeSite). r.node) e in
          let site : b.first.site ≡ s = ap (λ (r : NodeSite). r.site) e in
          let tests = All-at (TestsBond (root_of sig shape)) shape.bonds has.0 b (TestsBond-root_of sig shape ok) has.1 in
          let q = placed place f.count b.second (second_end shape.bonds has.0 b has.1) in
          let bond = All-at (IsBondAt g place) shape.bonds has.0 b f.bonds has.1 p q.0 (rw node on) q.1 in
          rw (← node, ← site, tests.first) (q.0, q.1, bond)
      at_end k p s on (b, has, inr e) =
          let node : b.second.node ≡ k = ap (λ (r : NodeSite). r.node) e in
          let site : b.second.site ≡ s = ap (λ (r : NodeSite). r.site) e in
          let tests = All-at (TestsBond (root_of sig shape)) shape.bonds has.0 b (TestsBond-root_of sig shape ok) has.1 in
          let q = placed place f.count b.first (first_end shape.bonds has.0 b has.1) in
          let bond = All-at (IsBondAt g place) shape.bonds has.0 b f.bonds has.1 q.0 p q.1 (rw node on) in
          rw (← node, ← site, tests.second) (q.0, q.1, over.linked.both_ways q.0 b.first.site p b.second.site bond)

  pub Follows-place : (place : List ℕ) → IsPlace (root_of sig shape) g place → slice_get place 0 ≡ Some n → Follows g shape n place
  Follows-place place stands first = record {
    count = stands.count ∙ length_of (root_of sig shape) shape.types (types_of-root sig shape);
    first = first;
    different = stands.different;
    types = λ k p a on is. stands.types k p a on (typed_of (root_of sig shape) shape.types k a (types_of-root sig shape) is);
    bonds = by_bond shape.bonds (TestsBond-root_of sig shape ok);
  }
    where
      by_bond : (bonds : List Bond) → AllByRecursion (TestsBond (root_of sig shape)) bonds → AllByRecursion (IsBondAt g place) bonds
      by_bond [] tests = tt
      by_bond (b ∷ bonds) tests = (
        λ p q on on'.
            let link = rw tests.0.first at (stands.links b.first.node p b.first.site on) in
            let same : link.0 ≡ q = same_Some link.0 q (sym link.1 ∙ on') in
            rw same at link.2,
        by_bond bonds tests.1,
      )

-- a view's root is one node
zip_at : {X Y : Type 0} (R : X → Y → Type 0) (xs : List X) (ys : List Y) → AllZip R xs ys → (k : ℕ) (x : X) (y : Y) → slice_get xs k ≡ Some x → slice_get ys k ≡ Some y → R x y
zip_at R [] ys all k x y e f = absurd cc
zip_at R (x' ∷ xs) [] all k x y e f = absurd cc
zip_at R (x' ∷ xs) (y' ∷ ys) all zero x y e f = let one : x' ≡ x = cc in let two : y' ≡ y = cc in rw (one, two) at all.0
zip_at R (x' ∷ xs) (y' ∷ ys) all (suc k) x y e f = zip_at R xs ys all.1 k x y e f

module _ (g : List Node) (n : ℕ) where
  pub Follows-view : (a : ℕ) (sites : List ℕ) → agent_at g n ≡ Some a → Follows g (shape_of (View a sites)) n (n ∷ [])
  Follows-view a sites typed = record {
    count = refl;
    first = refl;
    different = AllDifferent-one n;
    types = zip_at (λ p a. agent_at g p ≡ Some a) (n ∷ []) (a ∷ []) (typed, tt);
    bonds = tt;
  }

-- ---- along the bonds of a root, from node to node

-- different nodes of the types, from n on, one more than the first k bonds, which g has between them
pub record Along (g : List Node) (types : List ℕ) (bonds : List Bond) (n k : ℕ) (place : List ℕ) : Type 0 where
  pub count : length place ≡ suc k
  pub first : slice_get place 0 ≡ Some n
  pub different : AllDifferent place
  pub typed : (i p a : ℕ) → slice_get place i ≡ Some p → slice_get types i ≡ Some a → agent_at g p ≡ Some a
  pub bonded : (i : ℕ) (b : Bond) → i < k → slice_get bonds i ≡ Some b → IsBondAt g place b

-- each bond leads from an earlier node to the next one
pub record InOrder (types : List ℕ) (bonds : List Bond) : Type 0 where
  pub many : length bonds < length types
  pub next : (k : ℕ) (b : Bond) → slice_get bonds k ≡ Some b → (b.first.node ≤ k) × (b.second.node ≡ suc k)

module _ (g : List Node) (types : List ℕ) (bonds : List Bond) (order : InOrder types bonds) (n : ℕ) where
  pub Along-first : (a : ℕ) → agent_at g n ≡ Some a → slice_get types 0 ≡ Some a → Along g types bonds n 0 (n ∷ [])
  Along-first a typed is = record {
    count = refl;
    first = refl;
    different = AllDifferent-one n;
    typed = types_of_one;
    bonded = λ i b low. absurd (omega arith);
  }
    where
      types_of_one : (i p c : ℕ) → slice_get (n ∷ []) i ≡ Some p → slice_get types i ≡ Some c → agent_at g p ≡ Some c
      types_of_one zero p c e f = let same : n ≡ p = cc in rw (← same) (typed ∙ sym is ∙ f)
      types_of_one (suc i) p c e f = absurd cc

  -- a part of a place agrees with a whole place
  module _ (k : ℕ) (place : List ℕ) (f : Along g types bonds n k place) (other : List ℕ) (h : Along g types bonds n (length bonds) other) (low : k ≤ length bonds) where
    pub agree : (most i : ℕ) → i < most → (p q : ℕ) → slice_get place i ≡ Some p → slice_get other i ≡ Some q → p ≡ q
    agree zero i below p q e e' = absurd (omega arith)
    agree (suc most) zero below p q e e' = same_Some p q (sym e ∙ f.first ∙ sym h.first ∙ e')
    agree (suc most) (suc i) below p q e e' =
        let inside = slice_get_within place (suc i) p e in
        let count = f.count in
        let count' = h.count in
        let b = some_at bonds i (omega arith) in
        let next = order.next i b.0 b.1 in
        let from = some_at place b.0.first.node (let early = next.0 in omega arith) in
        let from' = some_at other b.0.first.node (let early = next.0 in omega arith) in
        let earlier : from.0 ≡ from'.0 = agree most b.0.first.node (let early = next.0 in omega arith) from.0 from'.0 from.1 from'.1 in
        let one = f.bonded i b.0 (omega arith) b.1 from.0 p from.1 (rw next.1 e) in
        let two = h.bonded i b.0 (omega arith) b.1 from'.0 q from'.1 (rw next.1 e') in
        let same : To p b.0.second.site ≡ To q b.0.second.site = sym one ∙ ap (λ (x : ℕ). link_test g x b.0.first.site) earlier ∙ two in
        cc

    -- where the next bond leads nowhere, there is no whole place
    pub Along-not : (b : Bond) → slice_get bonds k ≡ Some b → ((m : ℕ) → ¬ Leads g types place b m) → ⊥
    Along-not b is not =
        let next = order.next k b is in
        let inside = slice_get_within bonds k b is in
        let many = order.many in
        let count = f.count in
        let count' = h.count in
        let from = some_at place b.first.node (let early = next.0 in omega arith) in
        let from' = some_at other b.first.node (let early = next.0 in omega arith) in
        let earlier : from.0 ≡ from'.0 = agree (suc k) b.first.node (let early = next.0 in omega arith) from.0 from'.0 from.1 from'.1 in
        let m = some_at other (suc k) (omega arith) in
        let a = some_at types (suc k) (omega arith) in
        let bond = h.bonded k b (omega arith) is from'.0 m.0 from'.1 (at_number other b.second.node (suc k) m.0 next.1 m.1) in
        not m.0 (record {
          from = from.0;
          placed = from.1;
          link = ap (λ (x : ℕ). link_test g x b.first.site) earlier ∙ bond;
          agent = a.0;
          typed = at_number types b.second.node (suc k) a.0 next.1 a.1;
          is = h.typed (suc k) m.0 a.0 m.1 a.1;
          new = λ has. let within = slice_get_within place has.0 m.0 has.1 in let there = some_at other has.0 (omega arith) in let same : m.0 ≡ there.0 = agree (suc k) has.0 (omega arith) m.0 there.0 has.1 there.1 in let number = h.different has.0 (suc k) m.0 (there.1 ∙ ap Some (sym same)) m.1 in absurd (omega arith);
        })

  -- a further node, where g leads along the next bond
  module _ (k : ℕ) (place : List ℕ) (f : Along g types bonds n k place) (b : Bond) (is : slice_get bonds k ≡ Some b) (m : ℕ) (leads : Leads g types place b m) where
    old_or_new : (i p : ℕ) → slice_get (place ++ m ∷ []) i ≡ Some p → ((i < suc k) × (slice_get place i ≡ Some p)) ⊎ ((i ≡ suc k) × (m ≡ p))
    old_or_new i p e = by (below_or i (suc k))
      where
        by : (i < suc k) ⊎ ((j : ℕ) × (suc k + j ≡ i)) → ((i < suc k) × (slice_get place i ≡ Some p)) ⊎ ((i ≡ suc k) × (m ≡ p))
        by (inl low) = inl (low, sym (slice_get-append_left place (m ∷ []) i (let count = f.count in omega arith)) ∙ e)
        by (inr (zero, at)) = inr (omega arith, let here : slice_get (m ∷ []) 0 ≡ Some p = sym (slice_get-append_right place (m ∷ []) 0 i (let count = f.count in omega arith)) ∙ e in cc)
        by (inr (suc j, at)) = absurd (let past : slice_get (m ∷ []) (suc j) ≡ Some p = sym (slice_get-append_right place (m ∷ []) (suc j) i (let count = f.count in omega arith)) ∙ e in cc)

    pub Along-next : Along g types bonds n (suc k) (place ++ m ∷ [])
    Along-next = record {
      count = let long = length-append place (m ∷ []) in let count = f.count in omega arith;
      first = slice_get-append_left place (m ∷ []) 0 (let count = f.count in omega arith) ∙ f.first;
      different = different;
      typed = λ i p a e type. elim (old_or_new i p e) [
        | inl old ↦ f.typed i p a old.1 type
        | inr new ↦
            let next = order.next k b is in
            let same : leads.agent ≡ a = same_Some leads.agent a (sym leads.typed ∙ (rw (next.1, ← new.0) type)) in
            rw (← new.1, ← same) leads.is
      ];
      bonded = λ i b' low at p q e e'.
          let next = order.next i b' at in
          elim (old_or_new b'.first.node p e) [
            | inl from ↦ elim (old_or_new b'.second.node q e') [
              | inl to ↦ f.bonded i b' (let last = to.0 in let second = next.1 in omega arith) at p q from.1 to.1
              | inr new ↦
                  let number : i ≡ k = let last = new.0 in let second = next.1 in omega arith in
                  let same : b ≡ b' = let here = rw number at at in cc in
                  let one : leads.from ≡ p = same_Some leads.from p (sym leads.placed ∙ (rw same from.1)) in
                  rw (← new.1, ← one, ← same) leads.link
            ]
            | inr new ↦ absurd (let early = next.0 in let past = new.0 in omega arith)
          ];
    }
      where
        different : AllDifferent (place ++ m ∷ [])
        different i j p e e' = elim (old_or_new i p e) [
          | inl old ↦ elim (old_or_new j p e') [
            | inl old' ↦ f.different i j p old.1 old'.1
            | inr new ↦ absurd (leads.new (i, rw new.1 old.1))
          ]
          | inr new ↦ elim (old_or_new j p e') [
            | inl old' ↦ absurd (leads.new (j, rw new.1 old'.1))
            | inr new' ↦ new.0 ∙ sym new'.0
          ]
        ]

-- ---- the bonds of the roots of all kinds

pub few_root_bonds : (family : Family) → length (root_bonds family) ≤ 2
few_root_bonds (View a sites) = omega arith
few_root_bonds (Across a x p b y q) = omega arith
few_root_bonds (Parallel a x u b y w) = omega arith
few_root_bonds (Chain a x p b y z c w q) = omega arith

pub InOrder-root : (family : Family) → InOrder (shape_of family).types (root_bonds family)
InOrder-root (View a sites) = record { many = omega arith; next = λ k b e. absurd cc }
InOrder-root (Across a x p b y q) = record { many = omega arith; next = steps }
  where
    steps : (k : ℕ) (r : Bond) → slice_get (root_bonds (Across a x p b y q)) k ≡ Some r → (r.first.node ≤ k) × (r.second.node ≡ suc k)
    steps zero r e = let same : bond 0 x 1 y ≡ r = cc in rw (← same) (omega arith, refl)
    steps (suc k) r e = absurd cc
InOrder-root (Parallel a x u b y w) = record { many = omega arith; next = λ k b e. absurd cc }
InOrder-root (Chain a x p b y z c w q) = record { many = omega arith; next = steps }
  where
    steps : (k : ℕ) (r : Bond) → slice_get (root_bonds (Chain a x p b y z c w q)) k ≡ Some r → (r.first.node ≤ k) × (r.second.node ≡ suc k)
    steps zero r e = let same : bond 0 x 1 y ≡ r = cc in rw (← same) (omega arith, refl)
    steps (suc zero) r e = let same : bond 1 z 2 w ≡ r = cc in rw (← same) (omega arith, refl)
    steps (suc (suc k)) r e = absurd cc

abbrev pub AlongRoot : List Node → Family → ℕ → ℕ → List ℕ → Type 0
AlongRoot g family n k place = Along g (shape_of family).types (root_bonds family) n k place

pointwise : (g : List Node) (place : List ℕ) (bonds : List Bond) → ((i : ℕ) (b : Bond) → slice_get bonds i ≡ Some b → IsBondAt g place b) → AllByRecursion (IsBondAt g place) bonds
pointwise g place [] all = tt
pointwise g place (b ∷ bonds) all = (all 0 b refl, pointwise g place bonds (λ i. all (suc i)))

module _ (sig : List TypeEntry) (g : List Node) (over : IsPatternOver sig g) (family : Family) (valid : IsFamily sig family) (n : ℕ) where
  shape_stands : root sig family ≡ root_of sig (shape_of family) → (root_bonds family ≡ (shape_of family).bonds) × (length (shape_of family).types ≡ suc (length (shape_of family).bonds)) → (place : List ℕ) → AlongRoot g family n (length (root_bonds family)) place → StandsFrom sig family g n place
  shape_stands is (same, count) place f = record {
    stands = rw is (IsPlace-follows sig g over (shape_of family) (IsShape-of sig family valid) n place (record {
      count = f.count ∙ ap (λ (bs : List Bond). suc (length bs)) same ∙ sym count;
      first = f.first;
      different = f.different;
      types = f.typed;
      bonds = pointwise g place (shape_of family).bonds (λ i b at. f.bonded i b (rw same (slice_get_within (shape_of family).bonds i b at)) (rw same at));
    }));
    first = f.first;
  }

  shape_along : root sig family ≡ root_of sig (shape_of family) → (root_bonds family ≡ (shape_of family).bonds) × (length (shape_of family).types ≡ suc (length (shape_of family).bonds)) → (place : List ℕ) → StandsFrom sig family g n place → AlongRoot g family n (length (root_bonds family)) place
  shape_along is (same, count) place at =
      let f = Follows-place sig g over (shape_of family) (IsShape-of sig family valid) n place (rw is at at.stands) at.first in
      record {
        count = f.count ∙ count ∙ ap (λ (bs : List Bond). suc (length bs)) (sym same);
        first = f.first;
        different = f.different;
        typed = f.types;
        bonded = λ i b low on. All-at (IsBondAt g place) (shape_of family).bonds i b f.bonds (rw same at on);
      }

-- ---- parallel bonds

module _ (sig : List TypeEntry) (g : List Node) (n a x u b y w : ℕ) (valid : IsFamily sig (Parallel a x u b y w)) where
  StandsFrom-parallel : agent_at g n ≡ Some a → LinkImplies g (link_test g n x) (Partner b y) → LinkImplies g (link_test g n u) (Partner b w) → StandsFrom sig (Parallel a x u b y w) g n (n ∷ [])
  StandsFrom-parallel typed first second = record {
    stands = record {
      count = sym (length-root sig (Parallel a x u b y w));
      different = AllDifferent-one n;
      types = types;
      states = λ k p s e. rw (state_test-root sig (Parallel a x u b y w) k s) tt;
      links = links;
    };
    first = refl;
  }
    where
      types : (k p c : ℕ) → slice_get (n ∷ []) k ≡ Some p → agent_at (root sig (Parallel a x u b y w)) k ≡ Some c → agent_at g p ≡ Some c
      types zero p c e is = let same : n ≡ p = cc in let type : Some a ≡ Some c = sym (typed_root sig (Parallel a x u b y w) 0) ∙ is in rw (← same) (typed ∙ type)
      types (suc k) p c e is = absurd cc

      links : (k p s : ℕ) → slice_get (n ∷ []) k ≡ Some p → ImpliesAt g (slice_get (n ∷ [])) (link_test g p s) (link_test (root sig (Parallel a x u b y w)) k s)
      links zero p s e =
          let same : n ≡ p = cc in
          elim (same_site_or_not 0 x 0 s) [
            | inl at ↦ rw (← at.1, ← same, link_test-parallel_root_first sig a x u b y w valid) first
            | inr out ↦ elim (same_site_or_not 0 u 0 s) [
              | inl at ↦ rw (← at.1, ← same, link_test-parallel_root_second sig a x u b y w valid) second
              | inr out' ↦ rw (link_test-parallel_root_other sig a x u b y w valid 0 s out out') tt
            ]
          ]
      links (suc k) p s e = absurd cc

  pub partners-parallel : (place : List ℕ) → StandsFrom sig (Parallel a x u b y w) g n place → LinkImplies g (link_test g n x) (Partner b y) × LinkImplies g (link_test g n u) (Partner b w)
  partners-parallel place at = (
    rw (link_test-parallel_root_first sig a x u b y w valid) at (at.stands.links 0 n x at.first),
    rw (link_test-parallel_root_second sig a x u b y w valid) at (at.stands.links 0 n u at.first),
  )

-- ---- the places of a family's root, of whatever kind it is

pub StandsFrom-along : (sig : List TypeEntry) (g : List Node) → IsPatternOver sig g → (family : Family) → IsFamily sig family → (n : ℕ) → AsksMet g family n → (place : List ℕ) → AlongRoot g family n (length (root_bonds family)) place → StandsFrom sig family g n place
StandsFrom-along sig g over (Parallel a x u b y w) valid n asks place f =
    let one = one_of place n f.count f.first in
    rw one (StandsFrom-parallel sig g n a x u b y w valid (f.typed 0 n a f.first refl) asks.0 asks.1)
StandsFrom-along sig g over (View a sites) valid n asks place f = shape_stands sig g over (View a sites) valid n refl (refl, refl) place f
StandsFrom-along sig g over (Across a x p b y q) valid n asks place f = shape_stands sig g over (Across a x p b y q) valid n refl (refl, refl) place f
StandsFrom-along sig g over (Chain a x p b y z c w q) valid n asks place f = shape_stands sig g over (Chain a x p b y z c w q) valid n refl (refl, refl) place f

pub Along-stands : (sig : List TypeEntry) (g : List Node) → IsPatternOver sig g → (family : Family) → IsFamily sig family → (n a : ℕ) → agent_at g n ≡ Some a → slice_get (family_types family) 0 ≡ Some a → (place : List ℕ) → StandsFrom sig family g n place → AsksMet g family n × AlongRoot g family n (length (root_bonds family)) place
Along-stands sig g over (Parallel a x u b y w) valid n c typed is place at =
    let one = one_of place n (at.stands.count ∙ length-root sig (Parallel a x u b y w)) at.first in
    (partners-parallel sig g n a x u b y w valid place at, rw one (Along-first g (a ∷ b ∷ []) [] (InOrder-root (Parallel a x u b y w)) n c typed is))
Along-stands sig g over (View a sites) valid n c typed is place at = (tt, shape_along sig g over (View a sites) valid n refl (refl, refl) place at)
Along-stands sig g over (Across a x p b y q) valid n c typed is place at = (tt, shape_along sig g over (Across a x p b y q) valid n refl (refl, refl) place at)
Along-stands sig g over (Chain a x p b y z c' w q) valid n c typed is place at = (tt, shape_along sig g over (Chain a x p b y z c' w q) valid n refl (refl, refl) place at)

-- the first two nodes of a whole place lead to all of it
pub spot_read : (g : List Node) (family : Family) (n : ℕ) (place : Place) (first : ℕ) (second : Option ℕ) → AlongRoot g family n (length (root_bonds family)) (nodes_of place) → slice_get (nodes_of place) 0 ≡ Some first → second ≡ slice_get (nodes_of place) 1 → place_of g family (record { first = first; second = second }) ≡ nodes_of place
spot_read g (View a sites) n (One i) first second f e e' = let same : i ≡ first = cc in rw (e', same) refl
spot_read g (View a sites) n (Two i j) first second f e e' = absurd (let count = f.count in omega arith)
spot_read g (View a sites) n (Three i j k) first second f e e' = absurd (let count = f.count in omega arith)
spot_read g (Parallel a x u b y w) n (One i) first second f e e' = let same : i ≡ first = cc in rw (e', same) refl
spot_read g (Parallel a x u b y w) n (Two i j) first second f e e' = absurd (let count = f.count in omega arith)
spot_read g (Parallel a x u b y w) n (Three i j k) first second f e e' = absurd (let count = f.count in omega arith)
spot_read g (Across a x p b y q) n (One i) first second f e e' = absurd (let count = f.count in omega arith)
spot_read g (Across a x p b y q) n (Two i j) first second f e e' = let same : i ≡ first = cc in rw (e', same) refl
spot_read g (Across a x p b y q) n (Three i j k) first second f e e' = absurd (let count = f.count in omega arith)
spot_read g (Chain a x p b y z c w q) n (One i) first second f e e' = absurd (let count = f.count in omega arith)
spot_read g (Chain a x p b y z c w q) n (Two i j) first second f e e' = absurd (let count = f.count in omega arith)
spot_read g (Chain a x p b y z c w q) n (Three i j k) first second f e e' =
    let same : i ≡ first = cc in
    let last : link_test g j z ≡ To k w = f.bonded 1 (bond 1 z 2 w) (omega arith) refl j k refl refl in
    rw (e', same) (ap (λ (t : LinkTest). first ∷ j ∷ led_to t) last)

-- it is the only place
pub IsOnlySpot-along : (sig : List TypeEntry) (g : List Node) → IsPatternOver sig g → (family : Family) → IsFamily sig family → (n a : ℕ) → agent_at g n ≡ Some a → slice_get (family_types family) 0 ≡ Some a → AsksMet g family n → (place : Place) (spot : Spot) → AlongRoot g family n (length (root_bonds family)) (nodes_of place) → slice_get (nodes_of place) 0 ≡ Some spot.first → spot.second ≡ slice_get (nodes_of place) 1 → IsOnlySpot sig family g n (Some spot)
IsOnlySpot-along sig g over family valid n a typed is asks place spot f e e' =
    let P : List ℕ → Type 0 = λ there. StandsFrom sig family g n there × ((other : List ℕ) → StandsFrom sig family g n other → other ≡ there) in
    subst P (sym (spot_read g family n place spot.first spot.second f e e')) (
      StandsFrom-along sig g over family valid n asks (nodes_of place) f,
      λ other at.
          let h = Along-stands sig g over family valid n a typed is other at in
          sym (same_elements (nodes_of place) other (f.count ∙ sym h.1.count) (λ k p q. agree g (shape_of family).types (root_bonds family) (InOrder-root family) n (length (root_bonds family)) (nodes_of place) f other h.1 (omega arith) (suc k) k (omega arith) p q)),
    )

-- ---- the sites that a family names

named_of : (sig : List TypeEntry) (family : Family) → IsFamily sig family → (a s : ℕ) → NamesSite family a s → HasSite sig a s
named_of sig family valid a s (t, has, is, e) =
    let b = nth_of (shape_of family).types t.node (λ a. HasSite sig a t.site) (All-at _ (named (shape_of family)) has.0 t (IsShape-of sig family valid).sites has.1) in
    let type : b.0 ≡ a = same_Some b.0 a (sym b.1 ∙ is) in
    rw (type, e) at b.2

pub HasNamedSites-over : (sig : List TypeEntry) (g : List Node) (family : Family) → IsPatternOver sig g → IsFamily sig family → HasNamedSites g family
HasNamedSites-over sig g family over valid n a s typed names = HasNodeSite-over sig g over n a s typed (named_of sig family valid a s names)

-- where the nodes of a place have their types, each bond begins at a site that exists
pub HasNodeSite-bond_over : (sig : List TypeEntry) (g : List Node) (family : Family) → IsPatternOver sig g → IsFamily sig family → (k : ℕ) (b : Bond) → slice_get (root_bonds family) k ≡ Some b → (place : List ℕ) → AreTyped g (shape_of family).types place → (p : ℕ) → slice_get place b.first.node ≡ Some p → HasNodeSite g p b.first.site
HasNodeSite-bond_over sig g (Parallel a x u c y w) over valid k b is place typed p on = absurd cc
HasNodeSite-bond_over sig g family over valid k b is place typed p on =
    let has = first_end (shape_of family).bonds k b is in
    let P : NodeSite → Type 0 = λ s. Nth (shape_of family).types s.node (λ a. HasSite sig a s.site) in
    let sited = All-at P (ends (shape_of family).bonds) has.0 b.first (All-left P (ends (shape_of family).bonds) (shape_of family).columns (IsShape-of sig family valid).sites) has.1 in
    let a = nth_of (shape_of family).types b.first.node (λ a. HasSite sig a b.first.site) sited in
    HasNodeSite-over sig g over p a.0 b.first.site (typed b.first.node p a.0 on a.1) a.2
