-- The places of nodes, and the nodes outside that are appended, node by node.
use Rattle.std.proofs.Common.{◌≡◌, ℕ, zero, suc, ◌+◌, ◌<◌, ◌≤◌, inl, inr, List, [], ◌∷◌, ◌++◌, refl, sym, ap, ◌∙◌, length, drop, map, append_assoc, append-nil, length-append, arith}
use Rattle.std.specs.Prelude.{Option, Some, slice_get}
use Rattle.std.specs.Option.{option_map_or}
use Rattle.std.proofs.Math.ListN.{drop_of_length-le}
use Rattle.kasa_graph.specs.declared.pattern.StateTest.TheVariants as state
use Rattle.kasa_graph.specs.declared.pattern.SiteTests.{SiteTests}
use Rattle.kasa_graph.specs.declared.pattern.Node.{Node}
use Rattle.kasa_graph.specs.Signature.{TypeEntry, state_counts}
use Rattle.kasa_graph.specs.Pattern.{site_at, state_test, types_of, blank_site, blank_node, IsPatternOver}
use Rattle.kasa_graph.proofs.ListLemmas.{below_or, slice_get-append_left, slice_get-append_right}
use Rattle.kasa_graph.proofs.PatternLemmas.{link_test-push_blank}
use Rattle.kasa_graph.proofs.TestLemmas.{length-types}
use Rattle.kasa_graph.proofs.OverLemmas.{IsPatternOver-add_node}
use Rattle.kasa_pre.specs.declared.Stand.{Stand}
use Rattle.kasa_pre.specs.declared.Stand.TheVariants.{Left, Made, Outside}
use Rattle.kasa_pre.specs.Before.{place_from, outside_types}
use Rattle.kasa_pre.specs.Asked.{IsPlaced, SameTests}

-- ---- a new node without tests

no_states : (counts : List ℕ) (s : ℕ) → option_map_or (λ (x : SiteTests). x.state) (slice_get (map blank_site counts) s) state.Any ≡ state.Any
no_states [] s = refl
no_states (k ∷ counts) zero = refl
no_states (k ∷ counts) (suc s) = no_states counts s

pub state_test-push_blank : (sig : List TypeEntry) (a : ℕ) (g : List Node) (n s : ℕ) → state_test (g ++ blank_node sig a ∷ []) n s ≡ state_test g n s
unfolding state_test site_at blank_node
state_test-push_blank sig a [] zero s = no_states (state_counts sig a) s
state_test-push_blank sig a [] (suc n) s = refl
state_test-push_blank sig a (node ∷ g) zero s = refl
state_test-push_blank sig a (node ∷ g) (suc n) s = state_test-push_blank sig a g n s

pub types_of-push_blank : (sig : List TypeEntry) (a : ℕ) (g : List Node) → types_of (g ++ blank_node sig a ∷ []) ≡ types_of g ++ a ∷ []
unfolding blank_node
types_of-push_blank sig a [] = refl
types_of-push_blank sig a (node ∷ g) = ap (λ (ts : List ℕ). node.agent ∷ ts) (types_of-push_blank sig a g)

drop-at : {X : Type 0} (xs : List X) (i : ℕ) (x : X) → slice_get xs i ≡ Some x → drop i xs ≡ x ∷ drop (suc i) xs
drop-at [] i x e = absurd cc
drop-at (y ∷ xs) zero x e = let same : y ≡ x = cc in rw same refl
drop-at (y ∷ xs) (suc i) x e = drop-at xs i x e

-- ---- places so far

-- the nodes of v below i have their places, and g has the nodes of those outside
pub record PlacedBelow (sig : List TypeEntry) (v : List Node) (stands : List Stand) (old : List Node) (i : ℕ) (g : List Node) (places : List (Option ℕ)) : Type 0 where
  pub valid : IsPatternOver sig g
  pub tests : SameTests g old
  pub types : types_of g ++ outside_types (drop i v) (drop i stands) ≡ types_of old ++ outside_types v stands
  pub count : length places ≡ i
  pub earlier : (j : ℕ) → j < i → slice_get places j ≡ Some (place_from (length old) stands j)
  pub later : (j k : ℕ) → k ≡ i + j → place_from (length g) (drop i stands) j ≡ place_from (length old) stands k

module _ (sig : List TypeEntry) (v : List Node) (stands : List Stand) (old : List Node) where
  pub PlacedBelow-start : IsPatternOver sig old → PlacedBelow sig v stands old 0 old []
  PlacedBelow-start over = record {
    valid = over;
    tests = record { states = λ n s. refl; links = λ n s. refl };
    types = refl;
    count = refl;
    earlier = λ j below. absurd (omega arith);
    later = λ j k e. let same : k ≡ j = omega arith in rw same refl;
  }

  -- a node outside wants room
  pub room : (i : ℕ) (g : List Node) (places : List (Option ℕ)) (node : Node) → slice_get stands i ≡ Some Outside → slice_get v i ≡ Some node → PlacedBelow sig v stands old i g places → length old + length (outside_types v stands) ≤ 1000 → length g < 1000
  room i g places node at there below few =
      let rest : outside_types (drop i v) (drop i stands) ≡ node.agent ∷ outside_types (drop (suc i) v) (drop (suc i) stands) = rw (drop-at stands i Outside at, drop-at v i node there) refl in
      let whole : length (types_of g ++ node.agent ∷ outside_types (drop (suc i) v) (drop (suc i) stands)) ≡ length (types_of old ++ outside_types v stands) = ap length (rw rest at below.types) in
      let first = length-append (types_of g) (node.agent ∷ outside_types (drop (suc i) v) (drop (suc i) stands)) in
      let second = length-append (types_of old) (outside_types v stands) in
      let count = length-types g in
      let count' = length-types old in
      omega arith

  -- the place of the next node
  place_next : (i a : ℕ) (stand : Stand) (g new : List Node) (places : List (Option ℕ)) (place : Option ℕ) → slice_get stands i ≡ Some stand → IsPlaced sig stand a g new place → PlacedBelow sig v stands old i g places → place ≡ place_from (length old) stands i
  place_next i a stand g new places place at placed below = by stand at placed
    where
      first : (stand : Stand) → slice_get stands i ≡ Some stand → place_from (length g) (stand ∷ drop (suc i) stands) 0 ≡ place_from (length old) stands i
      first stand at = rw (drop-at stands i stand at) at (below.later 0 i (omega arith))

      by : (stand : Stand) → slice_get stands i ≡ Some stand → IsPlaced sig stand a g new place → place ≡ place_from (length old) stands i
      by (Left n) at placed = placed.0 ∙ first (Left n) at
      by (Made k) at placed = placed.0 ∙ first (Made k) at
      by Outside at placed = placed.0 ∙ first Outside at

  earlier_next : (i : ℕ) (g : List Node) (places : List (Option ℕ)) (place : Option ℕ) → place ≡ place_from (length old) stands i → PlacedBelow sig v stands old i g places → (j : ℕ) → j < i + 1 → slice_get (places ++ place ∷ []) j ≡ Some (place_from (length old) stands j)
  earlier_next i g places place is below j before = elim (below_or j i) [
    | inl early ↦ slice_get-append_left places (place ∷ []) j (let count = below.count in omega arith) ∙ below.earlier j early
    | inr past ↦
        let same : i ≡ j = let e = past.1 in omega arith in
        slice_get-append_right places (place ∷ []) 0 j (let count = below.count in omega arith) ∙ ap Some (is ∙ ap (λ (k : ℕ). place_from (length old) stands k) same)
  ]

  count_next : (i : ℕ) (g : List Node) (places : List (Option ℕ)) (place : Option ℕ) → PlacedBelow sig v stands old i g places → length (places ++ place ∷ []) ≡ i + 1
  count_next i g places place below = let more = length-append places (place ∷ []) in let count = below.count in omega arith

  module _ (i a : ℕ) (node : Node) (typed : node.agent ≡ a) (there : slice_get v i ≡ Some node) (g : List Node) (places : List (Option ℕ)) (below : PlacedBelow sig v stands old i g places) where
    -- no node is appended
    kept_next : (stand : Stand) (place : Option ℕ) → slice_get stands i ≡ Some stand → outside_types (node ∷ drop (suc i) v) (stand ∷ drop (suc i) stands) ≡ outside_types (drop (suc i) v) (drop (suc i) stands) → ((j : ℕ) → place_from (length g) (stand ∷ drop (suc i) stands) (suc j) ≡ place_from (length g) (drop (suc i) stands) j) → place ≡ place_from (length old) stands i → PlacedBelow sig v stands old (i + 1) g (places ++ place ∷ [])
    kept_next stand place at same_types same_places is =
        let next : i + 1 ≡ suc i = omega arith in
        rw next record {
          valid = below.valid;
          tests = below.tests;
          types = ap (λ (ts : List ℕ). types_of g ++ ts) (sym same_types ∙ (rw (drop-at stands i stand at, drop-at v i node there) refl)) ∙ below.types;
          count = count_next i g places place below ∙ next;
          earlier = λ j before. earlier_next i g places place is below j (omega arith);
          later = λ j k e. let before : place_from (length g) (stand ∷ drop (suc i) stands) (suc j) ≡ place_from (length old) stands k = rw (drop-at stands i stand at) at (below.later (suc j) k (omega arith)) in sym (same_places j) ∙ before;
        }

    -- a node is appended
    outside_next : (place : Option ℕ) → a < length sig → slice_get stands i ≡ Some Outside → place ≡ place_from (length old) stands i → PlacedBelow sig v stands old (i + 1) (g ++ blank_node sig a ∷ []) (places ++ place ∷ [])
    outside_next place known at is =
        let next : i + 1 ≡ suc i = omega arith in
        let size : length (g ++ blank_node sig a ∷ []) ≡ suc (length g) = let more = length-append g (blank_node sig a ∷ []) in omega arith in
        let rest : outside_types (drop i v) (drop i stands) ≡ node.agent ∷ outside_types (drop (suc i) v) (drop (suc i) stands) = rw (drop-at stands i Outside at, drop-at v i node there) refl in
        rw next record {
          valid = IsPatternOver-add_node sig a g below.valid known;
          tests = record {
            states = λ n s. state_test-push_blank sig a g n s ∙ below.tests.states n s;
            links = λ n s. link_test-push_blank sig a g n s ∙ below.tests.links n s;
          };
          types =
              ap (λ (ts : List ℕ). ts ++ outside_types (drop (suc i) v) (drop (suc i) stands)) (types_of-push_blank sig a g)
              ∙ append_assoc (types_of g) (a ∷ []) (outside_types (drop (suc i) v) (drop (suc i) stands))
              ∙ ap (λ (b : ℕ). types_of g ++ b ∷ outside_types (drop (suc i) v) (drop (suc i) stands)) (sym typed)
              ∙ ap (λ (ts : List ℕ). types_of g ++ ts) (sym rest)
              ∙ below.types;
          count = count_next i g places place below ∙ next;
          earlier = λ j before. earlier_next i g places place is below j (omega arith);
          later = λ j k e.
              let before : place_from (length g) (Outside ∷ drop (suc i) stands) (suc j) ≡ place_from (length old) stands k = rw (drop-at stands i Outside at) at (below.later (suc j) k (omega arith)) in
              ap (λ (n : ℕ). place_from n (drop (suc i) stands) j) size ∙ before;
        }

    pub PlacedBelow-next : (stand : Stand) (new : List Node) (place : Option ℕ) → a < length sig → slice_get stands i ≡ Some stand → IsPlaced sig stand a g new place → PlacedBelow sig v stands old (i + 1) new (places ++ place ∷ [])
    PlacedBelow-next (Left n) new place known at placed = rw placed.1 (kept_next (Left n) place at refl (λ j. refl) (place_next i a (Left n) g new places place at placed below))
    PlacedBelow-next (Made k) new place known at placed = rw placed.1 (kept_next (Made k) place at refl (λ j. refl) (place_next i a (Made k) g new places place at placed below))
    PlacedBelow-next Outside new place known at placed = rw placed.1 (outside_next place known at (place_next i a Outside g new places place at placed below))

  -- all nodes
  pub types-placed : (i : ℕ) (g : List Node) (places : List (Option ℕ)) → length v ≤ i → length stands ≡ length v → PlacedBelow sig v stands old i g places → types_of g ≡ types_of old ++ outside_types v stands
  types-placed i g places past count below =
      let none : drop i v ≡ [] = drop_of_length-le v past in
      let whole : types_of g ++ [] ≡ types_of old ++ outside_types v stands = rw none at below.types in
      sym (append-nil (types_of g)) ∙ whole
