-- The patterns of bonds and of steps, node by node.
use Rattle.std.proofs.Common.{◌≡◌, ◌≢◌, ◌<◌, ℕ, List, [], ◌∷◌, ◌++◌, length, map, refl, sym, ap, ◌∙◌, arith}
use Rattle.kasa_graph.specs.declared.pattern.Node.{Node}
use Rattle.kasa_graph.specs.Signature.{TypeEntry, HasSite}
use Rattle.kasa_graph.specs.Pattern.{link_test, blank_node, with_link, with_bond, HasNodeSite, IsNoBond, IsPatternOver}
use Rattle.kasa_graph.proofs.TestLemmas.{HasNodeSite-blank, HasNodeSite-with_bond, link_test-blank, link_test-with_bond_other}
use Rattle.kasa_graph.proofs.OverLemmas.{AreKnown-[], AreKnown-cons, IsPatternOver-blank, IsPatternOver-with_bond}
use Rattle.kasa_polymers.specs.declared.map.Bond.{Bond}
use Rattle.kasa_polymers.specs.StepGraph.{bond_pattern, step_pattern}
use Rattle.kasa_polymers.specs.inner.Steps.{IsBondOver}

abbrev pub pair_of : List TypeEntry → ℕ → ℕ → List Node
pair_of sig a b = blank_node sig a ∷ blank_node sig b ∷ []

abbrev pub three_of : List TypeEntry → ℕ → ℕ → ℕ → List Node
three_of sig a b c = blank_node sig a ∷ blank_node sig b ∷ blank_node sig c ∷ []

-- what two appended nodes make
pub record ArePair (sig : List TypeEntry) (a b : ℕ) (g : List Node) (n k : ℕ) : Type 0 where
  pub first : n ≡ 0
  pub second : k ≡ 1
  pub nodes : g ≡ pair_of sig a b

pub pair_made : (sig : List TypeEntry) (a b : ℕ) (none one two : List Node) (n k : ℕ) → none ≡ [] → (n ≡ length none) × (one ≡ none ++ blank_node sig a ∷ []) → (k ≡ length one) × (two ≡ one ++ blank_node sig b ∷ []) → ArePair sig a b two n k
pair_made sig a b none one two n k empty first second =
    let start : one ≡ blank_node sig a ∷ [] = first.1 ∙ ap (λ (g : List Node). g ++ blank_node sig a ∷ []) empty in
    let zero : length none ≡ 0 = ap length empty in
    let long : length one ≡ 1 = ap length start in
    record {
      first = first.0 ∙ zero;
      second = second.0 ∙ long;
      nodes = second.1 ∙ ap (λ (g : List Node). g ++ blank_node sig b ∷ []) start;
    }

no_bond : (sig : List TypeEntry) (types : List ℕ) (n s : ℕ) → IsNoBond (link_test (map (blank_node sig) types) n s)
no_bond sig types n s = rw (link_test-blank sig types n s) tt

module _ (sig : List TypeEntry) (p : Bond) (over : IsBondOver sig p) where
  pub first_site : HasNodeSite (pair_of sig p.a p.b) 0 p.x
  first_site = HasNodeSite-blank sig (p.a ∷ p.b ∷ []) 0 p.x p.a refl over.first_site

  pub second_site : HasNodeSite (pair_of sig p.a p.b) 1 p.y
  second_site = HasNodeSite-blank sig (p.a ∷ p.b ∷ []) 1 p.y p.b refl over.second_site

  pub pair_open : (n s : ℕ) → IsNoBond (link_test (pair_of sig p.a p.b) n s)
  pair_open n s = no_bond sig (p.a ∷ p.b ∷ []) n s

  pub IsPatternOver-bond : IsPatternOver sig (bond_pattern sig p)
  IsPatternOver-bond = IsPatternOver-with_bond sig (pair_of sig p.a p.b) 0 p.x 1 p.y
      (IsPatternOver-blank sig (p.a ∷ p.b ∷ []) (AreKnown-cons sig p.a (p.b ∷ []) over.first (AreKnown-cons sig p.b [] over.second (AreKnown-[] sig))))
      first_site second_site (λ e same. absurd cc) (pair_open 0 p.x) (pair_open 1 p.y)

  -- ---- a third node

  abbrev pub open_three : ℕ → List Node
  open_three c = with_bond (three_of sig p.a p.b c) 0 p.x 1 p.y

  pub record AreThree (c : ℕ) (g : List Node) (k : ℕ) : Type 0 where
    pub third : k ≡ 2
    pub nodes : g ≡ open_three c

  length_bond : length (bond_pattern sig p) ≡ 2
  unfolding with_link
  length_bond = refl

  third_more : (c : ℕ) → bond_pattern sig p ++ blank_node sig c ∷ [] ≡ open_three c
  unfolding with_link
  third_more c = refl

  pub few_nodes : (g : List Node) → g ≡ bond_pattern sig p → length g < 1000
  few_nodes g is = let e : length g ≡ 2 = ap length is ∙ length_bond in omega arith

  pub three_made : (c : ℕ) (g three : List Node) (k : ℕ) → g ≡ bond_pattern sig p → (k ≡ length g) × (three ≡ g ++ blank_node sig c ∷ []) → AreThree c three k
  three_made c g three k is made = record {
    third = made.0 ∙ ap length is ∙ length_bond;
    nodes = made.1 ∙ ap (λ (h : List Node). h ++ blank_node sig c ∷ []) is ∙ third_more c;
  }

  module _ (q : Bond) (next_over : IsBondOver sig q) (goes_on : p.b ≡ q.a) (other_site : q.x ≢ p.y) where
    on_site : HasSite sig p.b q.x
    on_site = rw goes_on next_over.first_site

    pub HasNodeSite-second : HasNodeSite (open_three q.b) 1 q.x
    HasNodeSite-second = HasNodeSite-with_bond (three_of sig p.a p.b q.b) 0 p.x 1 p.y 1 q.x (HasNodeSite-blank sig (p.a ∷ p.b ∷ q.b ∷ []) 1 q.x p.b refl on_site)

    pub HasNodeSite-third : HasNodeSite (open_three q.b) 2 q.y
    HasNodeSite-third = HasNodeSite-with_bond (three_of sig p.a p.b q.b) 0 p.x 1 p.y 2 q.y (HasNodeSite-blank sig (p.a ∷ p.b ∷ q.b ∷ []) 2 q.y q.b refl next_over.second_site)

    pub second_open : IsNoBond (link_test (open_three q.b) 1 q.x)
    second_open = rw (link_test-with_bond_other (three_of sig p.a p.b q.b) 0 p.x 1 p.y 1 q.x (λ e same. absurd cc) (λ e same. other_site (sym same))) (no_bond sig (p.a ∷ p.b ∷ q.b ∷ []) 1 q.x)

    pub third_open : IsNoBond (link_test (open_three q.b) 2 q.y)
    third_open = rw (link_test-with_bond_other (three_of sig p.a p.b q.b) 0 p.x 1 p.y 2 q.y (λ e same. absurd cc) (λ e same. absurd cc)) (no_bond sig (p.a ∷ p.b ∷ q.b ∷ []) 2 q.y)

    pub IsPatternOver-step : IsPatternOver sig (step_pattern sig p q)
    IsPatternOver-step = IsPatternOver-with_bond sig (open_three q.b) 1 q.x 2 q.y
        (IsPatternOver-with_bond sig (three_of sig p.a p.b q.b) 0 p.x 1 p.y
        (IsPatternOver-blank sig (p.a ∷ p.b ∷ q.b ∷ []) (AreKnown-cons sig p.a (p.b ∷ q.b ∷ []) over.first (AreKnown-cons sig p.b (q.b ∷ []) over.second (AreKnown-cons sig q.b [] next_over.second (AreKnown-[] sig)))))
        (HasNodeSite-blank sig (p.a ∷ p.b ∷ q.b ∷ []) 0 p.x p.a refl over.first_site) (HasNodeSite-blank sig (p.a ∷ p.b ∷ q.b ∷ []) 1 p.y p.b refl over.second_site)
        (λ e same. absurd cc) (no_bond sig (p.a ∷ p.b ∷ q.b ∷ []) 0 p.x) (no_bond sig (p.a ∷ p.b ∷ q.b ∷ []) 1 p.y))
        HasNodeSite-second HasNodeSite-third (λ e same. absurd cc) second_open third_open

-- one node alone
pub IsPatternOver-alone : (sig : List TypeEntry) (a : ℕ) (none g : List Node) → a < length sig → none ≡ [] → g ≡ none ++ blank_node sig a ∷ [] → (g ≡ blank_node sig a ∷ []) × IsPatternOver sig (blank_node sig a ∷ [])
IsPatternOver-alone sig a none g known empty made = (
  made ∙ ap (λ (h : List Node). h ++ blank_node sig a ∷ []) empty,
  IsPatternOver-blank sig (a ∷ []) (AreKnown-cons sig a [] known (AreKnown-[] sig)),
)
