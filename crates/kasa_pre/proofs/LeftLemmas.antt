-- The pattern that is cut out of a mixture at the cells of a left pattern, and at others, implies the left pattern.
use Rattle.std.proofs.Common.{◌≡◌, ℕ, inl, inr, List, [], ◌∷◌, ◌++◌, refl, sym, ap, ◌∙◌, map, length, ◌+◌}
use Rattle.std.specs.Prelude.{Option, Some, slice_get}
use Rattle.std.specs.Option.{option_map_or}
use Rattle.std.proofs.lemmas.List.{length-map}
use Rattle.std.proofs.lemmas.Option.{slice_get-map, slice_get_within}
use Rattle.kasa_graph.specs.declared.pattern.Node.{Node}
use Rattle.kasa_graph.specs.declared.mixture.Agent.{Agent}
use Rattle.kasa_graph.specs.Signature.{TypeEntry}
use Rattle.kasa_graph.specs.declared.pattern.LinkTest.{LinkTest}
use Rattle.kasa_graph.specs.declared.pattern.LinkTest.TheVariants as test
use Rattle.kasa_graph.specs.Lists.{AllDifferent}
use Rattle.kasa_graph.specs.Pattern.{agent_at, state_test, link_test, types_of, StateImplies, LinkImplies}
use Rattle.kasa_graph.specs.Mixture.{type_in, IsMixtureOver}
use Rattle.kasa_graph.specs.Embedding.{IsEmbedding}
use Rattle.kasa_rules.specs.declared.rule.End.{End}
use Rattle.kasa_rules.specs.declared.rule.End.TheVariants as «end»
use Rattle.kasa_rules.specs.Rule.{RuleParts, IsRuleOver, end_type}
use Rattle.kasa_rules.specs.Firing.{fire, end_cell}
use Rattle.kasa_graph.proofs.ListLemmas.{some_map, some_at}
use Rattle.kasa_pre.specs.Place.{ImpliesAt}
use Rattle.kasa_rules.proofs.FiredLemmas.{agent_of_type, type_within, type_in-fire_old, type_in-fire_new}
use Rattle.kasa_graph.proofs.ShapeLemmas.{site_or_any, node_of_site, agent_at-node}
use Rattle.kasa_pre.proofs.ShapeLemmas.{site_of_node}
use Rattle.kasa_pre.proofs.PlaceLemmas.{same_elements}
use Rattle.kasa_pre.proofs.Cut.{cut, cut_node, cut_agent, no_node}
use Rattle.kasa_pre.proofs.CutLemmas.{StateImplies-cut, ImpliesAt-cut}

-- the type of a node and of its cell
pub typed_node : (g : List Node) (m : List (Option Agent)) (cells : List ℕ) → IsEmbedding g m cells → (n c : ℕ) → slice_get cells n ≡ Some c → (a : ℕ) × (agent_at g n ≡ Some a) × (type_in m c ≡ Some a)
typed_node g m cells at n c e =
    let node = some_at g n (rw (← at.count) (slice_get_within cells n c e)) in
    let typed = agent_at-node g n node.0 node.1 in
    (node.0.agent, typed, at.types n c node.0.agent e typed)

-- through places that stay as they are
LinkImplies-of_place : (g : List Node) (a b : LinkTest) → ImpliesAt g (λ n. Some n) a b → LinkImplies g a b
LinkImplies-of_place g a test.Any p = tt
LinkImplies-of_place g a test.Free p = p
LinkImplies-of_place g a test.Bound p = p
LinkImplies-of_place g a (test.Partner b y) p = p
LinkImplies-of_place g a (test.To n t) p = let same : n ≡ p.0 = cc in rw p.2 (sym same, refl)

pub cut_node_type : (m : List (Option Agent)) (cells : List ℕ) (c b : ℕ) → type_in m c ≡ Some b → (cut_node m cells c).agent ≡ b
cut_node_type m cells c b e =
    let a = agent_of_type m c b e in
    ap (λ (o : Option Agent). (option_map_or (cut_agent m cells) o no_node).agent) a.1 ∙ a.2

pub types_of-cut : (m : List (Option Agent)) (cells first second : List ℕ) → types_of (map (cut_node m cells) (first ++ second)) ≡ map (λ c. (cut_node m cells c).agent) first ++ map (λ c. (cut_node m cells c).agent) second
types_of-cut m cells (c ∷ first) second = ap (λ (ts : List ℕ). (cut_node m cells c).agent ∷ ts) (types_of-cut m cells first second)
types_of-cut m cells [] (c ∷ second) = ap (λ (ts : List ℕ). (cut_node m cells c).agent ∷ ts) (types_of-cut m cells [] second)
types_of-cut m cells [] [] = refl

module _ (r : RuleParts) (cells : List ℕ) (m : List (Option Agent)) (at : IsEmbedding r.left m cells) (all : List ℕ) where
  pub types-left : map (λ c. (cut_node m all c).agent) cells ≡ types_of r.left
  types-left = same_elements _ _ (length-map cells (λ c. (cut_node m all c).agent) ∙ at.count ∙ sym (length-map r.left (λ (x : Node). x.agent))) (λ i x y e f.
      let c = some_map (λ c. (cut_node m all c).agent) (slice_get cells i) x (sym (slice_get-map (λ c. (cut_node m all c).agent) cells i) ∙ e) in
      let node = some_map (λ (x : Node). x.agent) (slice_get r.left i) y (sym (slice_get-map (λ (x : Node). x.agent) r.left i) ∙ f) in
      sym c.2 ∙ cut_node_type m all c.0 node.0.agent (at.types i c.0 node.0.agent c.1 (agent_at-node r.left i node.0 node.1)) ∙ node.2)

module _ (sig : List TypeEntry) (r : RuleParts) (cells : List ℕ) (m : List (Option Agent)) (over : IsMixtureOver sig m) (rule : IsRuleOver sig r) (at : IsEmbedding r.left m cells) (all : List ℕ) (different : AllDifferent all) (alive : (n c : ℕ) → slice_get all n ≡ Some c → (a : ℕ) × (type_in m c ≡ Some a)) (first : (n c : ℕ) → slice_get cells n ≡ Some c → slice_get all n ≡ Some c) where
  pub left_states-cut : (n s : ℕ) → StateImplies (state_test (cut m all) n s) (state_test r.left n s)
  left_states-cut n s =
      elim (site_or_any r.left n s) [
        | inl x ↦
            let node = node_of_site r.left n s x.0 x.1 in
            let c = some_at cells n (rw at.count (slice_get_within r.left n node.0 node.1)) in
            StateImplies-cut sig m over all different alive n c.0 s (state_test r.left n s) (first n c.0 c.1) (at.states n c.0 s c.1)
        | inr none ↦ rw none.0 tt
      ]

  pub left_links-cut : (n s : ℕ) → LinkImplies (cut m all) (link_test (cut m all) n s) (link_test r.left n s)
  left_links-cut n s =
      elim (site_or_any r.left n s) [
        | inl x ↦
            let node = node_of_site r.left n s x.0 x.1 in
            let c = some_at cells n (rw at.count (slice_get_within r.left n node.0 node.1)) in
            let y = site_of_node sig m over r.left rule.left.sites n c.0 s x.0 x.1 (λ a is. at.types n c.0 a c.1 is) in
            LinkImplies-of_place (cut m all) _ _ (ImpliesAt-cut sig m over all different alive cells (λ n. Some n) (λ j d e within. (j, refl, first j d e)) n c.0 s y.0 (link_test r.left n s) (first n c.0 c.1) y.1 (at.links n c.0 s c.1))
        | inr none ↦ rw none.1 tt
      ]

-- after a firing the cell of an end has the type of the end
pub type_of_end : (r : RuleParts) (cells : List ℕ) (m : List (Option Agent)) → IsEmbedding r.left m cells → (e : End) (d b : ℕ) → end_cell cells (length m) e ≡ Some d → type_in (fire r cells m) d ≡ Some b → end_type r e ≡ Some b
type_of_end r cells m at («end».Left n) d b on is =
    let left = typed_node r.left m cells at n d on in
    left.1 ∙ sym left.2 ∙ (type_in-fire_old r cells m d b (type_within m d left.0 left.2) is).0
type_of_end r cells m at («end».Made k) d b on is = let e : length m + k ≡ d = cc in sym (type_in-fire_new r cells m k d e) ∙ is
