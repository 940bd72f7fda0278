-- Embeddings of nodes without tests, and of a pattern after a change at one site.
use Rattle.std.proofs.Common.{◌≡◌, ℕ, inl, inr, List, sym, ap, ◌∙◌, map, length}
use Rattle.std.specs.Prelude.{Option, Some, slice_get}
use Rattle.kasa_graph.specs.declared.pattern.StateTest.{StateTest}
use Rattle.kasa_graph.specs.declared.pattern.LinkTest.{LinkTest}
use Rattle.kasa_graph.specs.declared.pattern.LinkTest.TheVariants.{To}
use Rattle.kasa_graph.specs.declared.pattern.Node.{Node}
use Rattle.kasa_graph.specs.declared.mixture.Agent.{Agent}
use Rattle.kasa_graph.specs.Signature.{TypeEntry}
use Rattle.kasa_lists.specs.Lists.{AllDifferent}
use Rattle.kasa_graph.specs.Pattern.{blank_node, link_test, state_test, types_of, with_link, with_state, with_bond, HasNodeSite}
use Rattle.kasa_graph.specs.Mixture.{type_in, state_in, partner_in}
use Rattle.kasa_graph.specs.Embedding.{IsEmbedding, MeetsState, MeetsLink}
use Rattle.kasa_lists.proofs.Numbers.{same_both_or_not}
use Rattle.kasa_graph.proofs.PatternLemmas.{link_test-with_link_same, link_test-with_link_other, link_test-with_state, HasNodeSite-with_link}
use Rattle.kasa_graph.proofs.TestLemmas.{agent_at-types, agent_at-same, length-types, types_of-with_state, types_of-with_link, types_of-blank, state_test-with_link, state_test-with_state_same, state_test-with_state_other, state_test-blank, link_test-blank}

-- nodes without tests lie wherever their types do
pub IsEmbedding-blank : (sig : List TypeEntry) (types : List ℕ) (m : List (Option Agent)) (cells : List ℕ) → length cells ≡ length types → AllDifferent cells → ((n c a : ℕ) → slice_get cells n ≡ Some c → slice_get types n ≡ Some a → type_in m c ≡ Some a) → IsEmbedding (map (blank_node sig) types) m cells
IsEmbedding-blank sig types m cells count different typed = record {
  count = count ∙ sym (length-types (map (blank_node sig) types) ∙ ap length (types_of-blank sig types));
  different = different;
  types = λ n c a here is. typed n c a here (sym (agent_at-types (map (blank_node sig) types) n ∙ ap (λ (ts : List ℕ). slice_get ts n) (types_of-blank sig types)) ∙ is);
  states = λ n c s here. rw (state_test-blank sig types n s) tt;
  links = λ n c s here. rw (link_test-blank sig types n s) tt;
}

module _ (g : List Node) (m : List (Option Agent)) (cells : List ℕ) (at : IsEmbedding g m cells) where
  -- another pattern of the same types, whose tests are met
  pub IsEmbedding-same_types : (h : List Node) → types_of h ≡ types_of g → ((n c s : ℕ) → slice_get cells n ≡ Some c → MeetsState (state_in m c s) (state_test h n s)) → ((n c s : ℕ) → slice_get cells n ≡ Some c → MeetsLink m cells (partner_in m c s) (link_test h n s)) → IsEmbedding h m cells
  IsEmbedding-same_types h same states links = record {
    count = at.count ∙ length-types g ∙ sym (length-types h ∙ ap length same);
    different = at.different;
    types = λ n c a here is. at.types n c a here (sym (agent_at-same g h same n) ∙ is);
    states = states;
    links = links;
  }

  -- a changed test that is met
  pub IsEmbedding-with_state : (n s : ℕ) (t : StateTest) → HasNodeSite g n s → ((c : ℕ) → slice_get cells n ≡ Some c → MeetsState (state_in m c s) t) → IsEmbedding (with_state g n s t) m cells
  IsEmbedding-with_state n s t has met = IsEmbedding-same_types (with_state g n s t) (types_of-with_state g n s t)
      (λ k c u here. elim (same_both_or_not n s k u) [
        | inl e ↦ rw (← e.0, ← e.1) (rw (state_test-with_state_same g n s t has) (met c (rw e.0 here)))
        | inr ne ↦ rw (state_test-with_state_other g n s k u t ne) (at.states k c u here)
      ])
      (λ k c u here. rw (link_test-with_state g n s t k u) (at.links k c u here))

  pub IsEmbedding-with_link : (n s : ℕ) (t : LinkTest) → HasNodeSite g n s → ((c : ℕ) → slice_get cells n ≡ Some c → MeetsLink m cells (partner_in m c s) t) → IsEmbedding (with_link g n s t) m cells
  IsEmbedding-with_link n s t has met = IsEmbedding-same_types (with_link g n s t) (types_of-with_link g n s t)
      (λ k c u here. rw (state_test-with_link g n s t k u) (at.states k c u here))
      (λ k c u here. elim (same_both_or_not n s k u) [
        | inl e ↦ rw (← e.0, ← e.1) (rw (link_test-with_link_same g n s t has) (met c (rw e.0 here)))
        | inr ne ↦ rw (link_test-with_link_other g n s k u t ne) (at.links k c u here)
      ])

-- a new bond between cells that are bound
pub IsEmbedding-with_bond : (g : List Node) (m : List (Option Agent)) (cells : List ℕ) (n s j t c d : ℕ) → HasNodeSite g n s → HasNodeSite g j t → slice_get cells n ≡ Some c → slice_get cells j ≡ Some d → partner_in m c s ≡ Some (d, t) → partner_in m d t ≡ Some (c, s) → IsEmbedding g m cells → IsEmbedding (with_bond g n s j t) m cells
IsEmbedding-with_bond g m cells n s j t c d first second on_c on_d there back at =
    IsEmbedding-with_link (with_link g n s (To j t)) m cells
    (IsEmbedding-with_link g m cells at n s (To j t) first (λ c' here. let same : c' ≡ c = cc in (d, rw same there, on_d)))
    j t (To n s) (HasNodeSite-with_link g n s j t (To j t) second) (λ d' here. let same : d' ≡ d = cc in (c, rw same back, on_c))
