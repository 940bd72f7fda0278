-- A list of cells is an embedding of a pattern, or else a test that fails is found.
use Rattle.std.proofs.Common.{◌≡◌, ℕ, zero, suc, ◌<◌, ◌⊎◌, inl, inr, List, ap, ◌∙◌, length, arith}
use Rattle.std.specs.Prelude.{Option, Some, slice_get}
use Rattle.std.proofs.lemmas.Option.{slice_get_within}
use Rattle.kasa_graph.specs.declared.pattern.Node.{Node}
use Rattle.kasa_graph.specs.declared.mixture.Agent.{Agent}
use Rattle.kasa_lists.specs.Lists.{AllDifferent}
use Rattle.kasa_graph.specs.Pattern.{state_test, link_test}
use Rattle.kasa_graph.specs.Mixture.{type_in, state_in, partner_in}
use Rattle.kasa_graph.specs.Embedding.{IsEmbedding, MeetsState, MeetsLink}
use Rattle.kasa_lists.proofs.Elements.{some_at}
use Rattle.kasa_lists.proofs.Numbers.{below_or}
use Rattle.kasa_graph.proofs.ShapeLemmas.{site_or_any, node_of_site, node_of_agent}

-- each number below a bound has a property, or else something is found at one of them
all_below : (P : ℕ → Type 0) (Q : Type 0) (n : ℕ) → ((i : ℕ) → i < n → P i ⊎ Q) → ((i : ℕ) → i < n → P i) ⊎ Q
all_below P Q zero each = inl (λ i h. absurd (omega arith))
all_below P Q (suc n) each =
    elim (all_below P Q n (λ i h. each i (omega arith))) [
      | inr q ↦ inr q
      | inl all ↦ elim (each n (omega arith)) [
        | inr q ↦ inr q
        | inl last ↦ inl (λ i h. elim (below_or i n) [
          | inl below ↦ all i below
          | inr k ↦ let same : n ≡ i = let e = k.1 in omega arith in rw (← same) last
        ])
      ]
    ]

module _ (g : List Node) (m : List (Option Agent)) (cells : List ℕ) (Q : Type 0) where
  abbrev MeetsSite : ℕ → ℕ → ℕ → Type 0
  MeetsSite n c s = MeetsState (state_in m c s) (state_test g n s) × MeetsLink m cells (partner_in m c s) (link_test g n s)

  abbrev MeetsNode : ℕ → ℕ → Node → Type 0
  MeetsNode n c node = (type_in m c ≡ Some node.agent) × ((s : ℕ) → MeetsSite n c s)

  module _ (types : (n c : ℕ) (node : Node) → slice_get cells n ≡ Some c → slice_get g n ≡ Some node → (type_in m c ≡ Some node.agent) ⊎ Q) (states : (n c s : ℕ) (node : Node) → slice_get cells n ≡ Some c → slice_get g n ≡ Some node → MeetsState (state_in m c s) (state_test g n s) ⊎ Q) (links : (n c s : ℕ) (node : Node) → slice_get cells n ≡ Some c → slice_get g n ≡ Some node → MeetsLink m cells (partner_in m c s) (link_test g n s) ⊎ Q) where
    site_or : (n c s : ℕ) (node : Node) → slice_get cells n ≡ Some c → slice_get g n ≡ Some node → MeetsSite n c s ⊎ Q
    site_or n c s node e is =
        elim (states n c s node e is) [
          | inr q ↦ inr q
          | inl first ↦ elim (links n c s node e is) [
            | inr q ↦ inr q
            | inl second ↦ inl (first, second)
          ]
        ]

    beyond : (n c s : ℕ) (node : Node) → slice_get g n ≡ Some node → ((s : ℕ) → s < length node.sites → MeetsSite n c s) → MeetsSite n c s
    beyond n c s node is all =
        elim (site_or_any g n s) [
          | inl x ↦
              let there = node_of_site g n s x.0 x.1 in
              let same : there.0 ≡ node = let a = there.1 in cc in
              all s (rw (← same) (slice_get_within there.0.sites s x.0 there.2))
          | inr none ↦ rw (none.0, none.1) (tt, tt)
        ]

    node_or : (n c : ℕ) (node : Node) → slice_get cells n ≡ Some c → slice_get g n ≡ Some node → MeetsNode n c node ⊎ Q
    node_or n c node e is =
        elim (types n c node e is) [
          | inr q ↦ inr q
          | inl typed ↦ elim (all_below (MeetsSite n c) Q (length node.sites) (λ s h. site_or n c s node e is)) [
            | inr q ↦ inr q
            | inl all ↦ inl (typed, λ s. beyond n c s node is all)
          ]
        ]

    abbrev MeetsAt : ℕ → Type 0
    MeetsAt n = (c : ℕ) (node : Node) → slice_get cells n ≡ Some c → slice_get g n ≡ Some node → MeetsNode n c node

    at_or : length cells ≡ length g → (n : ℕ) → n < length cells → MeetsAt n ⊎ Q
    at_or count n within =
        let c = some_at cells n within in
        let node = some_at g n (rw (← count) within) in
        elim (node_or n c.0 node.0 c.1 node.1) [
          | inr q ↦ inr q
          | inl meets ↦ inl (λ d other e is. all c.0 d node.0 other c.1 e node.1 is meets)
        ]
      where
        all : (c d : ℕ) (node other : Node) → slice_get cells n ≡ Some c → slice_get cells n ≡ Some d → slice_get g n ≡ Some node → slice_get g n ≡ Some other → MeetsNode n c node → MeetsNode n d other
        all c d node other e f h i meets = let same : c ≡ d = cc in let same' : node ≡ other = cc in rw (← same, ← same') meets

    -- an embedding, or what is found
    pub IsEmbedding-or : length cells ≡ length g → AllDifferent cells → IsEmbedding g m cells ⊎ Q
    IsEmbedding-or count different =
        elim (all_below MeetsAt Q (length cells) (at_or count)) [
          | inr q ↦ inr q
          | inl all ↦ inl (record {
            count = count;
            different = different;
            types = λ n c a e is. let node = node_of_agent g n a is in (all n (slice_get_within cells n c e) c node.0 e node.1).0 ∙ ap Some node.2;
            states = λ n c s e. let node = node_at n c e in ((all n (slice_get_within cells n c e) c node.0 e node.1).1 s).0;
            links = λ n c s e. let node = node_at n c e in ((all n (slice_get_within cells n c e) c node.0 e node.1).1 s).1;
          })
        ]
      where
        node_at : (n c : ℕ) → slice_get cells n ≡ Some c → (node : Node) × (slice_get g n ≡ Some node)
        node_at n c e = some_at g n (rw (← count) (slice_get_within cells n c e))
