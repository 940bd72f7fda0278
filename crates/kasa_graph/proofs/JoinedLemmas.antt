-- Embeddings of joined patterns in two mixtures side by side: they lie in one of the two.
use Rattle.std.proofs.Common.{◌≡◌, ℕ, zero, suc, ◌+◌, ◌-◌, ◌<◌, ◌≤◌, ◌⊎◌, inl, inr, List, refl, sym, ap, ◌∙◌, map, length, arith}
use Rattle.std.specs.Prelude.{Option, Some, None, slice_get, option_map}
use Rattle.std.proofs.lemmas.List.{length-map}
use Rattle.std.proofs.lemmas.Option.{slice_get-map, slice_get_within}
use Rattle.kasa_graph.specs.declared.mixture.Agent.{Agent}
use Rattle.kasa_graph.specs.declared.pattern.Node.{Node}
use Rattle.kasa_graph.specs.declared.pattern.LinkTest.{LinkTest}
use Rattle.kasa_graph.specs.declared.pattern.LinkTest.TheVariants.{Any, Free, Bound, Partner, To}
use Rattle.kasa_graph.specs.Pattern.{link_test}
use Rattle.kasa_graph.specs.Mixture.{partner_in, shift_partner, beside, IsMixture}
use Rattle.kasa_graph.specs.Embedding.{IsEmbedding, MeetsLink}
use Rattle.kasa_lists.proofs.Numbers.{below_or}
use Rattle.kasa_lists.proofs.Options.{some_map}
use Rattle.kasa_lists.proofs.Elements.{some_at}
use Rattle.kasa_graph.proofs.BesideLemmas.{type_in-beside_left, state_in-beside_left, partner_in-beside_left, type_in-beside_right, state_in-beside_right, partner_in-beside_right, partner_of_right, partner_in-within}

-- each node but the first has a bond to an earlier one
abbrev pub IsJoined : List Node → Type 0
IsJoined g = (n : ℕ) → suc n < length g → (j s t : ℕ) × (j ≤ n) × (link_test g (suc n) s ≡ To j t)

module _ (g : List Node) (m k : List (Option Agent)) (cells : List ℕ) (emb : IsEmbedding g (beside m k) cells) where
  -- ---- all cells are the first mixture's

  met_left : (at : Option (ℕ × ℕ)) (t : LinkTest) → ((d v : ℕ) → at ≡ Some (d, v) → d < length m) → MeetsLink (beside m k) cells at t → MeetsLink m cells at t
  met_left at Any within met = tt
  met_left at Free within met = met
  met_left at Bound within met = met
  met_left at (Partner b y) within met = (met.0, met.1, sym (type_in-beside_left m k met.0 (within met.0 y met.1)) ∙ met.2)
  met_left at (To n v) within met = met

  IsEmbedding-left : IsMixture m → ((n c : ℕ) → slice_get cells n ≡ Some c → c < length m) → IsEmbedding g m cells
  IsEmbedding-left mixture within = record {
    count = emb.count;
    different = emb.different;
    types = λ n c a here is. sym (type_in-beside_left m k c (within n c here)) ∙ emb.types n c a here is;
    states = λ n c s here. rw (state_in-beside_left m k c s (within n c here)) at (emb.states n c s here);
    links = λ n c s here. met_left (partner_in m c s) (link_test g n s) (λ d v e. partner_in-within m d v (c, s) (mixture.both_ways c s d v e))
        (rw (partner_in-beside_left m k c s (within n c here)) at (emb.links n c s here));
  }

  -- ---- all cells are the second mixture's

  module _ (beyond : (n c : ℕ) → slice_get cells n ≡ Some c → (j : ℕ) × (length m + j ≡ c)) where
    abbrev lowered : List ℕ
    lowered = map (λ c. c - length m) cells

    cell_of : (n j : ℕ) → slice_get lowered n ≡ Some j → (c : ℕ) × (slice_get cells n ≡ Some c) × (length m + j ≡ c)
    cell_of n j e =
        let c = some_map (λ c. c - length m) (slice_get cells n) j (sym (slice_get-map (λ c. c - length m) cells n) ∙ e) in
        let i = beyond n c.0 c.1 in
        (c.0, c.1, let f = i.1 in let h = c.2 in omega arith)

    lowered_at : (n d j : ℕ) → slice_get cells n ≡ Some d → length m + j ≡ d → slice_get lowered n ≡ Some j
    lowered_at n d j e f =
        let same : d - length m ≡ j = omega arith in
        slice_get-map (λ c. c - length m) cells n ∙ ap (option_map (λ c. c - length m)) e ∙ ap Some same

    met_right : (at : Option (ℕ × ℕ)) (t : LinkTest) → MeetsLink (beside m k) cells (option_map (shift_partner (length m)) at) t → MeetsLink k lowered at t
    met_right at Any met = tt
    met_right None Free met = refl
    met_right (Some p) Free met = absurd cc
    met_right None Bound met = absurd (let e = met.2 in cc)
    met_right (Some p) Bound met = (p.0, p.1, refl)
    met_right None (Partner b y) met = absurd (let e = met.1 in cc)
    met_right (Some p) (Partner b y) met =
        let pair : ◌≡◌ {A = ℕ × ℕ} (length m + p.0, p.1) (met.0, y) = let e = met.1 in cc in
        (p.0, ap (λ (v : ℕ). let o : Option (ℕ × ℕ) = Some (p.0, v) in o) (ap (λ (z : ℕ × ℕ). z.1) pair), sym (type_in-beside_right m k met.0 p.0 (ap (λ (z : ℕ × ℕ). z.0) pair)) ∙ met.2)
    met_right None (To n v) met = absurd (let e = met.1 in cc)
    met_right (Some p) (To n v) met =
        let pair : ◌≡◌ {A = ℕ × ℕ} (length m + p.0, p.1) (met.0, v) = let e = met.1 in cc in
        (p.0, ap (λ (z : ℕ). let o : Option (ℕ × ℕ) = Some (p.0, z) in o) (ap (λ (z : ℕ × ℕ). z.1) pair), lowered_at n met.0 p.0 met.2 (ap (λ (z : ℕ × ℕ). z.0) pair))

    IsEmbedding-right : IsEmbedding g k lowered
    IsEmbedding-right = record {
      count = length-map cells (λ c. c - length m) ∙ emb.count;
      different = λ i j x e f.
          let c = cell_of i x e in
          let d = cell_of j x f in
          emb.different i j d.0 (c.1 ∙ ap Some (sym c.2 ∙ d.2)) d.1;
      types = λ n j a e is. let c = cell_of n j e in sym (type_in-beside_right m k c.0 j c.2) ∙ emb.types n c.0 a c.1 is;
      states = λ n j s e. let c = cell_of n j e in rw (state_in-beside_right m k c.0 j s c.2) at (emb.states n c.0 s c.1);
      links = λ n j s e. let c = cell_of n j e in met_right (partner_in k j s) (link_test g n s) (rw (partner_in-beside_right m k c.0 j s c.2) at (emb.links n c.0 s c.1));
    }

  -- ---- the cells of a joined pattern are on one side

  module _ (mixture : IsMixture m) (joined : IsJoined g) (first : ℕ) (on : slice_get cells 0 ≡ Some first) where
    -- the cell of an earlier node, by a bond
    bond_back : (n c : ℕ) → slice_get cells (suc n) ≡ Some c → (j d s t : ℕ) × (j ≤ n) × (slice_get cells j ≡ Some d) × (partner_in (beside m k) c s ≡ Some (d, t))
    bond_back n c here =
        let bond = joined n (rw (← emb.count) (slice_get_within cells (suc n) c here)) in
        let met = rw bond.4 at (emb.links (suc n) c bond.1 here) in
        (bond.0, met.0, bond.1, bond.2, bond.3, met.2, met.1)

    all_left : first < length m → (most n c : ℕ) → n ≤ most → slice_get cells n ≡ Some c → c < length m
    all_left within most zero c h here = let same : first ≡ c = cc in rw (← same) within
    all_left within zero (suc n) c h here = absurd (omega arith)
    all_left within (suc most) (suc n) c h here =
        let bond = bond_back n c here in
        let earlier = all_left within most bond.0 bond.1 (let near = bond.4 in omega arith) bond.5 in
        elim (below_or c (length m)) [
          | inl ok ↦ ok
          | inr j ↦ let d = partner_of_right m k c j.0 bond.2 bond.1 bond.3 j.1 bond.6 in absurd (let e = d.1 in omega arith)
        ]

    all_right : (j : ℕ) → length m + j ≡ first → (most n c : ℕ) → n ≤ most → slice_get cells n ≡ Some c → (i : ℕ) × (length m + i ≡ c)
    all_right j e most zero c h here = let same : first ≡ c = cc in (j, e ∙ same)
    all_right j e zero (suc n) c h here = absurd (omega arith)
    all_right j e (suc most) (suc n) c h here =
        let bond = bond_back n c here in
        let earlier = all_right j e most bond.0 bond.1 (let near = bond.4 in omega arith) bond.5 in
        elim (below_or c (length m)) [
          | inr i ↦ i
          | inl within ↦
              let back = mixture.both_ways c bond.2 bond.1 bond.3 (sym (partner_in-beside_left m k c bond.2 within) ∙ bond.6) in
              let low = partner_in-within m bond.1 bond.3 (c, bond.2) back in
              absurd (let f = earlier.1 in omega arith)
        ]

  -- a joined pattern that is embedded in both mixtures side by side is embedded in one of them
  pub IsEmbedding-beside : IsMixture m → IsJoined g → IsEmbedding g m cells ⊎ ((others : List ℕ) × IsEmbedding g k others)
  IsEmbedding-beside mixture joined = by_first (slice_get cells 0) refl
    where
      by_first : (o : Option ℕ) → slice_get cells 0 ≡ o → IsEmbedding g m cells ⊎ ((others : List ℕ) × IsEmbedding g k others)
      by_first None none = inl (IsEmbedding-left mixture (λ n c here. absurd (
          let inside = slice_get_within cells n c here in
          let some = some_at cells 0 (omega arith) in
          let there = some.1 in cc)))
      by_first (Some first) on = elim (below_or first (length m)) [
        | inl within ↦ inl (IsEmbedding-left mixture (λ n c here. all_left mixture joined first on within n n c (omega arith) here))
        | inr j ↦ inr (_, IsEmbedding-right (λ n c here. all_right mixture joined first on j.0 j.1 n n c (omega arith) here))
      ]
