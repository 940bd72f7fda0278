-- Routes in a connected pattern, and where they lead in an embedding.
use Rattle.std.proofs.Common.{◌≡◌, ◌≢◌, ℕ, suc, ◌+◌, ◌<◌, ◌≤◌, ◌⊎◌, inl, inr, List, [], ◌∷◌, ◌++◌, length, refl, sym, ◌∙◌, arith, length-append}
use Rattle.std.specs.Prelude.{Option, Some, None, slice_get, option_map}
use Rattle.kasa_graph.specs.declared.pattern.LinkTest.TheVariants.{To}
use Rattle.kasa_graph.specs.declared.pattern.Node.{Node}
use Rattle.kasa_graph.specs.declared.mixture.Agent.{Agent}
use Rattle.kasa_graph.specs.Pattern.{link_test}
use Rattle.kasa_graph.specs.Mixture.{partner_in}
use Rattle.kasa_graph.specs.Embedding.{IsEmbedding, MeetsLink}
use Rattle.kasa_lists.proofs.Numbers.{same_or_not}
use Rattle.kasa_lists.proofs.Elements.{at_push, slice_get-pushed}
use Rattle.kasa_graph.proofs.PatternLemmas.{node_bound}
use Rattle.kasa_graph.proofs.BondLemmas.{site_of_bond}
use Rattle.kasa_embed.specs.declared.route.Route.{Route}
use Rattle.kasa_embed.specs.declared.route.Route.TheVariants.{Here, Over, OverTwo}
use Rattle.kasa_embed.specs.Connected.{AreBound, IsWalk, IsConnected}
use Rattle.kasa_embed.specs.Route.{IsRoute, IsNear, AreRoutes, end_of, ends_of, neighbour_of, IsEmbeddingFrom}

-- ---- in at most three nodes, one bond or two are enough

-- the node that a bond leaves
pub bound_within : (g : List Node) (n m : ℕ) → AreBound g n m → n < length g
bound_within g n m bound = let site = site_of_bond g n bound.0 m bound.1 bound.2 in node_bound g n bound.0 (rw site.1 refl)

walk_within : (g : List Node) (k n : ℕ) (via : List ℕ) → IsWalk g k via n → n < length g → k < length g
walk_within g k n [] walk within = rw walk within
walk_within g k n (j ∷ via) walk within = bound_within g k j walk.0

module _ (g : List Node) (few : length g ≤ 3) where
  -- one bond more leads to another node, which is the first one, or near
  further : (k n : ℕ) → n < length g → (k ≡ 0) ⊎ IsNear g k → AreBound g k n → (n ≡ 0) ⊎ IsNear g n
  further k n within (inl start) bound = inr (inl (rw start at bound))
  further k n within (inr (inl near)) bound = inr (inr (k, near, bound))
  further k n within (inr (inr over)) bound =
      let j = over.0 in
      let within_j = bound_within g j k over.2 in
      let within_k = bound_within g k n bound in
      elim (same_or_not n 0) [
        | inl e ↦ inl e
        | inr start ↦ elim (same_or_not n j) [
          | inl e ↦ inr (inl (rw e over.1))
          | inr apart ↦ elim (same_or_not n k) [
            | inl e ↦ inr (inr (rw e over))
            | inr away ↦ elim (same_or_not k 0) [
              | inl e ↦ inr (inl (rw e at bound))
              | inr out ↦ elim (same_or_not j 0) [
                | inl e ↦ inr (inr (k, (rw e at over.2), bound))
                | inr off ↦ let same : j ≡ k = omega arith in inr (inr (k, (rw same at over.1), bound))
              ]
            ]
          ]
        ]
      ]

  walk_near : (k n : ℕ) (via : List ℕ) → n < length g → (k ≡ 0) ⊎ IsNear g k → IsWalk g k via n → (n ≡ 0) ⊎ IsNear g n
  walk_near k n [] within near walk = rw (← walk) near
  walk_near k n (j ∷ via) within near walk = walk_near j n via within (further k j (walk_within g j n via walk.1 within) near walk.0) walk.1

  pub near_of_connected : IsConnected g → (n : ℕ) → n < length g → n ≢ 0 → IsNear g n
  near_of_connected connected n within apart =
      let walk = connected n within in
      elim (walk_near 0 n walk.0 within (inl refl) walk.1) [
        | inl e ↦ absurd (apart e)
        | inr near ↦ near
      ]

-- ---- the routes to the first nodes

-- a route to each of the first k nodes
pub record AreRoutesBelow (g : List Node) (k : ℕ) (routes : List Route) : Type 0 where
  pub count : length routes ≡ k
  pub start : slice_get routes 0 ≡ Some Here
  pub each : (n : ℕ) (r : Route) → slice_get routes n ≡ Some r → IsRoute g n r

pub AreRoutesBelow-push : (g : List Node) (k : ℕ) (routes : List Route) (route : Route) → AreRoutesBelow g k routes → IsRoute g k route → AreRoutesBelow g (k + 1) (routes ++ route ∷ [])
AreRoutesBelow-push g k routes route are leads = record {
  count = length-append routes (route ∷ []) ∙ (let e = are.count in omega arith);
  start = slice_get-pushed routes route Here 0 are.start;
  each = λ n r e. elim (at_push routes route r n e) [
    | inl h ↦ are.each n r h
    | inr h ↦ let here : n ≡ k = h.0 ∙ are.count in rw (here, ← h.1) leads
  ];
}

-- ---- where a route leads in an embedding

module _ (g : List Node) (m : List (Option Agent)) (cells : List ℕ) (at : IsEmbedding g m cells) where
  -- the partner at a site with a bond is the cell of the node that the bond leads to
  neighbour-bond : (n s k t c : ℕ) → slice_get cells n ≡ Some c → link_test g n s ≡ To k t → neighbour_of m c s ≡ slice_get cells k
  neighbour-bond n s k t c here is =
      let met : MeetsLink m cells (partner_in m c s) (To k t) = rw is at (at.links n c s here) in
      rw (met.1) (sym met.2)

  bond_cell : (n s k t c : ℕ) → slice_get cells n ≡ Some c → link_test g n s ≡ To k t → (d : ℕ) × (slice_get cells k ≡ Some d)
  bond_cell n s k t c here is =
      let met : MeetsLink m cells (partner_in m c s) (To k t) = rw is at (at.links n c s here) in
      (met.0, met.2)

  pub end_of-route : (c n : ℕ) (r : Route) → slice_get cells 0 ≡ Some c → IsRoute g n r → end_of m c r ≡ slice_get cells n
  end_of-route c n Here first route = rw route (sym first)
  end_of-route c n (Over s) first route = neighbour-bond 0 s n route.0 c first route.1
  end_of-route c n (OverTwo s u) first route =
      let k = route.0 in
      let middle = bond_cell 0 s k route.1 c first route.3 in
      rw (neighbour-bond 0 s k route.1 c first route.3, middle.1) (neighbour-bond k u n route.2 middle.0 middle.1 route.4)

-- the ends of routes that lead to the cells one by one
ends_of-each : (m : List (Option Agent)) (c : ℕ) (routes : List Route) (cells : List ℕ) → length cells ≡ length routes → ((n : ℕ) (r : Route) → slice_get routes n ≡ Some r → end_of m c r ≡ slice_get cells n) → ends_of m c routes ≡ Some cells
ends_of-each m c [] [] e each = refl
ends_of-each m c [] (d ∷ cells) e each = absurd (omega arith)
ends_of-each m c (r ∷ routes) [] e each = absurd (omega arith)
ends_of-each m c (r ∷ routes) (d ∷ cells) e each = rw (each 0 r refl, ends_of-each m c routes cells (omega arith) (λ n q h. each (suc n) q h)) refl

pub ends_of-embedding : (g : List Node) (m : List (Option Agent)) (routes : List Route) (c : ℕ) (cells : List ℕ) → AreRoutes g routes → IsEmbedding g m cells → slice_get cells 0 ≡ Some c → ends_of m c routes ≡ Some cells
ends_of-embedding g m routes c cells are at first = ends_of-each m c routes cells (at.count ∙ sym are.count) (λ n r is. end_of-route g m cells at c n r first (are.each n r is))

-- ---- the ends of routes, one after the other

first_end : (m : List (Option Agent)) (c : ℕ) (routes : List Route) (cells : List ℕ) → slice_get routes 0 ≡ Some Here → ends_of m c routes ≡ Some cells → slice_get cells 0 ≡ Some c
first_end m c [] cells start e = absurd cc
first_end m c (r ∷ routes) cells start e = by (ends_of m c routes) (let same : r ≡ Here = cc in rw same at e)
  where
    by : (o : Option (List ℕ)) → option_map (λ (ds : List ℕ). c ∷ ds) o ≡ Some cells → slice_get cells 0 ≡ Some c
    by None e = absurd cc
    by (Some ds) e = let same : c ∷ ds ≡ cells = cc in rw (← same) refl

pub begins_with_first : (g : List Node) (m : List (Option Agent)) (routes : List Route) (c : ℕ) (cells : List ℕ) → AreRoutes g routes → ends_of m c routes ≡ Some cells → slice_get cells 0 ≡ Some c
begins_with_first g m routes c cells are e = first_end m c routes cells are.start e

-- ---- the embedding that begins with a cell

module _ (g : List Node) (m : List (Option Agent)) (routes : List Route) (c : ℕ) (are : AreRoutes g routes) where
  pub no_ends : ends_of m c routes ≡ None → IsEmbeddingFrom g m c None
  no_ends none = record {
    embedded = λ cells e. absurd cc;
    begins = λ cells e. absurd cc;
    only = λ cells at first. sym none ∙ ends_of-embedding g m routes c cells are at first;
  }

  module _ (ends : List ℕ) (some : ends_of m c routes ≡ Some ends) where
    pub ends_embedded : IsEmbedding g m ends → IsEmbeddingFrom g m c (Some ends)
    ends_embedded at = record {
      embedded = λ cells e. let same : ends ≡ cells = cc in rw (← same) at;
      begins = λ cells e. begins_with_first g m routes c cells are (some ∙ e);
      only = λ cells other first. sym some ∙ ends_of-embedding g m routes c cells are other first;
    }

    pub ends_not_embedded : (IsEmbedding g m ends → ⊥) → IsEmbeddingFrom g m c None
    ends_not_embedded not = record {
      embedded = λ cells e. absurd cc;
      begins = λ cells e. absurd cc;
      only = λ cells at first.
          let found = ends_of-embedding g m routes c cells are at first in
          let same : ends ≡ cells = cc in
          absurd (not (rw same at));
    }
