-- Routes from the first node of a pattern over bonds, and the cells that they lead to.
use Rattle.std.specs.Prelude.{◌≡◌, ℕ, ◌⊎◌, List, [], ◌∷◌, length, Option, Some, slice_get, option_map, option_and_then}
use Rattle.kasa_graph.specs.declared.pattern.Node.{Node}
use Rattle.kasa_graph.specs.declared.pattern.LinkTest.TheVariants.{To}
use Rattle.kasa_graph.specs.declared.mixture.Agent.{Agent}
use Rattle.kasa_graph.specs.Pattern.{link_test}
use Rattle.kasa_graph.specs.Mixture.{partner_in}
use Rattle.kasa_graph.specs.Embedding.{IsEmbedding}
use Rattle.kasa_embed.specs.declared.route.Route.{Route}
use Rattle.kasa_embed.specs.declared.route.Route.TheVariants.{Here, Over, OverTwo}
use Rattle.kasa_embed.specs.Connected.{AreBound}

-- the route leads to node n
abbrev pub IsRoute : List Node → ℕ → Route → Type 0
IsRoute g n Here = n ≡ 0
IsRoute g n (Over s) = (t : ℕ) × (link_test g 0 s ≡ To n t)
IsRoute g n (OverTwo s u) = (k t v : ℕ) × (link_test g 0 s ≡ To k t) × (link_test g k u ≡ To n v)

-- one bond or two lead from the first node to node n
abbrev pub IsNear : List Node → ℕ → Type 0
IsNear g n = AreBound g 0 n ⊎ ((k : ℕ) × AreBound g 0 k × AreBound g k n)

-- a route to each node, in order
pub record AreRoutes (g : List Node) (routes : List Route) : Type 0 where
  pub count : length routes ≡ length g
  pub start : slice_get routes 0 ≡ Some Here
  pub each : (n : ℕ) (r : Route) → slice_get routes n ≡ Some r → IsRoute g n r

-- the cell that a site is bound to
abbrev pub neighbour_of : List (Option Agent) → ℕ → ℕ → Option ℕ
neighbour_of m c s = option_map (λ p. p.0) (partner_in m c s)

-- the cell that a route leads to where the first node lies on cell c, none where it comes to a free site
abbrev pub end_of : List (Option Agent) → ℕ → Route → Option ℕ
end_of m c Here = Some c
end_of m c (Over s) = neighbour_of m c s
end_of m c (OverTwo s u) = option_and_then (λ d. neighbour_of m d u) (neighbour_of m c s)

-- the cells that routes lead to, none where one of them comes to a free site
abbrev pub ends_of : List (Option Agent) → ℕ → List Route → Option (List ℕ)
ends_of m c [] = Some []
ends_of m c (r ∷ routes) = option_and_then (λ d. option_map (λ cells. d ∷ cells) (ends_of m c routes)) (end_of m c r)

-- the one embedding that begins with cell c, none where there is none
pub record IsEmbeddingFrom (g : List Node) (m : List (Option Agent)) (c : ℕ) (found : Option (List ℕ)) : Type 0 where
  pub embedded : (cells : List ℕ) → found ≡ Some cells → IsEmbedding g m cells
  pub begins : (cells : List ℕ) → found ≡ Some cells → slice_get cells 0 ≡ Some c
  pub only : (cells : List ℕ) → IsEmbedding g m cells → slice_get cells 0 ≡ Some c → found ≡ Some cells
