-- Walks put together.
use Rattle.std.proofs.Common.{◌<◌, ℕ, List, [], ◌∷◌, ◌++◌}
use Rattle.kasa_digraph.specs.Graph.{IsEdge, IsGraph, IsWalk, Leads}

pub edge_leads : (next : ℕ → List ℕ) (p q : ℕ) → IsEdge next p q → Leads next p q
edge_leads next p q e = ([], e)

pub walk_append : (next : ℕ → List ℕ) (p : ℕ) (xs : List ℕ) (q : ℕ) (ys : List ℕ) (r : ℕ) →
    IsWalk next (p ∷ xs) q → IsWalk next (q ∷ ys) r → IsWalk next (p ∷ (xs ++ q ∷ ys)) r
walk_append next p [] q ys r a b = (a, b)
walk_append next p (x ∷ xs) q ys r a b = (a.0, walk_append next x xs q ys r a.1 b)

pub leads_on : (next : ℕ → List ℕ) (p q r : ℕ) → Leads next p q → Leads next q r → Leads next p r
leads_on next p q r a b = (a.0 ++ q ∷ b.0, walk_append next p a.0 q b.0 r a.1 b.1)

pub walk_within : (next : ℕ → List ℕ) (n p : ℕ) (points : List ℕ) (q : ℕ) → IsGraph next n → IsWalk next (p ∷ points) q → q < n
walk_within next n p [] q graph walk = graph p q walk
walk_within next n p (r ∷ points) q graph walk = walk_within next n r points q graph walk.1

pub first_edge : (next : ℕ → List ℕ) (p : ℕ) (points : List ℕ) (q : ℕ) → IsWalk next (p ∷ points) q → (r : ℕ) × IsEdge next p r
first_edge next p [] q walk = (q, walk)
first_edge next p (r ∷ points) q walk = (r, walk.0)
