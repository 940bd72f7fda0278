-- Places of a pattern's nodes among the nodes of another pattern.
use Rattle.std.specs.Prelude.{◌≡◌, ℕ, List, length, Option, Some, slice_get}
use Rattle.kasa_graph.specs.declared.pattern.Node.{Node}
use Rattle.kasa_graph.specs.declared.pattern.LinkTest.{LinkTest}
use Rattle.kasa_graph.specs.declared.pattern.LinkTest.TheVariants.{To}
use Rattle.kasa_graph.specs.Lists.{AllDifferent}
use Rattle.kasa_graph.specs.Pattern.{agent_at, state_test, link_test, StateImplies, LinkImplies}

-- g's test a implies a test of a pattern whose nodes have the given places in g
abbrev pub ImpliesAt : List Node → (ℕ → Option ℕ) → LinkTest → LinkTest → Type 0
ImpliesAt g place a (To n t) = (p : ℕ) × (place n ≡ Some p) × (a ≡ To p t)
ImpliesAt g place a test = LinkImplies g a test

-- different nodes of g, one per node of the root, of the same types, whose tests imply the root's
pub record IsPlace (root g : List Node) (place : List ℕ) : Type 0 where
  pub count : length place ≡ length root
  pub different : AllDifferent place
  pub types : (n p a : ℕ) → slice_get place n ≡ Some p → agent_at root n ≡ Some a → agent_at g p ≡ Some a
  pub states : (n p s : ℕ) → slice_get place n ≡ Some p → StateImplies (state_test g p s) (state_test root n s)
  pub links : (n p s : ℕ) → slice_get place n ≡ Some p → ImpliesAt g (slice_get place) (link_test g p s) (link_test root n s)
