-- Loss: a firing of one rule may stop embeddings of another rule's left pattern.
use Rattle.std.specs.Prelude.{◌≡◌, ◌≢◌, ℕ, ⊤, ◌⊎◌, true, false, List, [], ◌∷◌, ◌++◌, length, Some, slice_get}
use Rattle.kasa_graph.specs.declared.pattern.Node.{Node}
use Rattle.kasa_graph.specs.declared.pattern.StateTest.TheVariants.{Is}
use Rattle.kasa_graph.specs.declared.pattern.LinkTest.{LinkTest}
use Rattle.kasa_graph.specs.declared.pattern.LinkTest.TheVariants.{Any, Bound, Partner, To}
use Rattle.kasa_graph.specs.Signature.{TypeEntry}
use Rattle.kasa_graph.specs.Pattern.{agent_at, state_test, link_test, types_of, StateImplies, LinkImplies, IsPatternOver}
use Rattle.kasa_rules.specs.declared.rule.Fate.TheVariants.{Deleted}
use Rattle.kasa_rules.specs.declared.rule.Written.{Written}
use Rattle.kasa_rules.specs.Rule.{RuleParts, fate_at, written_state, written_link, touched}
use Rattle.kasa_families.specs.Table.{Table}
use Rattle.kasa_pre.specs.declared.Stand.TheVariants.{Left}
use Rattle.kasa_pre.specs.Allowed.{IsAllowed}
use Rattle.kasa_pre.specs.Before.{WrittenMeets}
use Rattle.kasa_influence.specs.Alone.{alone}

-- the test asks for a partner
abbrev pub AsksPartner : LinkTest → Type 0
AsksPartner Bound = ⊤
AsksPartner (Partner b y) = ⊤
AsksPartner (To m t) = ⊤
AsksPartner _ = ⊥

-- v is the node b of another left pattern h, by itself
module _ (r : RuleParts) (h : List Node) (b : ℕ) (v : List Node) where
  -- it tests a state, and the rule writes another at its left node n
  abbrev pub BreaksState : ℕ → Type 0
  BreaksState n = (s u w : ℕ) × (state_test v 0 s ≡ Is w) × (written_state r n s ≡ Some u) × (u ≢ w)

  -- what is written doesn't meet its test; a bond to a node is never known to be met
  abbrev pub MayMiss : ℕ → ℕ → Written → Type 0
  MayMiss n s w = ((m t : ℕ) × (link_test h b s ≡ To m t)) ⊎ (¬ WrittenMeets r (Left n ∷ []) w (link_test v 0 s))

  -- it tests a link that the rule writes at n
  abbrev pub BreaksLink : ℕ → Type 0
  BreaksLink n = (s : ℕ) × (w : Written) × (link_test v 0 s ≢ Any) × (written_link r n s ≡ Some w) × MayMiss n s w

  -- what the rule does at n breaks the node or a test of it
  abbrev pub IsBroken : ℕ → Type 0
  IsBroken n = (fate_at r n ≡ Some Deleted) ⊎ BreaksState n ⊎ BreaksLink n

  -- it asks for a partner, which at g's node p is a site that the rule touches, while it leaves the node's own site
  abbrev pub LosesPartner : List Node → ℕ → Type 0
  LosesPartner g p = (s m t : ℕ) × AsksPartner (link_test v 0 s) × (link_test g p s ≡ To m t) × (touched r m t ≡ true) × (touched r p s ≡ false)

  -- the node can stand at g's node p before r fires, and r may break it or take its partner: g has r's left nodes, and one
  -- more where the node lies on none of them
  pub record Stops (sig : List TypeEntry) (tables : List Table) (g : List Node) (p : ℕ) : Type 0 where
    pub valid : IsPatternOver sig g
    pub allowed : IsAllowed sig tables g
    pub nodes : (types_of g ≡ types_of r.left) ⊎ ((p ≡ length r.left) × (types_of g ≡ types_of r.left ++ types_of v))
    pub left_states : (n s : ℕ) → StateImplies (state_test g n s) (state_test r.left n s)
    pub left_links : (n s : ℕ) → LinkImplies g (link_test g n s) (link_test r.left n s)
    pub of_type : agent_at g p ≡ agent_at v 0
    pub states : (s : ℕ) → StateImplies (state_test g p s) (state_test v 0 s)
    pub links : (s : ℕ) → LinkImplies g (link_test g p s) (link_test v 0 s)
    pub lost : IsBroken p ⊎ LosesPartner g p

-- r isn't dead, and stops some node of r2's left pattern
pub record Loses (sig : List TypeEntry) (tables : List Table) (r r2 : RuleParts) : Type 0 where
  pub live : IsAllowed sig tables r.left
  pub number : ℕ
  pub node : Node
  pub «at» : slice_get r2.left number ≡ Some node
  pub pattern : List Node
  pub place : ℕ
  pub stops : Stops r r2.left number (alone r2.left node) sig tables pattern place
