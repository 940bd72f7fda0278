-- Gain: a firing of one rule may make embeddings of another rule's left pattern.
use Rattle.std.specs.Prelude.{◌≡◌, ◌≢◌, ℕ, ◌⊎◌, List, [], ◌∷◌, Some, slice_get}
use Rattle.kasa_graph.specs.declared.pattern.Node.{Node}
use Rattle.kasa_graph.specs.declared.pattern.StateTest.TheVariants.{Is}
use Rattle.kasa_graph.specs.declared.pattern.LinkTest.TheVariants.{Any}
use Rattle.kasa_graph.specs.Signature.{TypeEntry}
use Rattle.kasa_graph.specs.Lists.{Has}
use Rattle.kasa_graph.specs.Pattern.{state_test, link_test}
use Rattle.kasa_rules.specs.declared.rule.Written.{Written}
use Rattle.kasa_rules.specs.Rule.{RuleParts}
use Rattle.kasa_families.specs.Table.{Table}
use Rattle.kasa_pre.specs.declared.Stand.{Stand}
use Rattle.kasa_pre.specs.declared.Stand.TheVariants.{Made}
use Rattle.kasa_pre.specs.declared.FreedBy.{FreedBy}
use Rattle.kasa_pre.specs.Allowed.{IsAllowed}
use Rattle.kasa_pre.specs.Before.{state_written, link_written, AreFreed, IsBefore}
use Rattle.kasa_influence.specs.Alone.{alone}

-- the rule creates a node with the stand
abbrev pub IsCreated : Stand → Type 0
IsCreated stand = (k : ℕ) × (stand ≡ Made k)

-- v, one node with a stand
module _ (r : RuleParts) (v : List Node) (stand : Stand) where
  -- it tests a state that the rule writes
  abbrev pub TestsWrittenState : Type 0
  TestsWrittenState = (s u w : ℕ) × (state_test v 0 s ≡ Is w) × (state_written r stand s ≡ Some u)

  -- it tests a link that the rule writes
  abbrev pub TestsWrittenLink : Type 0
  TestsWrittenLink = (s : ℕ) × (w : Written) × (link_test v 0 s ≢ Any) × (link_written r stand s ≡ Some w)

  -- the rule does something there that the node asks about
  abbrev pub MeetsWritten : Type 0
  MeetsWritten = IsCreated stand ⊎ TestsWrittenState ⊎ TestsWrittenLink

-- v, one node, can stand after r fired, with the stand and where the side effect freed these tests of it: and it meets what r
-- did there, or some test is freed
pub record Makes (sig : List TypeEntry) (tables : List Table) (r : RuleParts) (v : List Node) (stand : Stand) (freed : List FreedBy) : Type 0 where
  pub pattern : List Node
  pub free : AreFreed r v (stand ∷ []) freed
  pub before : IsBefore sig r v (stand ∷ []) freed pattern
  pub allowed : IsAllowed sig tables pattern
  pub gained : MeetsWritten r v stand ⊎ ((f : FreedBy) × Has freed f)

-- r isn't dead, and makes some node of r2's left pattern
pub record Gains (sig : List TypeEntry) (tables : List Table) (r r2 : RuleParts) : Type 0 where
  pub live : IsAllowed sig tables r.left
  pub number : ℕ
  pub node : Node
  pub «at» : slice_get r2.left number ≡ Some node
  pub stand : Stand
  pub freed : List FreedBy
  pub makes : Makes sig tables r (alone r2.left node) stand freed
