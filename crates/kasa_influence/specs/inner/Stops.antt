-- What a rule stops at a place.
use Rattle.std.specs.Prelude.{◌≡◌, ◌≢◌, ◌⊎◌, ℕ, false, List, [], ◌∷◌, ◌++◌, length, Some, slice_get}
use Rattle.kasa_graph.specs.declared.pattern.Node.{Node}
use Rattle.kasa_graph.specs.declared.pattern.StateTest.TheVariants.{Is}
use Rattle.kasa_graph.specs.declared.pattern.LinkTest.TheVariants.{Any, To}
use Rattle.kasa_graph.specs.Pattern.{agent_at, state_test, link_test, blank_node, StateImplies, LinkImplies, IsPatternOver, Implies}
use Rattle.kasa_graph.specs.Signature.{TypeEntry}
use Rattle.kasa_families.specs.Table.{Table}
use Rattle.kasa_families.specs.declared.shape.NodeSite.{NodeSite}
use Rattle.kasa_rules.specs.declared.rule.Written.{Written}
use Rattle.kasa_rules.specs.Rule.{RuleParts, written_state, written_link, touched}
use Rattle.kasa_pre.specs.Allowed.{IsAllowed}
use Rattle.kasa_influence.specs.Alone.{alone}
use Rattle.kasa_influence.specs.Loss.{AsksPartner, MayMiss, IsBroken, Stops}
use Rattle.kasa_influence.specs.inner.Ask.{Asked, IsOpen}

-- a node of a left pattern, and the same node by itself
pub record Aimed : Type 0 where
  pub left : List Node
  pub node : ℕ
  pub alone : List Node

pub record IsTarget (sig : List TypeEntry) (t : Aimed) : Type 0 where
  pub valid : IsPatternOver sig t.left
  pub there : Node
  pub at_node : slice_get t.left t.node ≡ Some there
  pub by_itself : t.alone ≡ alone t.left there

-- ---- what the rule writes

abbrev pub BreaksStateAt : RuleParts → List Node → ℕ → ℕ → Type 0
BreaksStateAt r v n s = (u w : ℕ) × (state_test v 0 s ≡ Is w) × (written_state r n s ≡ Some u) × (u ≢ w)

abbrev pub BreaksLinkAt : RuleParts → Aimed → ℕ → ℕ → Type 0
BreaksLinkAt r t n s = (w : Written) × (link_test t.alone 0 s ≢ Any) × (written_link r n s ≡ Some w) × MayMiss r t.left t.node t.alone n s w

abbrev pub BreaksAt : RuleParts → Aimed → ℕ → ℕ → Type 0
BreaksAt r t n s = BreaksStateAt r t.alone n s ⊎ BreaksLinkAt r t n s

-- ---- what can stand before

-- the tables allow a pattern that implies g and has the property
abbrev pub AllowsSome : List TypeEntry → List Table → List Node → (List Node → Type 0) → Type 0
AllowsSome sig tables g C = (k : List Node) × IsPatternOver sig k × Implies k g × C k × IsAllowed sig tables k

-- v, one node, can stand at node p: its tests at a site, and at all
abbrev pub SiteStands : List Node → ℕ → ℕ → List Node → Type 0
SiteStands v p s g = StateImplies (state_test g p s) (state_test v 0 s) × LinkImplies g (link_test g p s) (link_test v 0 s)

abbrev pub StandsAt : List Node → ℕ → List Node → Type 0
StandsAt v p g = (s : ℕ) → SiteStands v p s g

-- and its partner at site s is x
abbrev pub HasPartner : List Node → ℕ → ℕ → NodeSite → List Node → Type 0
HasPartner v p s x g = StandsAt v p g × (link_test g p s ≡ To x.node x.site)

module _ (a : Asked) (v g : List Node) where
  -- from a pattern that implies g, the rule takes its partner at site s, or at some site
  abbrev pub TakesFrom : ℕ → ℕ → NodeSite → Type 0
  TakesFrom p s x = IsOpen a.rule x × AllowsSome a.sig a.tables g (HasPartner v p s x)

  abbrev pub TakesAt : ℕ → ℕ → Type 0
  TakesAt p s = AsksPartner (link_test v 0 s) × (touched a.rule p s ≡ false) × ((x : NodeSite) × TakesFrom p s x)

  abbrev pub Takes : ℕ → Type 0
  Takes p = (s : ℕ) × TakesAt p s

-- ---- what it stops

-- r's left nodes, and one of the type of v
abbrev pub and_one : List TypeEntry → List Node → List Node → List Node
and_one sig g (node ∷ v) = g ++ blank_node sig node.agent ∷ []
and_one sig g [] = g

module _ (a : Asked) where
  -- at a left node: what is done there breaks it, or its partner is taken
  abbrev pub BreaksLeft : Aimed → ℕ → Type 0
  BreaksLeft t n = IsBroken a.rule t.left t.node t.alone n × AllowsSome a.sig a.tables a.rule.left (StandsAt t.alone n)

  abbrev pub StopsLeft : Aimed → ℕ → Type 0
  StopsLeft t n = (agent_at a.rule.left n ≡ agent_at t.alone 0) × (BreaksLeft t n ⊎ Takes a t.alone a.rule.left n)

  -- elsewhere: its partner is taken
  abbrev pub StopsOutside : List Node → Type 0
  StopsOutside v = Takes a v (and_one a.sig a.rule.left v) (length a.rule.left)

  -- by some pattern, at some place
  abbrev pub MayStop : Aimed → Type 0
  MayStop t = (g : List Node) × (p : ℕ) × Stops a.rule t.left t.node t.alone a.sig a.tables g p
