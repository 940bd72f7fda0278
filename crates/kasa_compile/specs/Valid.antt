-- What the passes over a declared complex or a rule show before it is compiled: numbers exist, and labels join.
use Rattle.std.specs.Prelude.{◌≡◌, ◌↔◌, ℕ, ◌<◌, List, length, map, Some, slice_get}
use Rattle.kasa_graph.specs.Signature.{TypeEntry, HasSite, HasState}
use Rattle.kasa_graph.specs.Lists.{AllDifferent}
use Rattle.kasa_graph.specs.declared.pattern.StateTest.TheVariants.{Is}
use Rattle.kasa_rules.specs.declared.rule.End.TheVariants.{Left, Made}
use Rattle.kasa_compile.specs.declared.said.LinkSaid.TheVariants.{Partner, Label}
use Rattle.kasa_compile.specs.declared.said.SiteSaid.{SiteSaid}
use Rattle.kasa_compile.specs.declared.said.AgentSaid.{AgentSaid}
use Rattle.kasa_compile.specs.Sides.{SidesParts}
use Rattle.kasa_compile.specs.Bonds.{places_of}

-- the numbers of a site of a type exist in the signature
pub record IsSiteSaid (sig : List TypeEntry) (a : ℕ) (s : SiteSaid) : Type 0 where
  pub known : HasSite sig a s.site
  pub state : (u : ℕ) → s.state ≡ Some (Is u) → HasState sig a s.site u
  pub link : (b y : ℕ) → s.link ≡ Some (Partner b y) → HasSite sig b y

-- so do those of an agent, whose sites stand once each
pub record IsSaid (sig : List TypeEntry) (a : AgentSaid) : Type 0 where
  pub known : a.agent < length sig
  pub sites : (i : ℕ) (s : SiteSaid) → slice_get a.sites i ≡ Some s → IsSiteSaid sig a.agent s
  pub differ : AllDifferent (map (λ (s : SiteSaid). s.site) a.sites)

abbrev pub AreSaid : List TypeEntry → List AgentSaid → Type 0
AreSaid sig agents = (k : ℕ) (a : AgentSaid) → slice_get agents k ≡ Some a → IsSaid sig a

-- each label stands at exactly two places
abbrev pub AreJoined : List AgentSaid → Type 0
AreJoined agents = (k i number : ℕ) (a : AgentSaid) (s : SiteSaid) → slice_get agents k ≡ Some a → slice_get a.sites i ≡ Some s → s.link ≡ Some (Label number) → length (places_of number agents) ≡ 2

-- the agents of two sides are numbered together
pub record AreNumbered (x : SidesParts) : Type 0 where
  pub after_count : length x.after ≡ length x.left
  pub ends_count : length x.ends ≡ length x.right
  pub stays : (n k : ℕ) → (slice_get x.after n ≡ Some (Some k)) ↔ (slice_get x.ends k ≡ Some (Left n))
  pub is_made : (j k : ℕ) → (slice_get x.made j ≡ Some k) ↔ (slice_get x.ends k ≡ Some (Made j))

-- two sides whose numbers exist, whose labels join, and whose agents that belong together have one type
pub record AreSides (sig : List TypeEntry) (x : SidesParts) : Type 0 where
  pub numbered : AreNumbered x
  pub left : AreSaid sig x.left
  pub right : AreSaid sig x.right
  pub left_joined : AreJoined x.left
  pub right_joined : AreJoined x.right
  pub same_types : (n k : ℕ) (a b : AgentSaid) → slice_get x.after n ≡ Some (Some k) → slice_get x.left n ≡ Some a → slice_get x.right k ≡ Some b → a.agent ≡ b.agent
