-- What a rule makes at a stand.
use Rattle.std.specs.Prelude.{◌≡◌, ◌≢◌, ℕ, ◌↔◌, ◌⊎◌, ◌<◌, List, [], ◌∷◌, Some, None}
use Rattle.kasa_graph.specs.declared.pattern.Node.{Node}
use Rattle.kasa_graph.specs.declared.pattern.LinkTest.TheVariants.{Any, Free}
use Rattle.kasa_graph.specs.declared.pattern.StateTest.TheVariants.{Is}
use Rattle.kasa_graph.specs.Lists.{Has}
use Rattle.kasa_graph.specs.Pattern.{agent_at, state_test, link_test}
use Rattle.kasa_families.specs.declared.shape.NodeSite.{NodeSite}
use Rattle.kasa_rules.specs.Rule.{RuleParts}
use Rattle.kasa_rules.specs.declared.rule.Written.{Written}
use Rattle.kasa_pre.specs.declared.Stand.{Stand}
use Rattle.kasa_pre.specs.declared.Stand.TheVariants.{Left, Made}
use Rattle.kasa_pre.specs.declared.FreedBy.{FreedBy}
use Rattle.kasa_pre.specs.Before.{FitsStand, state_written, link_written, IsBefore}
use Rattle.kasa_pre.specs.Allowed.{IsAllowed}
use Rattle.kasa_influence.specs.Gain.{Makes}
use Rattle.kasa_influence.specs.inner.Ask.{Asked, IsOpen}

module _ (a : Asked) (v : List Node) where
  -- with some freed tests, and with these
  abbrev pub MakesAt : Stand → Type 0
  MakesAt stand = (freed : List FreedBy) × Makes a.sig a.tables a.rule v stand freed

  -- the tables allow a pattern that can have stood before, where the node follows
  abbrev pub CanFollow : Stand → List FreedBy → Type 0
  CanFollow stand freed = (g : List Node) × IsBefore a.sig a.rule v (stand ∷ []) freed g × IsAllowed a.sig a.tables g

  -- with some stand
  abbrev pub MayMake : Type 0
  MayMake = (stand : Stand) × MakesAt stand

  -- at a left node, as a created agent
  abbrev pub MakesLeft : ℕ → Type 0
  MakesLeft n = MakesAt (Left n)

  abbrev pub MakesCreated : ℕ → Type 0
  MakesCreated k = MakesAt (Made k)

  -- two lists free the same tests of sites below s
  abbrev pub FreeSameBelow : ℕ → List FreedBy → List FreedBy → Type 0
  FreeSameBelow s xs ys = (f : FreedBy) → f.site < s → Has xs f ↔ Has ys f

  -- with tests that the list frees below s, and others from s on
  abbrev pub MakesFrom : Stand → ℕ → List FreedBy → Type 0
  MakesFrom stand s freed = (all : List FreedBy) × FreeSameBelow s freed all × Makes a.sig a.tables a.rule v stand all

-- the node may have the stand
abbrev pub Fits : RuleParts → List Node → Stand → Type 0
Fits r v stand = (a : ℕ) → agent_at v 0 ≡ Some a → FitsStand r stand a

-- it tests a state or a link at the site, where the rule writes one
abbrev pub TestsWrittenAt : RuleParts → List Node → Stand → ℕ → Type 0
TestsWrittenAt r v stand s =
    ((u w : ℕ) × (state_test v 0 s ≡ Is w) × (state_written r stand s ≡ Some u)) ⊎ ((w : Written) × (link_test v 0 s ≢ Any) × (link_written r stand s ≡ Some w))

-- it comes from one of some elements
abbrev pub AreFrom : {X Y : Type 0} → (X → Y → Type 0) → List X → Y → Type 0
AreFrom {X} Q xs y = (x : X) × Has xs x × Q x y

-- a freed test at the site, by the source x
abbrev pub source_of : ℕ → NodeSite → FreedBy
source_of s x = record { node = 0; site = s; from = x.node; «at» = x.site }

-- the source frees the site of a node with the stand, where it is tested and not written
pub record IsSource (r : RuleParts) (v : List Node) (stand : Stand) (s : ℕ) (f : FreedBy) : Type 0 where
  pub first : f.node ≡ 0
  pub at_site : f.site ≡ s
  pub test : link_test v 0 s ≡ Free
  pub unwritten : link_written r stand s ≡ None
  pub opened : IsOpen r (record { node = f.from; site = f.«at» })
