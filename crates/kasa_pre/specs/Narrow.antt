-- Narrowing a pattern to the most general one that has a further property.
use Rattle.std.specs.Prelude.{ℕ, Bool, true, false, ⊤, List}
use Rattle.kasa_graph.specs.declared.pattern.Node.{Node}
use Rattle.kasa_graph.specs.declared.pattern.StateTest.TheVariants.{Is}
use Rattle.kasa_graph.specs.declared.pattern.LinkTest.TheVariants.{Partner, To}
use Rattle.kasa_graph.specs.declared.refine.Test.{Test}
use Rattle.kasa_graph.specs.declared.refine.Test.TheVariants.{State, Link}
use Rattle.std.specs.Prelude.{◌≡◌, Some}
use Rattle.kasa_graph.specs.Signature.{TypeEntry, HasSite, HasState}
use Rattle.kasa_graph.specs.Pattern.{agent_at, HasNodeSite, IsPatternOver, Implies}

-- of the patterns over the signature that imply the old one and have the property, the new one is the most general,
-- where narrower patterns keep the property
pub record IsNarrowed (sig : List TypeEntry) (old : List Node) (C : List Node → Type 0) (new : List Node) : Type 0 where
  pub valid : IsPatternOver sig new
  pub implies : Implies new old
  pub meets : C new
  pub kept : (h k : List Node) → IsPatternOver sig h → Implies h old → Implies k h → C h → C k
  pub general : (h : List Node) → IsPatternOver sig h → Implies h old → C h → Implies h new

-- there is none
abbrev pub HasNone : List TypeEntry → List Node → (List Node → Type 0) → Type 0
HasNone sig old C = (h : List Node) → IsPatternOver sig h → Implies h old → ¬ C h

-- an answer, true where there is one
abbrev pub Narrows : List TypeEntry → List Node → (List Node → Type 0) → Bool → List Node → Type 0
Narrows sig old C true new = IsNarrowed sig old C new
Narrows sig old C false new = HasNone sig old C

-- the numbers of a test at a site exist in the signature, and its node in the pattern
abbrev pub IsKnownTest : List TypeEntry → List Node → ℕ → ℕ → Test → Type 0
IsKnownTest sig g n s (State (Is u)) = (a : ℕ) → agent_at g n ≡ Some a → HasState sig a s u
IsKnownTest sig g n s (Link (Partner b y)) = HasSite sig b y
IsKnownTest sig g n s (Link (To m t)) = HasNodeSite g m t
IsKnownTest sig g n s _ = ⊤
