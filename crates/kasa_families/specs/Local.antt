-- Local states: which are valid at a site, what they test, and whether they contradict a pattern.
use Rattle.std.specs.Prelude.{◌≡◌, ℕ, zero, suc, ◌<◌, ⊤, List, Option, Some, None, slice_get}
use Rattle.kasa_graph.specs.declared.pattern.Node.{Node}
use Rattle.kasa_graph.specs.declared.pattern.StateTest.{StateTest}
use Rattle.kasa_graph.specs.declared.pattern.StateTest.TheVariants.{Any, Is}
use Rattle.kasa_graph.specs.declared.pattern.LinkTest.{LinkTest}
use Rattle.kasa_graph.specs.declared.pattern.LinkTest.TheVariants as test
use Rattle.kasa_graph.specs.Signature.{TypeEntry, state_counts, HasSite}
use Rattle.kasa_graph.specs.Pattern.{state_test, link_test, with_state, with_link, StatesAgree, LinksAgree}
use Rattle.kasa_families.specs.declared.row.LocalLink.{LocalLink}
use Rattle.kasa_families.specs.declared.row.LocalLink.TheVariants.{Free, Partner}
use Rattle.kasa_families.specs.declared.row.Local.{Local}

-- a state stands exactly where the site has states, and is one of them
abbrev pub IsLocalState : Option ℕ → Option ℕ → Type 0
IsLocalState (Some zero) state = state ≡ None
IsLocalState (Some (suc k)) state = (u : ℕ) × (state ≡ Some u) × (u < suc k)
IsLocalState None state = ⊥

abbrev pub IsLocalLink : List TypeEntry → LocalLink → Type 0
IsLocalLink sig Free = ⊤
IsLocalLink sig (Partner b y) = HasSite sig b y

-- a local state of a site of a type
pub record IsLocal (sig : List TypeEntry) (a s : ℕ) (l : Local) : Type 0 where
  pub state : IsLocalState (slice_get (state_counts sig a) s) l.state
  pub link : IsLocalLink sig l.link

-- the tests that a local state stands for
abbrev pub local_state_test : Option ℕ → StateTest
local_state_test None = Any
local_state_test (Some u) = Is u

abbrev pub local_link_test : LocalLink → LinkTest
local_link_test Free = test.Free
local_link_test (Partner b y) = test.Partner b y

-- g with a local state at a site
abbrev pub with_local : List Node → ℕ → ℕ → Local → List Node
with_local g n s l = with_link (with_state g n s (local_state_test l.state)) n s (local_link_test l.link)

-- a local state doesn't contradict g at a site
pub record LocalAgrees (g : List Node) (n s : ℕ) (l : Local) : Type 0 where
  pub state : StatesAgree (state_test g n s) (local_state_test l.state)
  pub link : LinksAgree g (link_test g n s) (local_link_test l.link)
