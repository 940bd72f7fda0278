-- The most general pattern that has a further test.
use Rattle.std.specs.Prelude.{◌≡◌, ℕ, ⊤, List, map}
use Rattle.kasa_graph.specs.declared.pattern.LinkTest.TheVariants.{To}
use Rattle.kasa_graph.specs.declared.pattern.SiteTests.{SiteTests}
use Rattle.kasa_graph.specs.declared.pattern.Node.{Node}
use Rattle.kasa_graph.specs.declared.refine.Test.{Test}
use Rattle.kasa_graph.specs.declared.refine.Test.TheVariants.{State, Link}
use Rattle.kasa_graph.specs.Pattern.{state_test, link_test, blank_site, with_state, with_link, with_bond, HasNodeSite, IsPattern, StateImplies, LinkImplies, Implies}

-- the test at a site implies a test
abbrev pub HasTest : List Node → ℕ → ℕ → Test → Type 0
HasTest g n s (State t) = StateImplies (state_test g n s) t
HasTest g n s (Link t) = LinkImplies g (link_test g n s) t

-- the site that a test names exists
abbrev pub TestExists : List Node → Test → Type 0
TestExists g (Link (To m t)) = HasNodeSite g m t
TestExists g _ = ⊤

-- the same sites and nodes without tests
abbrev pub untested_site : SiteTests → SiteTests
untested_site x = blank_site x.states

abbrev pub untested_node : Node → Node
untested_node node = record node { sites = map untested_site node.sites }

abbrev pub untested : List Node → List Node
untested g = map untested_node g

-- h implies g, and has the test at a site
pub record IsRefined (g : List Node) (n s : ℕ) (test : Test) (h : List Node) : Type 0 where
  pub linked : IsPattern h
  pub implies : Implies h g
  pub tested : HasTest h n s test

-- h is the most general of these, with g's nodes and sites
pub record IsMeet (g : List Node) (n s : ℕ) (test : Test) (h : List Node) : Type 0 where
  pub nodes : untested h ≡ untested g
  pub refined : IsRefined g n s test h
  pub general : (k : List Node) → IsRefined g n s test k → Implies k h

-- there is none
abbrev pub HasNoMeet : List Node → ℕ → ℕ → Test → Type 0
HasNoMeet g n s test = (k : List Node) → IsRefined g n s test k → ⊥

-- g with a test written at a site, for a bond at both ends
abbrev pub with_test : List Node → ℕ → ℕ → Test → List Node
with_test g n s (State t) = with_state g n s t
with_test g n s (Link (To m t)) = with_bond g n s m t
with_test g n s (Link t) = with_link g n s t
