-- The tests of equality on signatures, patterns and mixtures answer whether the two are equal.
use Rattle.std.specs.Prelude.{◌≡◌, ℕ, List, Option, Some, None, refl, Bool, true, nat_eq, ◌==◌, ◌&&◌}
use Rattle.std.specs.Bool.{Decides}
use Rattle.std.specs.Cmp.Lexicographic.{pointwise, pointwise_decides, bytes_decides}
use Rattle.std.specs.Option.{option_eq}
use Rattle.std.proofs.Common.{ap, subst}
use Rattle.std.proofs.lemmas.Bool.Decides.{Decides-eqb, Decides-and}
use Rattle.kasa_graph.specs.declared.pattern.StateTest.{StateTest}
use Rattle.kasa_graph.specs.declared.pattern.StateTest.TheVariants.{Any, Is}
use Rattle.kasa_graph.specs.declared.pattern.LinkTest.{LinkTest}
use Rattle.kasa_graph.specs.declared.pattern.LinkTest.TheVariants.{Any, Free, Bound, Partner, To}
use Rattle.kasa_graph.specs.declared.pattern.SiteTests.{SiteTests}
use Rattle.kasa_graph.specs.declared.pattern.Node.{Node}
use Rattle.kasa_graph.specs.declared.mixture.AgentSite.{AgentSite}
use Rattle.kasa_graph.specs.declared.mixture.Agent.{Agent}
use Rattle.kasa_graph.specs.Signature.{SiteEntry, TypeEntry}
use Rattle.kasa_graph.specs.SameNames.{same_site, same_type}
use Rattle.kasa_graph.specs.contracts.pattern.StateTestPartialEq.TheImpl as state_test
use Rattle.kasa_graph.specs.contracts.pattern.LinkTestPartialEq.TheImpl as link_test
use Rattle.kasa_graph.specs.contracts.pattern.SiteTestsPartialEq.TheImpl as site_tests
use Rattle.kasa_graph.specs.contracts.pattern.NodePartialEq.TheImpl as node
use Rattle.kasa_graph.specs.contracts.mixture.AgentSitePartialEq.TheImpl as agent_site
use Rattle.kasa_graph.specs.contracts.mixture.AgentPartialEq.TheImpl as agent
use Rattle.kasa_graph.specs.contracts.pattern.LinkTestEq.TheImpl.Laws.{laws-law as link_test_laws}

-- a test of one fact decides another that is equivalent to it
pub told : {P Q : Type 0} (b : Bool) → Decides b P → (P → Q) → (Q → P) → Decides b Q
told b h to from = (λ e. to (h.0 e), λ q. h.1 (from q))

pub same_option : {X : Type 0} (E : X → X → Bool) → ((x y : X) → Decides (E x y) (x ≡ y)) → (p q : Option X) → Decides (option_eq E p q) (p ≡ q)
same_option E h None None = (λ e. refl, λ e. refl)
same_option E h None (Some y) = (λ e. absurd cc, λ e. absurd cc)
same_option E h (Some x) None = (λ e. absurd cc, λ e. absurd cc)
same_option E h (Some x) (Some y) = told (E x y) (h x y) (λ e. ap Some e) (λ e. cc)

-- ---- signatures

same_names : (names others : List (List ℕ)) → Decides (pointwise (pointwise nat_eq) names others) (names ≡ others)
same_names = pointwise_decides bytes_decides

same_site_decides : (x y : SiteEntry) → Decides (same_site x y) (x ≡ y)
same_site_decides x y =
    told (same_site x y) (Decides-and _ _ (bytes_decides x.name y.name) (same_names x.states y.states))
    (λ e. λ i. record { name = e.0 i; states = e.1 i }) (λ e. (ap (λ (x : SiteEntry). x.name) e, ap (λ (x : SiteEntry). x.states) e))

same_type_decides : (x y : TypeEntry) → Decides (same_type x y) (x ≡ y)
same_type_decides x y =
    told (same_type x y) (Decides-and _ _ (bytes_decides x.name y.name) (pointwise_decides same_site_decides x.sites y.sites))
    (λ e. λ i. record { name = e.0 i; sites = e.1 i }) (λ e. (ap (λ (x : TypeEntry). x.name) e, ap (λ (x : TypeEntry). x.sites) e))

pub same_signature : (sig other : List TypeEntry) → Decides (pointwise same_type sig other) (sig ≡ other)
same_signature = pointwise_decides same_type_decides

-- ---- patterns

same_state_test : (a b : StateTest) → Decides ((state_test.ghosts).eq a b) (a ≡ b)
same_state_test Any Any = (λ e. refl, λ e. refl)
same_state_test Any (Is w) = (λ e. absurd cc, λ e. absurd cc)
same_state_test (Is u) Any = (λ e. absurd cc, λ e. absurd cc)
same_state_test (Is u) (Is w) = told (u == w) (Decides-eqb u w) (λ e. ap Is e) (λ e. cc)

two : (a x b y : ℕ) → Decides ((a == b) && (x == y)) ((a ≡ b) × (x ≡ y))
two a x b y = Decides-and (a == b) (x == y) (Decides-eqb a b) (Decides-eqb x y)

link_is : (a b : LinkTest) → (link_test.ghosts).eq a b ≡ true → a ≡ b
link_is Any Any e = refl
link_is Free Free e = refl
link_is Bound Bound e = refl
link_is (Partner a x) (Partner b y) e = let s = (two a x b y).0 e in λ i. Partner (s.0 i) (s.1 i)
link_is (To a x) (To b y) e = let s = (two a x b y).0 e in λ i. To (s.0 i) (s.1 i)
link_is _ _ e = absurd cc

same_link_test : (a b : LinkTest) → Decides ((link_test.ghosts).eq a b) (a ≡ b)
same_link_test a b = (link_is a b, λ e. subst (λ c. (link_test.ghosts).eq a c ≡ true) e (link_test_laws.refl a))

same_site_tests : (a b : SiteTests) → Decides ((site_tests.ghosts).eq a b) (a ≡ b)
same_site_tests a b =
    told ((site_tests.ghosts).eq a b) (Decides-and _ _ (Decides-eqb a.states b.states) (Decides-and _ _ (same_state_test a.state b.state) (same_link_test a.link b.link)))
    (λ e. λ i. record { states = e.0 i; state = e.1.0 i; link = e.1.1 i })
    (λ e. (ap (λ (x : SiteTests). x.states) e, (ap (λ (x : SiteTests). x.state) e, ap (λ (x : SiteTests). x.link) e)))

same_node : (a b : Node) → Decides ((node.ghosts).eq a b) (a ≡ b)
same_node a b =
    told ((node.ghosts).eq a b) (Decides-and _ _ (Decides-eqb a.agent b.agent) (pointwise_decides same_site_tests a.sites b.sites))
    (λ e. λ i. record { agent = e.0 i; sites = e.1 i }) (λ e. (ap (λ (x : Node). x.agent) e, ap (λ (x : Node). x.sites) e))

pub same_pattern : (g other : List Node) → Decides (pointwise (node.ghosts).eq g other) (g ≡ other)
same_pattern = pointwise_decides same_node

-- ---- mixtures

same_partner : (p q : ℕ × ℕ) → Decides ((p.0 == q.0) && (p.1 == q.1)) (p ≡ q)
same_partner p q = told _ (two p.0 p.1 q.0 q.1) (λ e. λ i. (e.0 i, e.1 i)) (λ e. (ap (λ (p : ℕ × ℕ). p.0) e, ap (λ (p : ℕ × ℕ). p.1) e))

same_agent_site : (x y : AgentSite) → Decides ((agent_site.ghosts).eq x y) (x ≡ y)
same_agent_site x y =
    told ((agent_site.ghosts).eq x y) (Decides-and _ _ (Decides-eqb x.states y.states) (Decides-and _ _ (same_option nat_eq Decides-eqb x.state y.state) (same_option _ same_partner x.partner y.partner)))
    (λ e. λ i. record { states = e.0 i; state = e.1.0 i; partner = e.1.1 i })
    (λ e. (ap (λ (x : AgentSite). x.states) e, (ap (λ (x : AgentSite). x.state) e, ap (λ (x : AgentSite). x.partner) e)))

same_agent : (a b : Agent) → Decides ((agent.ghosts).eq a b) (a ≡ b)
same_agent a b =
    told ((agent.ghosts).eq a b) (Decides-and _ _ (Decides-eqb a.agent b.agent) (pointwise_decides same_agent_site a.sites b.sites))
    (λ e. λ i. record { agent = e.0 i; sites = e.1 i }) (λ e. (ap (λ (x : Agent). x.agent) e, ap (λ (x : Agent). x.sites) e))

pub same_mixture : (m other : List (Option Agent)) → Decides (pointwise (option_eq (agent.ghosts).eq) m other) (m ≡ other)
same_mixture = pointwise_decides (same_option (agent.ghosts).eq same_agent)
