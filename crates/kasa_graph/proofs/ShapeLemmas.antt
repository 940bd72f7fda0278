-- The nodes of a pattern have the sites and states of their types, and what is known of a node whose type or site is read.
use Rattle.std.proofs.Common.{◌≡◌, ℕ, zero, suc, ◌⊎◌, inl, inr, List, [], ◌∷◌, map, refl, ap, ◌∙◌}
use Rattle.std.specs.Prelude.{Option, Some, None, slice_get}
use Rattle.std.specs.Option.{option_map_or}
use Rattle.kasa_graph.specs.declared.pattern.StateTest.{StateTest}
use Rattle.kasa_graph.specs.declared.pattern.StateTest.TheVariants as state
use Rattle.kasa_graph.specs.declared.pattern.LinkTest.{LinkTest}
use Rattle.kasa_graph.specs.declared.pattern.LinkTest.TheVariants as link
use Rattle.kasa_graph.specs.declared.pattern.LinkTest.TheVariants.{To}
use Rattle.kasa_graph.specs.declared.pattern.SiteTests.{SiteTests}
use Rattle.kasa_graph.specs.declared.pattern.Node.{Node}
use Rattle.kasa_lists.specs.Lists.{update}
use Rattle.kasa_graph.specs.Signature.{TypeEntry, state_counts}
use Rattle.kasa_graph.specs.Pattern.{agent_at, site_at, state_test, link_test, blank_site, blank_node, with_state, with_link, with_bond}
use Rattle.kasa_lists.proofs.Options.{some_map, some_then}

-- the nodes of a pattern have just the sites of their types
abbrev pub IsShaped : List TypeEntry → List Node → Type 0
IsShaped sig g = (n : ℕ) (node : Node) → slice_get g n ≡ Some node → map (λ (x : SiteTests). x.states) node.sites ≡ state_counts sig node.agent

abbrev HasShape : List TypeEntry → Node → Type 0
HasShape sig node = map (λ (x : SiteTests). x.states) node.sites ≡ state_counts sig node.agent

IsShaped-update : (sig : List TypeEntry) (g : List Node) (n : ℕ) (f : Node → Node) → ((node : Node) → HasShape sig node → HasShape sig (f node)) → IsShaped sig g → IsShaped sig (update g n f)
IsShaped-update sig [] n f keeps ok k node e = absurd cc
IsShaped-update sig (x ∷ g) zero f keeps ok zero node e = let same : f x ≡ node = cc in rw (← same) (keeps x (ok zero x refl))
IsShaped-update sig (x ∷ g) zero f keeps ok (suc k) node e = ok (suc k) node e
IsShaped-update sig (x ∷ g) (suc n) f keeps ok zero node e = ok zero node e
IsShaped-update sig (x ∷ g) (suc n) f keeps ok (suc k) node e = IsShaped-update sig g n f keeps (λ i. ok (suc i)) k node e

states-update : (sites : List SiteTests) (s : ℕ) (f : SiteTests → SiteTests) → ((x : SiteTests) → (f x).states ≡ x.states) → map (λ (x : SiteTests). x.states) (update sites s f) ≡ map (λ (x : SiteTests). x.states) sites
states-update [] s f keeps = refl
states-update (x ∷ sites) zero f keeps = ap (λ (k : ℕ). k ∷ map (λ (x : SiteTests). x.states) sites) (keeps x)
states-update (x ∷ sites) (suc s) f keeps = ap (λ (ks : List ℕ). x.states ∷ ks) (states-update sites s f keeps)

pub IsShaped-with_state : (sig : List TypeEntry) (g : List Node) (n s : ℕ) (t : StateTest) → IsShaped sig g → IsShaped sig (with_state g n s t)
unfolding with_state
IsShaped-with_state sig g n s t ok = IsShaped-update sig g n _ (λ node shape. states-update node.sites s (λ x. record x { state = t }) (λ x. refl) ∙ shape) ok

pub IsShaped-with_link : (sig : List TypeEntry) (g : List Node) (n s : ℕ) (t : LinkTest) → IsShaped sig g → IsShaped sig (with_link g n s t)
unfolding with_link
IsShaped-with_link sig g n s t ok = IsShaped-update sig g n _ (λ node shape. states-update node.sites s (λ x. record x { link = t }) (λ x. refl) ∙ shape) ok

pub IsShaped-with_bond : (sig : List TypeEntry) (g : List Node) (n s m t : ℕ) → IsShaped sig g → IsShaped sig (with_bond g n s m t)
IsShaped-with_bond sig g n s m t ok = IsShaped-with_link sig (with_link g n s (To m t)) m t (To n s) (IsShaped-with_link sig g n s (To m t) ok)

pub counts-blank : (counts : List ℕ) → map (λ (x : SiteTests). x.states) (map blank_site counts) ≡ counts
counts-blank [] = refl
counts-blank (k ∷ counts) = ap (λ (ks : List ℕ). k ∷ ks) (counts-blank counts)

pub IsShaped-blank : (sig : List TypeEntry) (types : List ℕ) → IsShaped sig (map (blank_node sig) types)
unfolding blank_node
IsShaped-blank sig [] k node e = absurd cc
IsShaped-blank sig (a ∷ types) zero node e = let same : record { agent = a; sites = map blank_site (state_counts sig a) } ≡ node = cc in rw (← same) (counts-blank (state_counts sig a))
IsShaped-blank sig (a ∷ types) (suc k) node e = IsShaped-blank sig types k node e

-- ---- nodes that are read

pub agent_at-node : (g : List Node) (n : ℕ) (node : Node) → slice_get g n ≡ Some node → agent_at g n ≡ Some node.agent
unfolding agent_at
agent_at-node g n node e = rw e refl

pub node_of_agent : (g : List Node) (n a : ℕ) → agent_at g n ≡ Some a → (node : Node) × (slice_get g n ≡ Some node) × (node.agent ≡ a)
unfolding agent_at
node_of_agent g n a e = some_map (λ (x : Node). x.agent) (slice_get g n) a e

pub node_of_site : (g : List Node) (n s : ℕ) (x : SiteTests) → site_at g n s ≡ Some x → (node : Node) × (slice_get g n ≡ Some node) × (slice_get node.sites s ≡ Some x)
unfolding site_at
node_of_site g n s x e = some_then (λ (node : Node). slice_get node.sites s) (slice_get g n) x e

-- there is such a site, or nothing is asked of it
pub site_or_any : (g : List Node) (n s : ℕ) → ((x : SiteTests) × (site_at g n s ≡ Some x)) ⊎ ((state_test g n s ≡ state.Any) × (link_test g n s ≡ link.Any))
unfolding state_test link_test
site_or_any g n s = by_site (site_at g n s) refl
  where
    by_site : (o : Option SiteTests) → site_at g n s ≡ o → ((x : SiteTests) × (site_at g n s ≡ Some x)) ⊎ ((option_map_or (λ (x : SiteTests). x.state) (site_at g n s) state.Any ≡ state.Any) × (option_map_or (λ (x : SiteTests). x.link) (site_at g n s) link.Any ≡ link.Any))
    by_site None e = inr (rw e refl, rw e refl)
    by_site (Some x) e = inl (x, e)
