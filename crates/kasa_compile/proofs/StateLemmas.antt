-- What is read in a mixture after a change at one site.
use Rattle.std.proofs.Common.{◌≡◌, ◌≢◌, ℕ, zero, suc, List, [], ◌∷◌, map, refl, sym, ap, ◌∙◌, ◌⊎◌, inl, inr}
use Rattle.std.specs.Prelude.{Option, Some, None, IsSome, slice_get, option_map, option_and_then}
use Rattle.std.proofs.lemmas.Option.{slice_get_within, same_Some}
use Rattle.kasa_graph.specs.declared.mixture.Agent.{Agent}
use Rattle.kasa_graph.specs.declared.mixture.AgentSite.{AgentSite}
use Rattle.kasa_graph.specs.Lists.{update}
use Rattle.kasa_graph.specs.Signature.{TypeEntry, state_counts, HasState}
use Rattle.kasa_graph.specs.Mixture.{agent_in, type_in, site_in, state_in, HasAgentSite, IsAgentSite, IsMixtureOver, change_site, with_agent_site, with_agent_state, with_partner, with_joined}
use Rattle.kasa_graph.proofs.ListLemmas.{same_or_not, some_map, slice_get-update_same, slice_get-update_other}
use Rattle.kasa_graph.proofs.ListUpdates.{option_then-update}
use Rattle.kasa_graph.proofs.PatternLemmas.{same_site_or_not}
use Rattle.kasa_graph.proofs.CellLemmas.{agent_in-at, cell_at, site_in-with_agent_site_same, site_in-with_agent_site_other, partner_in-with_agent_state, IsMixture-same_partners}
use Rattle.kasa_graph.proofs.MixtureLemmas.{site_of_type}

-- ---- types

abbrev type_of_cell : Option Agent → Option ℕ
type_of_cell cell = option_map (λ (a : Agent). a.agent) cell

type_in-cell : (m : List (Option Agent)) (c : ℕ) → type_in m c ≡ option_and_then type_of_cell (slice_get m c)
unfolding type_in agent_in
type_in-cell m c = by (slice_get m c)
  where
    by : (o : Option (Option Agent)) → option_map (λ (a : Agent). a.agent) (option_and_then (λ cell. cell) o) ≡ option_and_then type_of_cell o
    by None = refl
    by (Some cell) = refl

pub type_in-with_agent_site : (m : List (Option Agent)) (c s : ℕ) (f : AgentSite → AgentSite) (d : ℕ) → type_in (with_agent_site m c s f) d ≡ type_in m d
type_in-with_agent_site m c s f d =
    type_in-cell (with_agent_site m c s f) d ∙ option_then-update (option_map (change_site s f)) type_of_cell same m c d ∙ sym (type_in-cell m d)
  where
    same : (cell : Option Agent) → type_of_cell (option_map (change_site s f) cell) ≡ type_of_cell cell
    same None = refl
    same (Some a) = refl

pub type_in-with_agent_state : (m : List (Option Agent)) (c s u d : ℕ) → type_in (with_agent_state m c s u) d ≡ type_in m d
unfolding with_agent_state
type_in-with_agent_state m c s u d = type_in-with_agent_site m c s (λ x. record x { state = Some u }) d

-- ---- states

-- a state is read through a change that keeps it
state_in-kept : (m : List (Option Agent)) (c s d t : ℕ) (f : AgentSite → AgentSite) → ((x : AgentSite) → (f x).state ≡ x.state) → state_in (with_agent_site m c s f) d t ≡ state_in m d t
unfolding state_in
state_in-kept m c s d t f keeps =
    elim (same_site_or_not c s d t) [
      | inl e ↦ rw (← e.0, ← e.1) (ap (λ (o : Option AgentSite). option_and_then (λ x. x.state) o) (site_in-with_agent_site_same m c s f) ∙ same (site_in m c s))
      | inr ne ↦ ap (λ (o : Option AgentSite). option_and_then (λ x. x.state) o) (site_in-with_agent_site_other m c s d t f ne)
    ]
  where
    same : (o : Option AgentSite) → option_and_then (λ (x : AgentSite). x.state) (option_map f o) ≡ option_and_then (λ (x : AgentSite). x.state) o
    same None = refl
    same (Some x) = keeps x

pub state_in-with_joined : (m : List (Option Agent)) (c s d t k u : ℕ) → state_in (with_joined m c s d t) k u ≡ state_in m k u
unfolding with_partner
state_in-with_joined m c s d t k u =
    state_in-kept (with_partner m c s (Some (d, t))) d t k u (λ x. record x { partner = Some (c, s) }) (λ x. refl)
    ∙ state_in-kept m c s k u (λ x. record x { partner = Some (d, t) }) (λ x. refl)

pub type_in-with_joined : (m : List (Option Agent)) (c s d t k : ℕ) → type_in (with_joined m c s d t) k ≡ type_in m k
unfolding with_partner
type_in-with_joined m c s d t k = type_in-with_agent_site (with_partner m c s (Some (d, t))) d t (λ x. record x { partner = Some (c, s) }) k ∙ type_in-with_agent_site m c s (λ x. record x { partner = Some (d, t) }) k

pub state_in-with_agent_state_same : (m : List (Option Agent)) (c s u : ℕ) → HasAgentSite m c s → state_in (with_agent_state m c s u) c s ≡ Some u
unfolding state_in with_agent_state
state_in-with_agent_state_same m c s u has =
    ap (λ (o : Option AgentSite). option_and_then (λ x. x.state) o) (site_in-with_agent_site_same m c s (λ x. record x { state = Some u })) ∙ set (site_in m c s) has
  where
    set : (o : Option AgentSite) → IsSome o → option_and_then (λ (x : AgentSite). x.state) (option_map (λ (x : AgentSite). record x { state = Some u }) o) ≡ Some u
    set None has = absurd cc
    set (Some x) has = refl

pub state_in-with_agent_state_other : (m : List (Option Agent)) (c s u d t : ℕ) → (c ≡ d → s ≢ t) → state_in (with_agent_state m c s u) d t ≡ state_in m d t
unfolding state_in with_agent_state
state_in-with_agent_state_other m c s u d t ne = ap (λ (o : Option AgentSite). option_and_then (λ x. x.state) o) (site_in-with_agent_site_other m c s d t (λ x. record x { state = Some u }) ne)

-- ---- a state keeps a mixture over its signature

module _ (u : ℕ) where
  abbrev set : AgentSite → AgentSite
  set x = record x { state = Some u }

  counts-update : (sites : List AgentSite) (s : ℕ) → map (λ (x : AgentSite). x.states) (update sites s set) ≡ map (λ (x : AgentSite). x.states) sites
  counts-update [] s = refl
  counts-update (x ∷ sites) zero = refl
  counts-update (x ∷ sites) (suc s) = ap (λ ks. x.states ∷ ks) (counts-update sites s)

  -- the agent with the same type and the same numbers of states before
  abbrev Before : List (Option Agent) → ℕ → Agent → Type 0
  Before m c a = (b : Agent) × (agent_in m c ≡ Some b) × (b.agent ≡ a.agent) × (map (λ x. x.states) b.sites ≡ map (λ x. x.states) a.sites)

  before : (m : List (Option Agent)) (c s d : ℕ) (a : Agent) → agent_in (with_agent_state m c s u) d ≡ Some a → Before m d a
  unfolding with_agent_state
  before m c s d a is =
      elim (same_or_not c d) [
        | inl e ↦ rw (← e) (at_cell (rw (← e) at is))
        | inr ne ↦ (a, agent_in-at m d (Some a) (sym (slice_get-update_other m c d (option_map (change_site s set)) ne) ∙ cell_at (with_agent_site m c s set) d a is), refl, refl)
      ]
    where
      at_cell : agent_in (with_agent_site m c s set) c ≡ Some a → Before m c a
      at_cell is =
          let at : option_map (option_map (change_site s set)) (slice_get m c) ≡ Some (Some a) =
          sym (slice_get-update_same m c (option_map (change_site s set))) ∙ cell_at (with_agent_site m c s set) c a is in
          let cell = some_map (option_map (change_site s set)) (slice_get m c) (Some a) at in
          let agent = some_map (change_site s set) cell.0 a cell.2 in
          (agent.0, agent_in-at m c (Some agent.0) (cell.1 ∙ ap Some agent.1), ap (λ (b : Agent). b.agent) agent.2, sym (counts-update agent.0.sites s) ∙ ap (λ (b : Agent). map (λ (x : AgentSite). x.states) b.sites) agent.2)

pub IsMixtureOver-with_agent_state : (sig : List TypeEntry) (m : List (Option Agent)) (c s u a : ℕ) → IsMixtureOver sig m → type_in m c ≡ Some a → HasState sig a s u → IsMixtureOver sig (with_agent_state m c s u)
unfolding with_agent_state
IsMixtureOver-with_agent_state sig m c s u a over typed has = record {
  linked = IsMixture-same_partners m (with_agent_state m c s u) (partner_in-with_agent_state m c s u) over.linked;
  types = λ d b is. let old = before u m c s d b is in rw (← old.2) (over.types d old.0 old.1);
  sites = λ d b is. let old = before u m c s d b is in sym old.3 ∙ over.sites d old.0 old.1 ∙ ap (state_counts sig) old.2;
  states = λ d t x is. state d t x is (same_site_or_not c s d t);
}
  where
    state : (d t : ℕ) (x : AgentSite) → site_in (with_agent_state m c s u) d t ≡ Some x → ((c ≡ d) × (s ≡ t)) ⊎ (c ≡ d → s ≢ t) → IsAgentSite x
    state d t x is (inl e) =
        let old = some_map (set u) (site_in m c s) x (sym (site_in-with_agent_site_same m c s (set u)) ∙ rw (← e.0, ← e.1) at is) in
        let there = site_of_type sig m over c a s typed (slice_get_within (state_counts sig a) s has.0 has.1) in
        let same : there.0 ≡ old.0 = same_Some _ _ (sym there.1 ∙ old.1) in
        let count : has.0 ≡ old.0.states = same_Some _ _ (sym has.1 ∙ there.2 ∙ ap (λ (y : AgentSite). Some y.states) same) in
        rw (← old.2) (record { within = λ v is_v. (let same_v : u ≡ v = same_Some _ _ is_v in rw (← same_v, ← count) has.2); given = λ some. refl })
    state d t x is (inr ne) = over.states d t x (sym (site_in-with_agent_site_other m c s d t (set u) ne) ∙ is)
