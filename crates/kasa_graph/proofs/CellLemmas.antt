-- What stands in a mixture after a change, and that partners stay mutual.
use Rattle.std.proofs.Common.{◌≡◌, ◌≢◌, ℕ, zero, suc, ◌<◌, ◌⊎◌, inl, inr, List, [], ◌∷◌, ◌++◌, refl, ap, sym, ◌∙◌, map, length}
use Rattle.std.specs.Prelude.{Option, Some, None, IsSome, slice_get, slice_set, slice_index_or, option_map, option_and_then}
use Rattle.std.proofs.lemmas.Option.{slice_get_within, some_pair_parts, get_or_from_slice_get}
use Rattle.kasa_graph.specs.declared.mixture.Agent.{Agent}
use Rattle.kasa_graph.specs.declared.mixture.AgentSite.{AgentSite}
use Rattle.kasa_graph.specs.Signature.{TypeEntry}
use Rattle.kasa_graph.specs.Signature.{state_counts}
use Rattle.kasa_graph.specs.Mixture.{agent_in, type_in, site_in, partner_in, HasAgentSite, IsMixture, IsSmallMixture, first_site, first_agent, change_site, with_agent_site, with_agent_state, with_partner, with_joined}
use Rattle.kasa_lists.proofs.Numbers.{same_both_or_not}
use Rattle.kasa_lists.proofs.Options.{some_then}
use Rattle.kasa_lists.specs.Lists.{update}
use Rattle.kasa_lists.specs.Grid.{at_both, change}
use Rattle.kasa_lists.proofs.Updates.{slice_set-update, update-alike, length-update}
use Rattle.kasa_lists.proofs.Grid.{at_both-change_same, at_both-change_other, change-same}

-- ---- what stands in a cell

pub agent_in-at : (m : List (Option Agent)) (c : ℕ) (cell : Option Agent) → slice_get m c ≡ Some cell → agent_in m c ≡ cell
unfolding agent_in
agent_in-at m c cell at = rw at refl

pub agent_in-past : (m : List (Option Agent)) (c : ℕ) → slice_get m c ≡ None → agent_in m c ≡ None
unfolding agent_in
agent_in-past m c at = rw at refl

-- a living cell stands in the list
pub cell_at : (m : List (Option Agent)) (c : ℕ) (a : Agent) → agent_in m c ≡ Some a → slice_get m c ≡ Some (Some a)
unfolding agent_in
cell_at m c a is = by_cell (slice_get m c) is
  where
    by_cell : (o : Option (Option Agent)) → option_and_then (λ (cell : Option Agent). cell) o ≡ Some a → o ≡ Some (Some a)
    by_cell None e = absurd cc
    by_cell (Some cell) e = ap (λ (x : Option Agent). Some x) e

-- a cell of a type is living
pub living_of_type : (m : List (Option Agent)) (c : ℕ) → IsSome (type_in m c) → IsSome (agent_in m c)
unfolding type_in
living_of_type m c typed = by_agent (agent_in m c) typed
  where
    by_agent : (o : Option Agent) → IsSome (option_map (λ (a : Agent). a.agent) o) → IsSome o
    by_agent None some = some
    by_agent (Some a) some = refl

-- the agent with a site
pub has_agent : (m : List (Option Agent)) (c s : ℕ) (x : AgentSite) → site_in m c s ≡ Some x → (a : Agent) × (agent_in m c ≡ Some a) × (slice_get a.sites s ≡ Some x)
unfolding site_in
has_agent m c s x is = some_then (λ (a : Agent). slice_get a.sites s) (agent_in m c) x is

-- the site with a partner
pub has_partner : (m : List (Option Agent)) (c s : ℕ) (p : ℕ × ℕ) → partner_in m c s ≡ Some p → (x : AgentSite) × (site_in m c s ≡ Some x) × (x.partner ≡ Some p)
unfolding partner_in
has_partner m c s p is = some_then (λ (x : AgentSite). x.partner) (site_in m c s) p is

pub HasAgentSite-of : (m : List (Option Agent)) (c s : ℕ) (x : AgentSite) → site_in m c s ≡ Some x → HasAgentSite m c s
HasAgentSite-of m c s x is = rw is refl

-- ---- a change at one site

-- cells are a grid, in which an empty one has no sites and keeps none
abbrev sites_of_cell : Option Agent → List AgentSite
sites_of_cell None = []
sites_of_cell (Some a) = a.sites

abbrev cell_with : Option Agent → List AgentSite → Option Agent
cell_with None xs = None
cell_with (Some a) xs = Some (record a { sites = xs })

sites_of_cell-update : (cell : Option Agent) (s : ℕ) (f : AgentSite → AgentSite) → sites_of_cell (cell_with cell (update (sites_of_cell cell) s f)) ≡ update (sites_of_cell cell) s f
sites_of_cell-update None s f = refl
sites_of_cell-update (Some a) s f = refl

site_in-grid : (m : List (Option Agent)) (c s : ℕ) → site_in m c s ≡ at_both sites_of_cell m c s
unfolding site_in agent_in
site_in-grid m c s = by (slice_get m c)
  where
    by : (o : Option (Option Agent)) → option_and_then (λ (a : Agent). slice_get a.sites s) (option_and_then (λ (cell : Option Agent). cell) o) ≡ option_and_then (λ (cell : Option Agent). slice_get (sites_of_cell cell) s) o
    by None = refl
    by (Some None) = refl
    by (Some (Some a)) = refl

with_agent_site-grid : (m : List (Option Agent)) (c s : ℕ) (f : AgentSite → AgentSite) → with_agent_site m c s f ≡ change sites_of_cell cell_with m c s f
with_agent_site-grid m c s f = update-alike m c (option_map (change_site s f)) (λ cell. cell_with cell (update (sites_of_cell cell) s f)) by
  where
    by : (cell : Option Agent) → option_map (change_site s f) cell ≡ cell_with cell (update (sites_of_cell cell) s f)
    by None = refl
    by (Some a) = refl

pub site_in-with_agent_site_same : (m : List (Option Agent)) (c s : ℕ) (f : AgentSite → AgentSite) → site_in (with_agent_site m c s f) c s ≡ option_map f (site_in m c s)
site_in-with_agent_site_same m c s f =
    site_in-grid (with_agent_site m c s f) c s ∙ ap (λ k. at_both sites_of_cell k c s) (with_agent_site-grid m c s f)
    ∙ at_both-change_same sites_of_cell cell_with sites_of_cell-update m c s f ∙ ap (option_map f) (sym (site_in-grid m c s))

pub site_in-with_agent_site_other : (m : List (Option Agent)) (c s d t : ℕ) (f : AgentSite → AgentSite) → (c ≡ d → s ≢ t) → site_in (with_agent_site m c s f) d t ≡ site_in m d t
site_in-with_agent_site_other m c s d t f ne =
    site_in-grid (with_agent_site m c s f) d t ∙ ap (λ k. at_both sites_of_cell k d t) (with_agent_site-grid m c s f)
    ∙ at_both-change_other sites_of_cell cell_with sites_of_cell-update m c s d t f ne ∙ sym (site_in-grid m d t)

partner_of_changed : (o : Option AgentSite) (p : Option (ℕ × ℕ)) → IsSome o → (q : Option AgentSite) → q ≡ option_map (λ (x : AgentSite). record x { partner = p }) o → option_and_then (λ (x : AgentSite). x.partner) q ≡ p
partner_of_changed None p some q e = absurd cc
partner_of_changed (Some x) p some q e = rw e refl

pub partner_in-with_partner_same : (m : List (Option Agent)) (c s : ℕ) (p : Option (ℕ × ℕ)) → HasAgentSite m c s → partner_in (with_partner m c s p) c s ≡ p
unfolding partner_in with_partner
partner_in-with_partner_same m c s p has = partner_of_changed (site_in m c s) p has _ (site_in-with_agent_site_same m c s (λ x. record x { partner = p }))

pub partner_in-with_partner_other : (m : List (Option Agent)) (c s d t : ℕ) (p : Option (ℕ × ℕ)) → (c ≡ d → s ≢ t) → partner_in (with_partner m c s p) d t ≡ partner_in m d t
unfolding partner_in with_partner
partner_in-with_partner_other m c s d t p ne = rw (site_in-with_agent_site_other m c s d t (λ x. record x { partner = p }) ne)

pub HasAgentSite-with_partner : (m : List (Option Agent)) (c s d t : ℕ) (p : Option (ℕ × ℕ)) → HasAgentSite m d t → HasAgentSite (with_partner m c s p) d t
unfolding with_partner
HasAgentSite-with_partner m c s d t p has =
    elim (same_both_or_not c s d t) [
      | inl e ↦ let there : HasAgentSite m c s = rw (e.0, e.1) has in
          rw (← e.0, ← e.1) (rw (site_in-with_agent_site_same m c s (λ x. record x { partner = p })) (some_mapped (site_in m c s) there))
      | inr ne ↦ rw (site_in-with_agent_site_other m c s d t (λ x. record x { partner = p }) ne) has
    ]
  where
    some_mapped : (o : Option AgentSite) → IsSome o → IsSome (option_map (λ (x : AgentSite). record x { partner = p }) o)
    some_mapped None has = has
    some_mapped (Some x) has = refl

state_keeps_partner : (o : Option AgentSite) (u : ℕ) (q : Option AgentSite) → q ≡ option_map (λ (x : AgentSite). record x { state = Some u }) o → option_and_then (λ (x : AgentSite). x.partner) q ≡ option_and_then (λ (x : AgentSite). x.partner) o
state_keeps_partner None u q e = rw e
state_keeps_partner (Some x) u q e = rw e

pub partner_in-with_agent_state : (m : List (Option Agent)) (c s u d t : ℕ) → partner_in (with_agent_state m c s u) d t ≡ partner_in m d t
unfolding partner_in with_agent_state
partner_in-with_agent_state m c s u d t =
    elim (same_both_or_not c s d t) [
      | inl e ↦ rw (← e.0, ← e.1) (state_keeps_partner (site_in m c s) u _ (site_in-with_agent_site_same m c s (λ x. record x { state = Some u })))
      | inr ne ↦ rw (site_in-with_agent_site_other m c s d t (λ x. record x { state = Some u }) ne)
    ]

-- ---- a new agent

free_site : (counts : List ℕ) (s : ℕ) → option_and_then (λ (x : AgentSite). x.partner) (slice_get (map first_site counts) s) ≡ None
free_site [] s = refl
free_site (k ∷ counts) zero = refl
free_site (k ∷ counts) (suc s) = free_site counts s

pub partner_in-push : (sig : List TypeEntry) (a : ℕ) (m : List (Option Agent)) (c s : ℕ) → partner_in (m ++ Some (first_agent sig a) ∷ []) c s ≡ partner_in m c s
unfolding partner_in site_in agent_in first_agent
partner_in-push sig a [] zero s = free_site (state_counts sig a) s
partner_in-push sig a [] (suc c) s = refl
partner_in-push sig a (cell ∷ m) zero s = refl
partner_in-push sig a (cell ∷ m) (suc c) s = partner_in-push sig a m c s

-- ---- partners stay mutual

pub IsSmallMixture-of : (m k : List (Option Agent)) → k ≡ m → IsSmallMixture m → IsSmallMixture k
IsSmallMixture-of m k e ok = rw e ok

-- mutual partners after a change that leaves as many cells
pub IsSmallMixture-changed : (m k : List (Option Agent)) → IsSmallMixture m → IsMixture k → length k ≡ length m → IsSmallMixture k
IsSmallMixture-changed m k ok linked same = record { linked = linked; few = rw same ok.few }

pub length-with_agent_state : (m : List (Option Agent)) (c s u : ℕ) → length (with_agent_state m c s u) ≡ length m
unfolding with_agent_state
length-with_agent_state m c s u = length-update m c _

pub length-with_partner : (m : List (Option Agent)) (c s : ℕ) (p : Option (ℕ × ℕ)) → length (with_partner m c s p) ≡ length m
unfolding with_partner
length-with_partner m c s p = length-update m c _

pub length-with_joined : (m : List (Option Agent)) (c s d t : ℕ) → length (with_joined m c s d t) ≡ length m
length-with_joined m c s d t = length-with_partner (with_partner m c s (Some (d, t))) d t (Some (c, s)) ∙ length-with_partner m c s (Some (d, t))

pub IsMixture-[] : IsMixture []
unfolding partner_in site_in agent_in
IsMixture-[] = record { both_ways = λ c s d t is. cc; apart = λ c s is. cc }

pub IsMixture-same_partners : (m k : List (Option Agent)) → ((c s : ℕ) → partner_in k c s ≡ partner_in m c s) → IsMixture m → IsMixture k
IsMixture-same_partners m k same ok = record {
  both_ways = λ c s d t is. same d t ∙ ok.both_ways c s d t (sym (same c s) ∙ is);
  apart = λ c s is. ok.apart c s (sym (same c s) ∙ is);
}

no_partner : (p q : Option (ℕ × ℕ)) (r : ℕ × ℕ) → p ≡ None → p ≡ Some r → ⊥
no_partner p q r none is = cc

module _ (m : List (Option Agent)) (c s d t : ℕ) (first : HasAgentSite m c s) (second : HasAgentSite m d t) (differ : c ≡ d → s ≢ t) where
  partner_at_first : partner_in (with_joined m c s d t) c s ≡ Some (d, t)
  partner_at_first = partner_in-with_partner_other (with_partner m c s (Some (d, t))) d t c s (Some (c, s)) (λ e f. differ (sym e) (sym f)) ∙ partner_in-with_partner_same m c s (Some (d, t)) first

  partner_at_second : partner_in (with_joined m c s d t) d t ≡ Some (c, s)
  partner_at_second = partner_in-with_partner_same (with_partner m c s (Some (d, t))) d t (Some (c, s)) (HasAgentSite-with_partner m c s d t (Some (d, t)) second)

  pub partner_in-with_joined : (k u : ℕ) → ((c ≡ k) × (s ≡ u)) ⊎ (((d ≡ k) × (t ≡ u)) ⊎ (partner_in (with_joined m c s d t) k u ≡ partner_in m k u))
  partner_in-with_joined k u =
      elim (same_both_or_not c s k u) [
        | inl e ↦ inl e
        | inr ne ↦ elim (same_both_or_not d t k u) [
          | inl e ↦ inr (inl e)
          | inr ne' ↦ inr (inr (partner_in-with_partner_other (with_partner m c s (Some (d, t))) d t k u (Some (c, s)) ne' ∙ partner_in-with_partner_other m c s k u (Some (d, t)) ne))
        ]
      ]

  pub IsMixture-with_joined : IsMixture m → partner_in m c s ≡ None → partner_in m d t ≡ None → IsMixture (with_joined m c s d t)
  IsMixture-with_joined ok free_first free_second = record { both_ways = both; apart = never }
    where
      both : (k u j v : ℕ) → partner_in (with_joined m c s d t) k u ≡ Some (j, v) → partner_in (with_joined m c s d t) j v ≡ Some (k, u)
      both k u j v is =
          elim (partner_in-with_joined k u) [
            | inl e ↦ let there = some_pair_parts d j t v (sym partner_at_first ∙ (rw (← e.0, ← e.1) at is)) in
                rw (← there.0, ← there.1, ← e.0, ← e.1) partner_at_second
            | inr rest ↦ elim rest [
              | inl e ↦ let there = some_pair_parts c j s v (sym partner_at_second ∙ (rw (← e.0, ← e.1) at is)) in
                  rw (← there.0, ← there.1, ← e.0, ← e.1) partner_at_first
              | inr same ↦ let back = ok.both_ways k u j v (sym same ∙ is) in
                  elim (partner_in-with_joined j v) [
                    | inl e ↦ absurd (no_partner (partner_in m c s) None (k, u) free_first (rw (e.0, e.1) back))
                    | inr rest' ↦ elim rest' [
                      | inl e ↦ absurd (no_partner (partner_in m d t) None (k, u) free_second (rw (e.0, e.1) back))
                      | inr same' ↦ same' ∙ back
                    ]
                  ]
            ]
          ]

      never : (k u : ℕ) → partner_in (with_joined m c s d t) k u ≢ Some (k, u)
      never k u is =
          elim (partner_in-with_joined k u) [
            | inl e ↦ let there = some_pair_parts d c t s (sym partner_at_first ∙ (rw (← e.0, ← e.1) at is)) in differ (sym there.0) (sym there.1)
            | inr rest ↦ elim rest [
              | inl e ↦ let there = some_pair_parts c d s t (sym partner_at_second ∙ (rw (← e.0, ← e.1) at is)) in differ there.0 there.1
              | inr same ↦ ok.apart k u (sym same ∙ is)
            ]
          ]

-- ---- a site seen by its index

pub agent_bound : (m : List (Option Agent)) (c : ℕ) (a : Agent) → agent_in m c ≡ Some a → c < length m
agent_bound m c a is = slice_get_within m c (Some a) (cell_at m c a is)

-- the partner of an agent's site
pub partner_in-of : (m : List (Option Agent)) (c s : ℕ) (a : Agent) (x : AgentSite) → agent_in m c ≡ Some a → slice_get a.sites s ≡ Some x → partner_in m c s ≡ x.partner
unfolding partner_in site_in
partner_in-of m c s a x is at = rw (is, at) refl

pub alive_bound : (m : List (Option Agent)) (c : ℕ) → IsSome (agent_in m c) → c < length m
alive_bound m c alive = by_agent (agent_in m c) refl alive
  where
    by_agent : (o : Option Agent) → agent_in m c ≡ o → IsSome o → c < length m
    by_agent None e some = absurd cc
    by_agent (Some a) e some = agent_bound m c a e

site_agent : (m : List (Option Agent)) (c s : ℕ) → HasAgentSite m c s → (a : Agent) × (x : AgentSite) × (slice_get m c ≡ Some (Some a)) × (slice_get a.sites s ≡ Some x)
site_agent m c s has = by_site (site_in m c s) refl has
  where
    by_site : (o : Option AgentSite) → site_in m c s ≡ o → IsSome o → (a : Agent) × (x : AgentSite) × (slice_get m c ≡ Some (Some a)) × (slice_get a.sites s ≡ Some x)
    by_site None e some = absurd cc
    by_site (Some x) e some = let agent = has_agent m c s x e in (agent.0, x, cell_at m c agent.0 agent.1, agent.2)

pub cell_bound : (m : List (Option Agent)) (c s : ℕ) → HasAgentSite m c s → c < length m
cell_bound m c s has = let at = site_agent m c s has in slice_get_within m c (Some at.0) at.2

pub site_bound : (m : List (Option Agent)) (c s : ℕ) (a : Agent) (d : Option Agent) → HasAgentSite m c s → slice_index_or m c d ≡ Some a → s < length a.sites
site_bound m c s a d has is =
    let at = site_agent m c s has in
    let same : at.0 ≡ a = (let p = get_or_from_slice_get m c (Some at.0) d at.2 in cc) in
    rw (← same) (slice_get_within at.0.sites s at.1 at.3)

pub no_empty_cell : (m : List (Option Agent)) (c s : ℕ) (d : Option Agent) → HasAgentSite m c s → ((a : Agent) → slice_index_or m c d ≡ Some a → ⊥) → ⊥
no_empty_cell m c s d has empty = let at = site_agent m c s has in empty at.0 (get_or_from_slice_get m c (Some at.0) d at.2)

pub with_agent_site-slice_set : (m : List (Option Agent)) (c s : ℕ) (a : Agent) (d : Option Agent) (x : AgentSite) → HasAgentSite m c s → slice_index_or m c d ≡ Some a → slice_set m c (Some (record a { sites = slice_set a.sites s x })) ≡ with_agent_site m c s (λ _. x)
with_agent_site-slice_set m c s a d x has is =
    let at = site_agent m c s has in
    let same : at.0 ≡ a = (let p = get_or_from_slice_get m c (Some at.0) d at.2 in cc) in
    let with_sites : List AgentSite → Option Agent = λ xs. Some (record a { sites = xs }) in
    slice_set-update m c (Some a) _ (option_map (change_site s (λ _. x))) (rw same at at.2)
    (ap with_sites (sym (slice_set-update a.sites s at.1 x (λ _. x) (rw same at at.3) refl)))

-- a change by the same value is the same
pub with_agent_site-same : (m : List (Option Agent)) (c s : ℕ) (x : AgentSite) (f h : AgentSite → AgentSite) → site_in m c s ≡ Some x → f x ≡ h x → with_agent_site m c s f ≡ with_agent_site m c s h
with_agent_site-same m c s x f h is e =
    with_agent_site-grid m c s f ∙ change-same sites_of_cell cell_with m c s x f h (sym (site_in-grid m c s) ∙ is) e ∙ sym (with_agent_site-grid m c s h)
