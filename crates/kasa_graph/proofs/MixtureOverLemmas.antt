-- A mixture over a signature is one still after a new agent and after a bond.
use Rattle.std.proofs.Common.{◌≡◌, ◌<◌, ℕ, zero, suc, List, [], ◌∷◌, ◌++◌, length, map, refl, sym, ap, ◌∙◌, inl, inr, arith}
use Rattle.std.specs.Prelude.{◌≢◌, ◌⊎◌, Option, Some, None, slice_get, option_map}
use Rattle.std.proofs.lemmas.Option.{slice_get-map}
use Rattle.kasa_graph.specs.declared.mixture.Agent.{Agent}
use Rattle.kasa_graph.specs.declared.mixture.AgentSite.{AgentSite}
use Rattle.kasa_lists.specs.Lists.{update}
use Rattle.kasa_graph.specs.Signature.{TypeEntry, state_counts, HasSite}
use Rattle.kasa_graph.specs.Mixture.{agent_in, type_in, site_in, partner_in, HasAgentSite, IsAgentSite, IsMixtureOver, first_site, first_agent, change_site, with_partner, with_joined}
use Rattle.kasa_lists.proofs.Numbers.{same_or_not, same_both_or_not}
use Rattle.kasa_lists.proofs.Options.{some_map}
use Rattle.kasa_lists.proofs.Elements.{at_push}
use Rattle.kasa_lists.proofs.Updates.{slice_get-update_same, slice_get-update_other}
use Rattle.kasa_graph.proofs.CellLemmas.{agent_in-at, cell_at, has_agent, HasAgentSite-of, site_in-with_agent_site_same, site_in-with_agent_site_other, partner_in-push, IsMixture-same_partners, IsMixture-with_joined}
use Rattle.kasa_graph.proofs.MixtureLemmas.{site_of_type}

-- a cell of a type has each site of the type
pub HasAgentSite-of_type : (sig : List TypeEntry) (m : List (Option Agent)) (c a s : ℕ) → IsMixtureOver sig m → type_in m c ≡ Some a → HasSite sig a s → HasAgentSite m c s
HasAgentSite-of_type sig m c a s over typed has =
    let site = site_of_type sig m over c a s typed has in
    HasAgentSite-of m c s site.0 site.1

-- each agent has a type, and the sites and states of it
record AreAgents (sig : List TypeEntry) (m : List (Option Agent)) : Type 0 where
  pub types : (c : ℕ) (a : Agent) → agent_in m c ≡ Some a → a.agent < length sig
  pub sites : (c : ℕ) (a : Agent) → agent_in m c ≡ Some a → map (λ x. x.states) a.sites ≡ state_counts sig a.agent
  pub states : (c s : ℕ) (x : AgentSite) → site_in m c s ≡ Some x → IsAgentSite x

-- ---- a new agent

states-first : (counts : List ℕ) → map (λ (x : AgentSite). x.states) (map first_site counts) ≡ counts
states-first [] = refl
states-first (k ∷ counts) = ap (λ ks. k ∷ ks) (states-first counts)

IsAgentSite-first : (k : ℕ) → IsAgentSite (first_site k)
IsAgentSite-first zero = record { within = λ u e. absurd cc; given = λ some. absurd (omega (arith, some)) }
IsAgentSite-first (suc k) = record { within = λ u e. (let first : zero ≡ u = cc in omega (arith, first)); given = λ some. refl }

agent_in-push : (m : List (Option Agent)) (new a : Agent) (c : ℕ) → agent_in (m ++ Some new ∷ []) c ≡ Some a → (agent_in m c ≡ Some a) ⊎ (new ≡ a)
agent_in-push m new a c is =
    elim (at_push m (Some new) (Some a) c (cell_at (m ++ Some new ∷ []) c a is)) [
      | inl old ↦ inl (agent_in-at m c (Some a) old)
      | inr e ↦ let same : Some new ≡ Some a = e.1 in inr cc
    ]

site_in-agent : (m : List (Option Agent)) (c s : ℕ) (a : Agent) (x : AgentSite) → agent_in m c ≡ Some a → slice_get a.sites s ≡ Some x → site_in m c s ≡ Some x
unfolding site_in
site_in-agent m c s a x is at = rw is at

pub IsMixtureOver-add : (sig : List TypeEntry) (a : ℕ) (m : List (Option Agent)) → IsMixtureOver sig m → a < length sig → IsMixtureOver sig (m ++ Some (first_agent sig a) ∷ [])
unfolding first_agent
IsMixtureOver-add sig a m over known = record {
  linked = IsMixture-same_partners m (m ++ Some (first_agent sig a) ∷ []) (partner_in-push sig a m) over.linked;
  types = λ c b is. elim (agent_in-push m (first_agent sig a) b c is) [ inl e ↦ over.types c b e | inr e ↦ rw (← e) known ];
  sites = λ c b is. elim (agent_in-push m (first_agent sig a) b c is) [ inl e ↦ over.sites c b e | inr e ↦ rw (← e) (states-first (state_counts sig a)) ];
  states = λ c s x is. state c s x (has_agent (m ++ Some (first_agent sig a) ∷ []) c s x is);
}
  where
    state : (c s : ℕ) (x : AgentSite) → ((b : Agent) × (agent_in (m ++ Some (first_agent sig a) ∷ []) c ≡ Some b) × (slice_get b.sites s ≡ Some x)) → IsAgentSite x
    state c s x (b, is, at) =
        elim (agent_in-push m (first_agent sig a) b c is) [
          | inl e ↦ over.states c s x (site_in-agent m c s b x e at)
          | inr e ↦ let there = some_map first_site (slice_get (state_counts sig a) s) x (sym (slice_get-map first_site (state_counts sig a) s) ∙ rw (← e) at at) in
              rw (← there.2) (IsAgentSite-first there.0)
        ]

-- ---- a bond

module _ (p : Option (ℕ × ℕ)) where
  states-update : (sites : List AgentSite) (s : ℕ) → map (λ (x : AgentSite). x.states) (update sites s (λ x. record x { partner = p })) ≡ map (λ (x : AgentSite). x.states) sites
  states-update [] s = refl
  states-update (x ∷ sites) zero = refl
  states-update (x ∷ sites) (suc s) = ap (λ ks. x.states ∷ ks) (states-update sites s)

  -- the agent with the same type and the same numbers of states before
  abbrev Before : List (Option Agent) → ℕ → Agent → Type 0
  Before m c a = (b : Agent) × (agent_in m c ≡ Some b) × (b.agent ≡ a.agent) × (map (λ x. x.states) b.sites ≡ map (λ x. x.states) a.sites)

  at_cell : (m : List (Option Agent)) (c s : ℕ) (a : Agent) → agent_in (with_partner m c s p) c ≡ Some a → Before m c a
  unfolding with_partner
  at_cell m c s a is =
      let at : option_map (option_map (change_site s (λ x. record x { partner = p }))) (slice_get m c) ≡ Some (Some a) =
      sym (slice_get-update_same m c (option_map (change_site s (λ x. record x { partner = p })))) ∙ cell_at (with_partner m c s p) c a is in
      let cell = some_map (option_map (change_site s (λ x. record x { partner = p }))) (slice_get m c) (Some a) at in
      let agent = some_map (change_site s (λ x. record x { partner = p })) cell.0 a cell.2 in
      (agent.0, agent_in-at m c (Some agent.0) (cell.1 ∙ ap Some agent.1), ap (λ (b : Agent). b.agent) agent.2, sym (states-update agent.0.sites s) ∙ ap (λ (b : Agent). map (λ (x : AgentSite). x.states) b.sites) agent.2)

  agent_in-with_partner : (m : List (Option Agent)) (c s d : ℕ) (a : Agent) → agent_in (with_partner m c s p) d ≡ Some a → Before m d a
  unfolding with_partner
  agent_in-with_partner m c s d a is =
      elim (same_or_not c d) [
        | inl e ↦ rw (← e) (at_cell m c s a (rw (← e) at is))
        | inr ne ↦ (a, agent_in-at m d (Some a) (sym (slice_get-update_other m c d (option_map (change_site s (λ x. record x { partner = p }))) ne) ∙ cell_at (with_partner m c s p) d a is), refl, refl)
      ]

  AreAgents-with_partner : (sig : List TypeEntry) (m : List (Option Agent)) (c s : ℕ) → AreAgents sig m → AreAgents sig (with_partner m c s p)
  unfolding with_partner
  AreAgents-with_partner sig m c s old = record {
    types = λ d a is. let b = agent_in-with_partner m c s d a is in rw (← b.2) (old.types d b.0 b.1);
    sites = λ d a is. let b = agent_in-with_partner m c s d a is in sym b.3 ∙ old.sites d b.0 b.1 ∙ ap (state_counts sig) b.2;
    states = λ d t x is. state d t x is (same_both_or_not c s d t);
  }
    where
      state : (d t : ℕ) (x : AgentSite) → site_in (with_partner m c s p) d t ≡ Some x → ((c ≡ d) × (s ≡ t)) ⊎ (c ≡ d → s ≢ t) → IsAgentSite x
      state d t x is (inl e) =
          let there = some_map (λ (x : AgentSite). record x { partner = p }) (site_in m c s) x (sym (site_in-with_agent_site_same m c s (λ x. record x { partner = p })) ∙ rw (← e.0, ← e.1) at is) in
          let before = old.states c s there.0 there.1 in
          rw (← there.2) (record { within = before.within; given = before.given })
      state d t x is (inr ne) = old.states d t x (sym (site_in-with_agent_site_other m c s d t (λ x. record x { partner = p }) ne) ∙ is)

pub IsMixtureOver-joined : (sig : List TypeEntry) (m : List (Option Agent)) (c s d t : ℕ) → IsMixtureOver sig m → HasAgentSite m c s → HasAgentSite m d t → (c ≡ d → s ≢ t) → partner_in m c s ≡ None → partner_in m d t ≡ None → IsMixtureOver sig (with_joined m c s d t)
IsMixtureOver-joined sig m c s d t over first second differ free_first free_second =
    let before : AreAgents sig m = record { types = over.types; sites = over.sites; states = over.states } in
    let after = AreAgents-with_partner (Some (c, s)) sig (with_partner m c s (Some (d, t))) d t (AreAgents-with_partner (Some (d, t)) sig m c s before) in
    record { linked = IsMixture-with_joined m c s d t first second differ over.linked free_first free_second; types = after.types; sites = after.sites; states = after.states }
