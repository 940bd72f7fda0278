-- Two mixtures side by side: what stands in each cell, and that both being valid makes them valid together.
use Rattle.std.proofs.Common.{◌≡◌, ◌≢◌, ℕ, ◌+◌, ◌<◌, inl, inr, List, [], ◌∷◌, refl, sym, ap, ◌∙◌, subst, map, length, arith}
use Rattle.std.specs.Prelude.{Option, Some, None, slice_get, option_map, option_and_then}
use Rattle.std.proofs.lemmas.Option.{slice_get-map}
use Rattle.kasa_graph.specs.declared.mixture.Agent.{Agent}
use Rattle.kasa_graph.specs.declared.mixture.AgentSite.{AgentSite}
use Rattle.kasa_graph.specs.Signature.{TypeEntry}
use Rattle.kasa_graph.specs.Signature.{state_counts}
use Rattle.kasa_graph.specs.Mixture.{agent_in, type_in, site_in, state_in, partner_in, shift_partner, shift_site, shift_agent, beside, IsMixture, IsAgentSite, IsMixtureOver}
pub use Rattle.kasa_graph.proofs.CellLemmas.{agent_bound as agent_in-within}
use Rattle.kasa_lists.proofs.Numbers.{below_or}
use Rattle.kasa_lists.proofs.Options.{some_map, some_then}
use Rattle.kasa_lists.proofs.Elements.{slice_get-append_left, slice_get-append_right}

pub partner_in-within : (m : List (Option Agent)) (c s : ℕ) (p : ℕ × ℕ) → partner_in m c s ≡ Some p → c < length m
unfolding partner_in site_in
partner_in-within m c s p e =
    let site = some_then (λ (x : AgentSite). x.partner) (option_and_then (λ (a : Agent). slice_get a.sites s) (agent_in m c)) p e in
    let agent = some_then (λ (a : Agent). slice_get a.sites s) (agent_in m c) site.0 site.1 in
    agent_in-within m c agent.0 agent.1

module _ (m k : List (Option Agent)) where
  -- ---- the first mixture's cells

  pub agent_in-beside_left : (c : ℕ) → c < length m → agent_in (beside m k) c ≡ agent_in m c
  unfolding agent_in beside
  agent_in-beside_left c within = rw (slice_get-append_left m (map (option_map (shift_agent (length m))) k) c within)

  pub type_in-beside_left : (c : ℕ) → c < length m → type_in (beside m k) c ≡ type_in m c
  unfolding type_in
  type_in-beside_left c within = ap (option_map (λ (a : Agent). a.agent)) (agent_in-beside_left c within)

  pub site_in-beside_left : (c s : ℕ) → c < length m → site_in (beside m k) c s ≡ site_in m c s
  unfolding site_in
  site_in-beside_left c s within = ap (λ (o : Option Agent). option_and_then (λ (a : Agent). slice_get a.sites s) o) (agent_in-beside_left c within)

  pub state_in-beside_left : (c s : ℕ) → c < length m → state_in (beside m k) c s ≡ state_in m c s
  unfolding state_in
  state_in-beside_left c s within = ap (λ (o : Option AgentSite). option_and_then (λ (x : AgentSite). x.state) o) (site_in-beside_left c s within)

  pub partner_in-beside_left : (c s : ℕ) → c < length m → partner_in (beside m k) c s ≡ partner_in m c s
  unfolding partner_in
  partner_in-beside_left c s within = ap (λ (o : Option AgentSite). option_and_then (λ (x : AgentSite). x.partner) o) (site_in-beside_left c s within)

  -- ---- the second mixture's cells

  pub agent_in-beside_right : (c j : ℕ) → length m + j ≡ c → agent_in (beside m k) c ≡ option_map (shift_agent (length m)) (agent_in k j)
  unfolding agent_in beside
  agent_in-beside_right c j e = rw (slice_get-append_right m (map (option_map (shift_agent (length m))) k) j c e, slice_get-map (option_map (shift_agent (length m))) k j) (by_cell (slice_get k j))
    where
      by_cell : (o : Option (Option Agent)) → option_and_then (λ (x : Option Agent). x) (option_map (option_map (shift_agent (length m))) o) ≡ option_map (shift_agent (length m)) (option_and_then (λ (x : Option Agent). x) o)
      by_cell None = refl
      by_cell (Some x) = refl

  pub type_in-beside_right : (c j : ℕ) → length m + j ≡ c → type_in (beside m k) c ≡ type_in k j
  unfolding type_in
  type_in-beside_right c j e = rw (agent_in-beside_right c j e) (by_agent (agent_in k j))
    where
      by_agent : (o : Option Agent) → option_map (λ (a : Agent). a.agent) (option_map (shift_agent (length m)) o) ≡ option_map (λ (a : Agent). a.agent) o
      by_agent None = refl
      by_agent (Some a) = refl

  pub site_in-beside_right : (c j s : ℕ) → length m + j ≡ c → site_in (beside m k) c s ≡ option_map (shift_site (length m)) (site_in k j s)
  unfolding site_in
  site_in-beside_right c j s e = rw (agent_in-beside_right c j e) (by_agent (agent_in k j))
    where
      by_agent : (o : Option Agent) → option_and_then (λ (a : Agent). slice_get a.sites s) (option_map (shift_agent (length m)) o) ≡ option_map (shift_site (length m)) (option_and_then (λ (a : Agent). slice_get a.sites s) o)
      by_agent None = refl
      by_agent (Some a) = slice_get-map (shift_site (length m)) a.sites s

  pub state_in-beside_right : (c j s : ℕ) → length m + j ≡ c → state_in (beside m k) c s ≡ state_in k j s
  unfolding state_in
  state_in-beside_right c j s e = rw (site_in-beside_right c j s e) (by_site (site_in k j s))
    where
      by_site : (o : Option AgentSite) → option_and_then (λ (x : AgentSite). x.state) (option_map (shift_site (length m)) o) ≡ option_and_then (λ (x : AgentSite). x.state) o
      by_site None = refl
      by_site (Some x) = refl

  pub partner_in-beside_right : (c j s : ℕ) → length m + j ≡ c → partner_in (beside m k) c s ≡ option_map (shift_partner (length m)) (partner_in k j s)
  unfolding partner_in
  partner_in-beside_right c j s e = rw (site_in-beside_right c j s e) (by_site (site_in k j s))
    where
      by_site : (o : Option AgentSite) → option_and_then (λ (x : AgentSite). x.partner) (option_map (shift_site (length m)) o) ≡ option_map (shift_partner (length m)) (option_and_then (λ (x : AgentSite). x.partner) o)
      by_site None = refl
      by_site (Some x) = refl

  -- a partner of the second mixture's cell
  pub partner_of_right : (c j s d t : ℕ) → length m + j ≡ c → partner_in (beside m k) c s ≡ Some (d, t) → (i : ℕ) × (length m + i ≡ d) × (partner_in k j s ≡ Some (i, t))
  partner_of_right c j s d t e bound =
      let old = some_map (shift_partner (length m)) (partner_in k j s) (d, t) (sym (partner_in-beside_right c j s e) ∙ bound) in
      let cell : length m + old.0.0 ≡ d = ap (λ (p : ℕ × ℕ). p.0) old.2 in
      let site : old.0.1 ≡ t = ap (λ (p : ℕ × ℕ). p.1) old.2 in
      (old.0.0, cell, old.1 ∙ ap (λ (u : ℕ). let o : Option (ℕ × ℕ) = Some (old.0.0, u) in o) site)

  -- ---- validity

  module _ (first : IsMixture m) (second : IsMixture k) where
    pub IsMixture-beside : IsMixture (beside m k)
    IsMixture-beside = record { both_ways = both; apart = never }
      where
        both : (c s d t : ℕ) → partner_in (beside m k) c s ≡ Some (d, t) → partner_in (beside m k) d t ≡ Some (c, s)
        both c s d t bound = elim (below_or c (length m)) [
          | inl within ↦
              let back = first.both_ways c s d t (sym (partner_in-beside_left c s within) ∙ bound) in
              partner_in-beside_left d t (partner_in-within m d t (c, s) back) ∙ back
          | inr j ↦
              let there = partner_of_right c j.0 s d t j.1 bound in
              partner_in-beside_right d there.0 t there.1 ∙ ap (option_map (shift_partner (length m))) (second.both_ways j.0 s there.0 t there.2) ∙ ap (λ (cell : ℕ). let o : Option (ℕ × ℕ) = Some (cell, s) in o) j.1
        ]

        never : (c s : ℕ) → partner_in (beside m k) c s ≢ Some (c, s)
        never c s bound = elim (below_or c (length m)) [
          | inl within ↦ first.apart c s (sym (partner_in-beside_left c s within) ∙ bound)
          | inr j ↦
              let there = partner_of_right c j.0 s c s j.1 bound in
              let same : there.0 ≡ j.0 = let e = there.1 in let f = j.1 in omega arith in
              second.apart j.0 s (there.2 ∙ ap (λ (cell : ℕ). let o : Option (ℕ × ℕ) = Some (cell, s) in o) same)
        ]

shift_keeps_states : (n : ℕ) (sites : List AgentSite) → map (λ (x : AgentSite). x.states) (map (shift_site n) sites) ≡ map (λ (x : AgentSite). x.states) sites
shift_keeps_states n [] = refl
shift_keeps_states n (x ∷ sites) = ap (λ (ks : List ℕ). x.states ∷ ks) (shift_keeps_states n sites)

pub IsMixtureOver-beside : (sig : List TypeEntry) (m k : List (Option Agent)) → IsMixtureOver sig m → IsMixtureOver sig k → IsMixtureOver sig (beside m k)
IsMixtureOver-beside sig m k first second = record { linked = IsMixture-beside m k first.linked second.linked; types = typed; sites = shaped; states = stated }
  where
    typed : (c : ℕ) (a : Agent) → agent_in (beside m k) c ≡ Some a → a.agent < length sig
    typed c a e = elim (below_or c (length m)) [
      | inl within ↦ first.types c a (sym (agent_in-beside_left m k c within) ∙ e)
      | inr j ↦
          let old = some_map (shift_agent (length m)) (agent_in k j.0) a (sym (agent_in-beside_right m k c j.0 j.1) ∙ e) in
          rw (← old.2) (second.types j.0 old.0 old.1)
    ]

    shaped : (c : ℕ) (a : Agent) → agent_in (beside m k) c ≡ Some a → map (λ (x : AgentSite). x.states) a.sites ≡ state_counts sig a.agent
    shaped c a e = elim (below_or c (length m)) [
      | inl within ↦ first.sites c a (sym (agent_in-beside_left m k c within) ∙ e)
      | inr j ↦
          let old = some_map (shift_agent (length m)) (agent_in k j.0) a (sym (agent_in-beside_right m k c j.0 j.1) ∙ e) in
          rw (← old.2) (shift_keeps_states (length m) old.0.sites ∙ second.sites j.0 old.0 old.1)
    ]

    stated : (c s : ℕ) (x : AgentSite) → site_in (beside m k) c s ≡ Some x → IsAgentSite x
    stated c s x e = elim (below_or c (length m)) [
      | inl within ↦ first.states c s x (sym (site_in-beside_left m k c s within) ∙ e)
      | inr j ↦
          let old = some_map (shift_site (length m)) (site_in k j.0 s) x (sym (site_in-beside_right m k c j.0 s j.1) ∙ e) in
          let ok = second.states j.0 s old.0 old.1 in
          subst IsAgentSite old.2 (record { within = ok.within; given = ok.given })
    ]

pub IsMixtureOver-[] : (sig : List TypeEntry) → IsMixtureOver sig []
unfolding partner_in site_in agent_in
IsMixtureOver-[] sig = record {
  linked = record { both_ways = λ c s d t e. absurd cc; apart = λ c s e. absurd cc };
  types = λ c a e. absurd cc;
  sites = λ c a e. absurd cc;
  states = λ c s x e. absurd cc;
}
