-- A firing keeps mixtures valid over the signature, and so does each run of a model.
use Rattle.std.proofs.Common.{◌≡◌, ℕ, zero, suc, ◌<◌, ◌⊎◌, inl, inr, List, [], ◌∷◌, refl, sym, ap, ◌∙◌, length, arith, subst}
use Rattle.std.specs.Prelude.{Option, Some, None, IsSome, slice_get, map, option_map, option_and_then}
use Rattle.std.proofs.lemmas.Option.{slice_get-map, slice_get_within}
use Rattle.kasa_lists.specs.Lists.{map_from}
use Rattle.kasa_graph.specs.declared.pattern.Node.{Node}
use Rattle.kasa_graph.specs.declared.mixture.Agent.{Agent}
use Rattle.kasa_graph.specs.declared.mixture.AgentSite.{AgentSite}
use Rattle.kasa_graph.specs.Signature.{TypeEntry}
use Rattle.kasa_graph.specs.Signature.{state_counts}
use Rattle.kasa_graph.specs.Pattern.{agent_at}
use Rattle.kasa_graph.specs.Mixture.{agent_in, type_in, site_in, IsAgentSite, IsMixtureOver}
use Rattle.kasa_graph.specs.Embedding.{IsEmbedding}
use Rattle.kasa_rules.specs.declared.rule.Fate.{Fate}
use Rattle.kasa_rules.specs.declared.rule.Fate.TheVariants.{Deleted, Kept}
use Rattle.kasa_rules.specs.declared.rule.MadeSite.{MadeSite}
use Rattle.kasa_rules.specs.declared.rule.MadeAgent.{MadeAgent}
use Rattle.kasa_rules.specs.Rule.{RuleParts, written_state, made_type, made_site, IsRuleOver}
use Rattle.kasa_rules.specs.Firing.{fire, fate_on, state_on, node_on, cell_after, agent_after, site_after, made_after, made_site_after, unless_deleted, state_after}
use Rattle.kasa_lists.proofs.Numbers.{below_or}
use Rattle.kasa_lists.proofs.Options.{some_map, some_then}
use Rattle.kasa_lists.proofs.Elements.{some_at}
use Rattle.kasa_lists.proofs.Maps.{slice_get-map_from}
use Rattle.kasa_rules.proofs.FiringLemmas.{slice_get-fire_old, slice_get-fire_new, node_on-found, IsMixture-fire}

states_after : (r : RuleParts) (cells : List ℕ) (first c k : ℕ) (sites : List AgentSite) → map (λ (x : AgentSite). x.states) (map_from k (site_after r cells first c) sites) ≡ map (λ (x : AgentSite). x.states) sites
states_after r cells first c k [] = refl
states_after r cells first c k (x ∷ sites) = ap (λ (ks : List ℕ). x.states ∷ ks) (states_after r cells first c (suc k) sites)

states_made : (cells : List ℕ) (first : ℕ) (sites : List MadeSite) → map (λ (x : AgentSite). x.states) (map (made_site_after cells first) sites) ≡ map (λ (x : MadeSite). x.states) sites
states_made cells first [] = refl
states_made cells first (x ∷ sites) = ap (λ (ks : List ℕ). x.states ∷ ks) (states_made cells first sites)

module _ (r : RuleParts) (cells : List ℕ) (m : List (Option Agent)) where
  -- an agent after the firing was there before, or was created
  agent_in-fire : (c : ℕ) (a : Agent) → agent_in (fire r cells m) c ≡ Some a → ((b : Agent) × (agent_in m c ≡ Some b) × (a ≡ agent_after r cells (length m) c b)) ⊎ ((k : ℕ) × (b : MadeAgent) × (slice_get r.made k ≡ Some b) × (Some a ≡ made_after cells (length m) b))
  unfolding agent_in
  agent_in-fire c a e =
      elim (below_or c (length m)) [
        | inl within ↦
            let cell = some_then (λ (x : Option Agent). x) (slice_get (fire r cells m) c) a e in
            old (slice_get m c) refl (sym (slice_get-fire_old r cells m c within) ∙ cell.1) cell.2
        | inr k ↦
            let cell = some_then (λ (x : Option Agent). x) (slice_get (fire r cells m) c) a e in
            let made = some_map (made_after cells (length m)) (slice_get r.made k.0) cell.0 (sym (slice_get-fire_new r cells m k.0 c k.1) ∙ cell.1) in
            inr (k.0, made.0, made.1, sym cell.2 ∙ sym made.2)
      ]
    where
      by_fate : (fate : Option Fate) (b : Agent) → unless_deleted fate b ≡ Some a → a ≡ b
      by_fate (Some Deleted) b f = absurd cc
      by_fate (Some Kept) b f = cc
      by_fate None b f = cc

      old : {x : Option Agent} (o : Option (Option Agent)) → slice_get m c ≡ o → option_map (cell_after r cells (length m) c) o ≡ Some x → x ≡ Some a → ((b : Agent) × (option_and_then (λ (y : Option Agent). y) (slice_get m c) ≡ Some b) × (a ≡ agent_after r cells (length m) c b)) ⊎ ((k : ℕ) × (b : MadeAgent) × (slice_get r.made k ≡ Some b) × (Some a ≡ made_after cells (length m) b))
      old None f g h = absurd cc
      old (Some None) f g h = absurd cc
      old (Some (Some b)) f g h =
          let is : unless_deleted (fate_on r cells c) (agent_after r cells (length m) c b) ≡ Some a = cc in
          inl (b, rw f refl, by_fate (fate_on r cells c) (agent_after r cells (length m) c b) is)

module _ (sig : List TypeEntry) (r : RuleParts) (cells : List ℕ) (m : List (Option Agent)) (over : IsMixtureOver sig m) (rule : IsRuleOver sig r) (at : IsEmbedding r.left m cells) where
  types_after : (c : ℕ) (a : Agent) → agent_in (fire r cells m) c ≡ Some a → a.agent < length sig
  unfolding made_type
  types_after c a e =
      elim (agent_in-fire r cells m c a e) [
        | inl b ↦ rw b.2 (over.types c b.0 b.1)
        | inr b ↦ let is : a ≡ record { agent = b.1.agent; sites = map (made_site_after cells (length m)) b.1.sites } = cc in rw is (rule.made_types b.0 b.1.agent (rw b.2 refl))
      ]

  sites_after : (c : ℕ) (a : Agent) → agent_in (fire r cells m) c ≡ Some a → map (λ (x : AgentSite). x.states) a.sites ≡ state_counts sig a.agent
  sites_after c a e =
      elim (agent_in-fire r cells m c a e) [
        | inl b ↦ rw b.2 (states_after r cells (length m) c zero b.0.sites ∙ over.sites c b.0 b.1)
        | inr b ↦ let is : a ≡ record { agent = b.1.agent; sites = map (made_site_after cells (length m)) b.1.sites } = cc in rw is (states_made cells (length m) b.1.sites ∙ rule.made_sites b.0 b.1 b.2)
      ]

  -- a written state is one of its site's
  written_within : (c s u : ℕ) (b : Agent) (y : AgentSite) → agent_in m c ≡ Some b → slice_get b.sites s ≡ Some y → state_on r cells c s ≡ Some u → u < y.states
  unfolding agent_at type_in
  written_within c s u b y is here written =
      let on = some_then (λ n. written_state r n s) (node_on cells c) u written in
      let lies = node_on-found cells c on.0 on.1 in
      let left = some_at r.left on.0 (rw (← at.count) (slice_get_within cells on.0 c lies)) in
      let typed : agent_at r.left on.0 ≡ Some left.0.agent = ap (option_map (λ (x : Node). x.agent)) left.1 in
      let same : Some b.agent ≡ Some left.0.agent = sym (ap (option_map (λ (x : Agent). x.agent)) is) ∙ at.types on.0 c left.0.agent lies typed in
      let agent : b.agent ≡ left.0.agent = cc in
      let has = rule.written_states on.0 s u left.0.agent typed on.2 in
      let counted : Some y.states ≡ Some has.0 =
      sym (ap (option_map (λ (x : AgentSite). x.states)) here) ∙ sym (slice_get-map (λ (x : AgentSite). x.states) b.sites s)
      ∙ ap (λ (ks : List ℕ). slice_get ks s) (over.sites c b is) ∙ ap (λ (a : ℕ). slice_get (state_counts sig a) s) agent ∙ has.1 in
      let count : y.states ≡ has.0 = cc in
      rw count has.2

  old_site : (c s : ℕ) (b : Agent) (y : AgentSite) → agent_in m c ≡ Some b → slice_get b.sites s ≡ Some y → IsAgentSite y → (written : Option ℕ) → state_on r cells c s ≡ written → ((u : ℕ) → state_after written y.state ≡ Some u → u < y.states) × (0 < y.states → IsSome (state_after written y.state))
  old_site c s b y is here ok None e = (ok.within, ok.given)
  old_site c s b y is here ok (Some w) e = (λ u f. let same : u ≡ w = cc in rw same (written_within c s w b y is here e), λ h. refl)

  some_is : (o : Option ℕ) → ((u : ℕ) × (o ≡ Some u)) → IsSome o
  some_is o u = rw u.1 refl

  site_valid : (c s : ℕ) (x : AgentSite) → site_in (fire r cells m) c s ≡ Some x → IsAgentSite x
  unfolding site_in made_site
  site_valid c s x e =
      let agent = some_then (λ (a : Agent). slice_get a.sites s) (agent_in (fire r cells m) c) x e in
      elim (agent_in-fire r cells m c agent.0 agent.1) [
        | inl b ↦
            let at_s : slice_get (agent_after r cells (length m) c b.0).sites s ≡ Some x = sym (ap (λ (a : Agent). slice_get a.sites s) b.2) ∙ agent.2 in
            let old = some_map (site_after r cells (length m) c s) (slice_get b.0.sites s) x (sym (slice_get-map_from (site_after r cells (length m) c) b.0.sites zero s s (omega arith)) ∙ at_s) in
            let was : site_in m c s ≡ Some old.0 = ap (λ (o : Option Agent). option_and_then (λ (a : Agent). slice_get a.sites s) o) b.1 ∙ old.1 in
            let both = old_site c s b.0 old.0 b.1 old.1 (over.states c s old.0 was) (state_on r cells c s) refl in
            subst IsAgentSite old.2 (record { within = both.0; given = both.1 })
        | inr b ↦
            let is : agent.0 ≡ record { agent = b.1.agent; sites = map (made_site_after cells (length m)) b.1.sites } = cc in
            let at_s : slice_get (map (made_site_after cells (length m)) b.1.sites) s ≡ Some x = sym (ap (λ (a : Agent). slice_get a.sites s) is) ∙ agent.2 in
            let new = some_map (made_site_after cells (length m)) (slice_get b.1.sites s) x (sym (slice_get-map (made_site_after cells (length m)) b.1.sites s) ∙ at_s) in
            let made : made_site r b.0 s ≡ Some new.0 = ap (λ (o : Option MadeAgent). option_and_then (λ (a : MadeAgent). slice_get a.sites s) o) b.2 ∙ new.1 in
            subst IsAgentSite new.2 (record {
              within = λ u f. rule.is_rule.made_within b.0 s u new.0 made f;
              given = λ h. some_is new.0.state (rule.is_rule.made_given b.0 s new.0 made h);
            })
      ]

  -- a firing keeps a mixture valid over the signature
  pub IsMixtureOver-fire : IsMixtureOver sig (fire r cells m)
  IsMixtureOver-fire = record { linked = IsMixture-fire sig r cells m over rule at; types = types_after; sites = sites_after; states = site_valid }
