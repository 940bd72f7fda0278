-- What a created agent shows.
use Rattle.std.proofs.Common.{◌≡◌, ℕ, zero, suc, List, refl, sym, ap, ◌∙◌, length, map, arith, Option, Some, None}
use Rattle.std.specs.Prelude.{slice_get, option_map, option_and_then}
use Rattle.std.proofs.lemmas.List.{length-map}
use Rattle.std.proofs.lemmas.Option.{slice_get-map}
use Rattle.kasa_graph.specs.Signature.{TypeEntry, state_counts, HasSite}
use Rattle.kasa_graph.specs.Embedding.{MeetsState}
use Rattle.kasa_graph.proofs.ListLemmas.{some_at, some_map}
use Rattle.kasa_rules.specs.declared.rule.MadeSite.{MadeSite}
use Rattle.kasa_rules.specs.declared.rule.MadeAgent.{MadeAgent}
use Rattle.kasa_rules.specs.Rule.{RuleParts, IsRuleOver, made_type, made_state, made_site}
use Rattle.kasa_families.specs.Local.{IsLocalState, local_state_test}
use Rattle.kasa_columns.specs.Comes.{state_after}
use Rattle.kasa_columns.proofs.SiteLemmas.{shown_state}

module _ (sig : List TypeEntry) (r : RuleParts) (rule : IsRuleOver sig r) (k a : ℕ) (made : made_type r k ≡ Some a) where
  -- a created site has a state where its type's has states
  made_at : (s : ℕ) → HasSite sig a s → (x : MadeSite) × (made_site r k s ≡ Some x) × (slice_get (state_counts sig a) s ≡ Some x.states) × (made_state r k s ≡ x.state)
  unfolding made_type made_site made_state
  made_at s has =
      let agent = some_map (λ (x : MadeAgent). x.agent) (slice_get r.made k) a made in
      let counts : map (λ (x : MadeSite). x.states) agent.0.sites ≡ state_counts sig a = rule.made_sites k agent.0 agent.1 ∙ ap (state_counts sig) agent.2 in
      let long : length agent.0.sites ≡ length (state_counts sig a) = sym (length-map agent.0.sites (λ (x : MadeSite). x.states)) ∙ ap length counts in
      let site = some_at agent.0.sites s (rw long has) in (
        site.0,
        ap (option_and_then (λ (x : MadeAgent). slice_get x.sites s)) agent.1 ∙ site.1,
        ap (λ (xs : List ℕ). slice_get xs s) (sym counts) ∙ slice_get-map (λ (x : MadeSite). x.states) agent.0.sites s ∙ ap (option_map (λ (x : MadeSite). x.states)) site.1,
        ap (option_and_then (λ (x : MadeSite). x.state)) (ap (option_and_then (λ (x : MadeAgent). slice_get x.sites s)) agent.1 ∙ site.1),
      )

  pub state_of_made : (s : ℕ) (l : Option ℕ) → HasSite sig a s → IsLocalState (slice_get (state_counts sig a) s) l → MeetsState (made_state r k s) (local_state_test l) → l ≡ state_after (made_state r k s) None
  state_of_made s l has is met = let x = made_at s has in by x.0 x.1 x.2 (made_state r k s) x.3 met
    where
      by : (x : MadeSite) → made_site r k s ≡ Some x → slice_get (state_counts sig a) s ≡ Some x.states → (w : Option ℕ) → w ≡ x.state → MeetsState w (local_state_test l) → l ≡ state_after w None
      by x at count (Some u) e met = shown_state (slice_get (state_counts sig a) s) u l (x.states, count, rule.is_rule.made_within k s u x at (sym e)) is met
      by x at count None e met = by_count x.states refl
        where
          by_count : (n : ℕ) → x.states ≡ n → l ≡ None
          by_count zero z = rw (count, z) at is
          by_count (suc n) z = let given = rule.is_rule.made_given k s x at (rw z (omega arith)) in absurd (let f : None ≡ Some given.0 = e ∙ given.1 in cc)
