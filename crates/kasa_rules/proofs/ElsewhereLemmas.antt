-- What a firing leaves of the cells on which no left node lies.
use Rattle.std.proofs.Common.{◌≡◌, ◌≢◌, ℕ, ◌<◌, ◌⊎◌, inl, inr, List, length, refl, ap, ◌∙◌, Bool, true, false}
use Rattle.std.specs.Prelude.{Option, Some, None, option_map, option_and_then}
use Rattle.kasa_graph.specs.declared.mixture.Agent.{Agent}
use Rattle.kasa_graph.specs.declared.mixture.AgentSite.{AgentSite}
use Rattle.kasa_graph.specs.Mixture.{type_in, site_in, state_in, partner_in}
use Rattle.kasa_rules.specs.declared.rule.Fate.TheVariants.{Deleted}
use Rattle.kasa_rules.specs.Rule.{RuleParts}
use Rattle.kasa_rules.specs.Firing.{fire, node_on, fate_on, state_on, link_on, touched_on, kept_partner, unless, site_after, IsElsewhere, KeepsPartner}
use Rattle.kasa_rules.proofs.FiringLemmas.{node_on-found}
use Rattle.kasa_rules.proofs.FiredLemmas.{type_in-fire_stays, site_in-fire_old}

module _ (r : RuleParts) (cells : List ℕ) (m : List (Option Agent)) (c : ℕ) (within : c < length m) (elsewhere : IsElsewhere cells c) where
  nothing_on : node_on cells c ≡ None
  nothing_on = by (node_on cells c) refl
    where
      by : (o : Option ℕ) → node_on cells c ≡ o → o ≡ None
      by None e = refl
      by (Some n) e = absurd (elsewhere n (node_on-found cells c n e))

  stays : fate_on r cells c ≢ Some Deleted
  stays gone = let none : fate_on r cells c ≡ None = rw nothing_on refl in cc

  pub type_in-elsewhere : type_in (fire r cells m) c ≡ type_in m c
  type_in-elsewhere = type_in-fire_stays r cells m c within stays

  pub state_in-elsewhere : (s : ℕ) → state_in (fire r cells m) c s ≡ state_in m c s
  unfolding state_in
  state_in-elsewhere s = ap (option_and_then (λ (x : AgentSite). x.state)) (site_in-fire_old r cells m c s within stays) ∙ by (site_in m c s)
    where
      none : state_on r cells c s ≡ None
      none = rw nothing_on refl

      by : (o : Option AgentSite) → option_and_then (λ (x : AgentSite). x.state) (option_map (site_after r cells (length m) c s) o) ≡ option_and_then (λ (x : AgentSite). x.state) o
      by None = refl
      by (Some x) = rw none refl

  pub partner_in-elsewhere : (s : ℕ) → KeepsPartner r cells (partner_in m c s) (partner_in (fire r cells m) c s)
  unfolding partner_in
  partner_in-elsewhere s = rw (site_in-fire_old r cells m c s within stays) (by (site_in m c s))
    where
      none : link_on r cells c s ≡ None
      none = rw nothing_on refl

      tested : (p : ℕ × ℕ) (b : Bool) → touched_on r cells p.0 p.1 ≡ b → (unless b p ≡ Some p) ⊎ ((touched_on r cells p.0 p.1 ≡ true) × (unless b p ≡ None))
      tested p true e = inr (e, refl)
      tested p false e = inl refl

      kept : (o : Option (ℕ × ℕ)) → KeepsPartner r cells o (kept_partner r cells o)
      kept None = refl
      kept (Some p) = tested p (touched_on r cells p.0 p.1) refl

      by : (o : Option AgentSite) → KeepsPartner r cells (option_and_then (λ (x : AgentSite). x.partner) o) (option_and_then (λ (x : AgentSite). x.partner) (option_map (site_after r cells (length m) c s) o))
      by None = refl
      by (Some x) = rw none (kept x.partner)
