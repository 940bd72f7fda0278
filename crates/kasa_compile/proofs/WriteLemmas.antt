-- What a draft has after a write.
use Rattle.std.proofs.Common.{◌≡◌, ◌≢◌, ℕ, ◌<◌, List, length, refl, ap, ◌∙◌}
use Rattle.std.specs.Prelude.{Option, Some, None, IsSome, slice_get, option_map, option_and_then}
use Rattle.std.specs.Option.{option_map_or}
use Rattle.kasa_graph.specs.Lists.{update}
use Rattle.kasa_graph.specs.Signature.{TypeEntry, state_counts}
use Rattle.kasa_graph.proofs.ListLemmas.{some_at, some_map, length-update}
use Rattle.kasa_graph.proofs.ListUpdates.{option_map-update, at_both-change_same, at_both-change_other, then-change}
use Rattle.kasa_graph.proofs.SiteLemmas.{HasSite-over, type_of_node_site}
use Rattle.kasa_rules.specs.declared.rule.Fate.TheVariants.{Kept}
use Rattle.kasa_rules.specs.declared.rule.End.{End}
use Rattle.kasa_rules.specs.declared.rule.End.TheVariants.{Left, Made}
use Rattle.kasa_rules.specs.declared.rule.Written.{Written}
use Rattle.kasa_rules.specs.declared.rule.Written.TheVariants.{Free}
use Rattle.kasa_rules.specs.declared.rule.SiteAction.{SiteAction}
use Rattle.kasa_rules.specs.declared.rule.NodeAction.{NodeAction}
use Rattle.kasa_rules.specs.declared.rule.MadeSite.{MadeSite}
use Rattle.kasa_rules.specs.declared.rule.MadeAgent.{MadeAgent}
use Rattle.kasa_rules.specs.Rule.{RuleParts, fate_at, action_at, written_state, made_type, made_site, made_state, made_link, end_link, IsDraftOver}
use Rattle.kasa_rules.specs.Draft.{with_written_state, with_written_link, HasEndSite, HasListed, IsOpen}
use Rattle.kasa_rules.proofs.DraftLemmas.{written_state-link}
use Rattle.kasa_compile.specs.Building.{state_now}

-- ---- the site of an end is listed

pub HasListed-over : (sig : List TypeEntry) (r : RuleParts) (e : End) (s : ℕ) → IsDraftOver sig r → HasEndSite r e s → HasListed r.actions r.made e s
unfolding made_site fate_at
HasListed-over sig r (Made j) s over has = has
HasListed-over sig r (Left n) s over has =
    let action = some_map (λ (x : NodeAction). x.fate) (slice_get r.actions n) Kept has.0 in
    let typed = type_of_node_site r.left n s has.1 in
    let count : length action.0.sites ≡ length (state_counts sig typed.0) = over.action_sites n typed.0 action.0 action.1 typed.1 in
    let within : s < length (state_counts sig typed.0) = HasSite-over sig r.left over.left n typed.0 s typed.1 has.1 in
    let site = some_at action.0.sites s (rw count within) in
    rw (action.1, site.1) refl

-- ---- states

pub state_now-link : (r : RuleParts) (e f : End) (s t : ℕ) (w : Written) → state_now (with_written_link r e s w) f t ≡ state_now r f t
unfolding made_state made_site with_written_link
state_now-link r e (Left n) s t w = written_state-link r e s w n t
state_now-link r (Left m) (Made j) s t w = refl
state_now-link r (Made k) (Made j) s t w = then-change (λ (x : MadeAgent). x.sites) (λ x ys. record x { sites = ys }) (λ _ _. refl) (λ (x : MadeSite). x.state) (λ x. record x { link = w }) (λ _. refl) r.made k s j t

state_put : (o : Option SiteAction) (u : ℕ) → IsSome o → option_and_then (λ (x : SiteAction). x.state) (option_map (λ (x : SiteAction). record x { state = Some u }) o) ≡ Some u
state_put None u some = absurd cc
state_put (Some x) u some = refl

made_put : (o : Option MadeSite) (u : ℕ) → IsSome o → option_and_then (λ (x : MadeSite). x.state) (option_map (λ (x : MadeSite). record x { state = Some u }) o) ≡ Some u
made_put None u some = absurd cc
made_put (Some x) u some = refl

pub state_now-state_same : (r : RuleParts) (e : End) (s u : ℕ) → HasListed r.actions r.made e s → state_now (with_written_state r e s u) e s ≡ Some u
unfolding written_state action_at made_state made_site with_written_state
state_now-state_same r (Left n) s u has = rw (at_both-change_same (λ (x : NodeAction). x.sites) (λ x ys. record x { sites = ys }) (λ _ _. refl) r.actions n s (λ x. record x { state = Some u })) (state_put _ u has)
state_now-state_same r (Made n) s u has = rw (at_both-change_same (λ (x : MadeAgent). x.sites) (λ x ys. record x { sites = ys }) (λ _ _. refl) r.made n s (λ x. record x { state = Some u })) (made_put _ u has)

pub state_now-state_other : (r : RuleParts) (e f : End) (s t u : ℕ) → (e ≡ f → s ≢ t) → state_now (with_written_state r e s u) f t ≡ state_now r f t
unfolding written_state action_at made_state made_site with_written_state
state_now-state_other r (Left n) (Left k) s t u ne = ap (option_and_then (λ (x : SiteAction). x.state)) (at_both-change_other (λ (x : NodeAction). x.sites) (λ x ys. record x { sites = ys }) (λ _ _. refl) r.actions n s k t (λ x. record x { state = Some u }) (λ e. ne (ap Left e)))
state_now-state_other r (Left n) (Made k) s t u ne = refl
state_now-state_other r (Made n) (Left k) s t u ne = refl
state_now-state_other r (Made n) (Made k) s t u ne = ap (option_and_then (λ (x : MadeSite). x.state)) (at_both-change_other (λ (x : MadeAgent). x.sites) (λ x ys. record x { sites = ys }) (λ _ _. refl) r.made n s k t (λ x. record x { state = Some u }) (λ e. ne (ap Made e)))

-- ---- what no write changes

pub name-link : (r : RuleParts) (e : End) (s : ℕ) (w : Written) → (with_written_link r e s w).name ≡ r.name
unfolding with_written_link
name-link r e s w = refl

pub left-link : (r : RuleParts) (e : End) (s : ℕ) (w : Written) → (with_written_link r e s w).left ≡ r.left
unfolding with_written_link
left-link r e s w = refl

pub count-link : (r : RuleParts) (e : End) (s : ℕ) (w : Written) → length (with_written_link r e s w).made ≡ length r.made
unfolding with_written_link
count-link r (Left n) s w = refl
count-link r (Made j) s w = length-update r.made j (λ x. record x { sites = update x.sites s (λ y. record y { link = w }) })

pub made_type-link : (r : RuleParts) (e : End) (s : ℕ) (w : Written) (j : ℕ) → made_type (with_written_link r e s w) j ≡ made_type r j
unfolding made_type with_written_link
made_type-link r (Left n) s w j = refl
made_type-link r (Made k) s w j = option_map-update (λ x. record x { sites = update x.sites s (λ y. record y { link = w }) }) (λ (x : MadeAgent). x.agent) (λ _. refl) r.made k j

pub name-state : (r : RuleParts) (e : End) (s u : ℕ) → (with_written_state r e s u).name ≡ r.name
unfolding with_written_state
name-state r e s u = refl

pub count-state : (r : RuleParts) (e : End) (s u : ℕ) → length (with_written_state r e s u).made ≡ length r.made
unfolding with_written_state
count-state r (Left n) s u = refl
count-state r (Made j) s u = length-update r.made j (λ x. record x { sites = update x.sites s (λ y. record y { state = Some u }) })

pub made_type-state : (r : RuleParts) (e : End) (s u j : ℕ) → made_type (with_written_state r e s u) j ≡ made_type r j
unfolding made_type with_written_state
made_type-state r (Left n) s u j = refl
made_type-state r (Made k) s u j = option_map-update (λ x. record x { sites = update x.sites s (λ y. record y { state = Some u }) }) (λ (x : MadeAgent). x.agent) (λ _. refl) r.made k j

-- ---- open ends, by the link that stands there

pub end_link-made_open : (r : RuleParts) (j s : ℕ) → HasListed r.actions r.made (Made j) s → IsOpen r (Made j) s → end_link r (Made j) s ≡ Some Free
unfolding made_link made_site
end_link-made_open r j s has open' = by_site (option_and_then (λ (x : MadeAgent). slice_get x.sites s) (slice_get r.made j)) has open'
  where
    by_site : (o : Option MadeSite) → IsSome o → option_map_or (λ (x : MadeSite). x.link) o Free ≡ Free → option_map (λ (x : MadeSite). x.link) o ≡ Some Free
    by_site None some e = absurd cc
    by_site (Some x) some e = ap Some e

-- an end stays open while its link stays
pub IsOpen-same : (r h : RuleParts) (e : End) (s : ℕ) → end_link h e s ≡ end_link r e s → IsOpen r e s → IsOpen h e s
unfolding made_link
IsOpen-same r h (Left n) s same open' = same ∙ open'
IsOpen-same r h (Made j) s same open' = by_sites (made_site r j s) (made_site h j s) same open'
  where
    by_sites : (o p : Option MadeSite) → option_map (λ (x : MadeSite). x.link) p ≡ option_map (λ (x : MadeSite). x.link) o → option_map_or (λ (x : MadeSite). x.link) o Free ≡ Free → option_map_or (λ (x : MadeSite). x.link) p Free ≡ Free
    by_sites None None e f = refl
    by_sites None (Some y) e f = absurd cc
    by_sites (Some x) None e f = refl
    by_sites (Some x) (Some y) e f = let same : y.link ≡ x.link = cc in same ∙ f
