-- What a cell holds after a firing, read off the mixture before and the rule.
use Rattle.std.proofs.Common.{◌≡◌, ◌≢◌, ℕ, zero, ◌+◌, ◌<◌, List, refl, sym, ap, ◌∙◌, length, arith}
use Rattle.std.specs.Prelude.{Option, Some, None, slice_get, option_map, option_and_then}
use Rattle.std.specs.Option.{option_map_or}
use Rattle.std.proofs.lemmas.Option.{slice_get-map}
use Rattle.kasa_graph.specs.declared.mixture.Agent.{Agent}
use Rattle.kasa_graph.specs.declared.mixture.AgentSite.{AgentSite}
use Rattle.kasa_graph.specs.Mixture.{agent_in, type_in, site_in, state_in, partner_in}
pub use Rattle.kasa_graph.proofs.CellLemmas.{has_agent as agent_of_site}
use Rattle.kasa_graph.proofs.CellLemmas.{has_agent}
use Rattle.kasa_graph.proofs.BesideLemmas.{agent_in-within, partner_in-within}
use Rattle.kasa_rules.specs.declared.rule.Fate.{Fate}
use Rattle.kasa_rules.specs.declared.rule.Fate.TheVariants.{Deleted, Kept}
use Rattle.kasa_rules.specs.declared.rule.Written.TheVariants.{Free}
use Rattle.kasa_rules.specs.declared.rule.MadeSite.{MadeSite}
use Rattle.kasa_rules.specs.declared.rule.MadeAgent.{MadeAgent}
use Rattle.kasa_rules.specs.Rule.{RuleParts, made_type, made_site, made_state, made_link}
use Rattle.kasa_rules.specs.Firing.{fire, fate_on, state_on, link_on, cell_after, agent_after, site_after, made_after, made_site_after, unless_deleted, state_after, partner_after, target}
use Rattle.kasa_lists.proofs.Options.{some_map, some_then}
use Rattle.kasa_lists.proofs.Maps.{slice_get-map_from}
use Rattle.kasa_rules.proofs.FiringLemmas.{slice_get-fire_old, slice_get-fire_new, partner_in-fire_new}

-- ---- living cells are cells

pub agent_of_type : (m : List (Option Agent)) (c b : ℕ) → type_in m c ≡ Some b → (a : Agent) × (agent_in m c ≡ Some a) × (a.agent ≡ b)
unfolding type_in
agent_of_type m c b e = some_map (λ (a : Agent). a.agent) (agent_in m c) b e

pub type_within : (m : List (Option Agent)) (c b : ℕ) → type_in m c ≡ Some b → c < length m
type_within m c b e = let a = agent_of_type m c b e in agent_in-within m c a.0 a.1

pub site_of_partner : (m : List (Option Agent)) (c s d t : ℕ) → partner_in m c s ≡ Some (d, t) → (x : AgentSite) × (site_in m c s ≡ Some x) × (x.partner ≡ Some (d, t))
unfolding partner_in
site_of_partner m c s d t e = some_then (λ (x : AgentSite). x.partner) (site_in m c s) (d, t) e

pub partner_within : (m : List (Option Agent)) (c s d t : ℕ) → partner_in m c s ≡ Some (d, t) → c < length m
partner_within m c s d t e = partner_in-within m c s (d, t) e

pub type_of_agent : (m : List (Option Agent)) (c : ℕ) (a : Agent) → agent_in m c ≡ Some a → type_in m c ≡ Some a.agent
unfolding type_in
type_of_agent m c a e = rw e refl

pub type_of_partner : (m : List (Option Agent)) (c s d t : ℕ) → partner_in m c s ≡ Some (d, t) → (b : ℕ) × (type_in m c ≡ Some b)
type_of_partner m c s d t e =
    let x = site_of_partner m c s d t e in
    let a = has_agent m c s x.0 x.1 in
    (a.0.agent, type_of_agent m c a.0 a.1)

-- ---- after a firing

module _ (r : RuleParts) (cells : List ℕ) (m : List (Option Agent)) where
  agent_in-fire_old : (c : ℕ) → c < length m → agent_in (fire r cells m) c ≡ option_and_then (λ (a : Agent). unless_deleted (fate_on r cells c) (agent_after r cells (length m) c a)) (agent_in m c)
  unfolding agent_in
  agent_in-fire_old c within = rw (slice_get-fire_old r cells m c within) (by_cell (slice_get m c))
    where
      by_cell : (o : Option (Option Agent)) → option_and_then (λ (cell : Option Agent). cell) (option_map (cell_after r cells (length m) c) o) ≡ option_and_then (λ (a : Agent). unless_deleted (fate_on r cells c) (agent_after r cells (length m) c a)) (option_and_then (λ (cell : Option Agent). cell) o)
      by_cell None = refl
      by_cell (Some None) = refl
      by_cell (Some (Some a)) = refl

  agent_in-fire_new : (k c : ℕ) → length m + k ≡ c → agent_in (fire r cells m) c ≡ option_and_then (made_after cells (length m)) (slice_get r.made k)
  unfolding agent_in
  agent_in-fire_new k c e = rw (slice_get-fire_new r cells m k c e) (by_made (slice_get r.made k))
    where
      by_made : (o : Option MadeAgent) → option_and_then (λ (cell : Option Agent). cell) (option_map (made_after cells (length m)) o) ≡ option_and_then (made_after cells (length m)) o
      by_made None = refl
      by_made (Some a) = refl

  -- a cell of before that lives afterwards isn't deleted, and has kept its type
  pub type_in-fire_old : (c b : ℕ) → c < length m → type_in (fire r cells m) c ≡ Some b → (type_in m c ≡ Some b) × (fate_on r cells c ≢ Some Deleted)
  unfolding type_in
  type_in-fire_old c b within e =
      let a = agent_of_type (fire r cells m) c b e in
      let old = some_then (λ (a : Agent). unless_deleted (fate_on r cells c) (agent_after r cells (length m) c a)) (agent_in m c) a.0 (sym (agent_in-fire_old c within) ∙ a.1) in
      let kept = by_fate (fate_on r cells c) (agent_after r cells (length m) c old.0) a.0 old.2 in
      (ap (option_map (λ (x : Agent). x.agent)) old.1 ∙ ap (λ (x : Agent). let o : Option ℕ = Some x.agent in o) kept.0 ∙ ap Some a.2, kept.1)
    where
      by_fate : (fate : Option Fate) (x y : Agent) → unless_deleted fate x ≡ Some y → (x ≡ y) × (fate ≢ Some Deleted)
      by_fate (Some Deleted) x y f = absurd cc
      by_fate (Some Kept) x y f = (cc, λ g. cc)
      by_fate None x y f = (cc, λ g. cc)

  -- a cell that isn't deleted keeps its type
  pub type_in-fire_stays : (c : ℕ) → c < length m → fate_on r cells c ≢ Some Deleted → type_in (fire r cells m) c ≡ type_in m c
  unfolding type_in
  type_in-fire_stays c within stays = rw (agent_in-fire_old c within) (by_agent (fate_on r cells c) stays (agent_in m c))
    where
      by_agent : (fate : Option Fate) → fate ≢ Some Deleted → (o : Option Agent) → option_map (λ (a : Agent). a.agent) (option_and_then (λ (a : Agent). unless_deleted fate (agent_after r cells (length m) c a)) o) ≡ option_map (λ (a : Agent). a.agent) o
      by_agent fate ne None = refl
      by_agent (Some Deleted) ne (Some a) = absurd (ne refl)
      by_agent (Some Kept) ne (Some a) = refl
      by_agent None ne (Some a) = refl

  pub site_in-fire_old : (c s : ℕ) → c < length m → fate_on r cells c ≢ Some Deleted → site_in (fire r cells m) c s ≡ option_map (site_after r cells (length m) c s) (site_in m c s)
  unfolding site_in
  site_in-fire_old c s within stays = rw (agent_in-fire_old c within) (by_agent (fate_on r cells c) stays (agent_in m c))
    where
      by_agent : (fate : Option Fate) → fate ≢ Some Deleted → (o : Option Agent) → option_and_then (λ (a : Agent). slice_get a.sites s) (option_and_then (λ (a : Agent). unless_deleted fate (agent_after r cells (length m) c a)) o) ≡ option_map (site_after r cells (length m) c s) (option_and_then (λ (a : Agent). slice_get a.sites s) o)
      by_agent fate ne None = refl
      by_agent (Some Deleted) ne (Some a) = absurd (ne refl)
      by_agent (Some Kept) ne (Some a) = slice_get-map_from (site_after r cells (length m) c) a.sites zero s s (omega arith)
      by_agent None ne (Some a) = slice_get-map_from (site_after r cells (length m) c) a.sites zero s s (omega arith)

  -- the state and the partner at a site of such a cell
  pub state_in-fire_old : (c s : ℕ) (x : AgentSite) → c < length m → fate_on r cells c ≢ Some Deleted → site_in m c s ≡ Some x → state_in (fire r cells m) c s ≡ state_after (state_on r cells c s) x.state
  unfolding state_in
  state_in-fire_old c s x within stays is = rw (site_in-fire_old c s within stays, is) refl

  pub partner_in-fire_kept : (c s : ℕ) (x : AgentSite) → c < length m → fate_on r cells c ≢ Some Deleted → site_in m c s ≡ Some x → partner_in (fire r cells m) c s ≡ partner_after r cells (length m) (link_on r cells c s) x.partner
  unfolding partner_in
  partner_in-fire_kept c s x within stays is = rw (site_in-fire_old c s within stays, is) refl

  -- the type of a created agent, and the state and the partner at its sites
  pub type_in-fire_new : (k c : ℕ) → length m + k ≡ c → type_in (fire r cells m) c ≡ made_type r k
  unfolding type_in made_type
  type_in-fire_new k c e = rw (agent_in-fire_new k c e) (by_made (slice_get r.made k))
    where
      by_made : (o : Option MadeAgent) → option_map (λ (a : Agent). a.agent) (option_and_then (made_after cells (length m)) o) ≡ option_map (λ (a : MadeAgent). a.agent) o
      by_made None = refl
      by_made (Some a) = refl

  pub site_in-fire_new : (k c s : ℕ) → length m + k ≡ c → site_in (fire r cells m) c s ≡ option_map (made_site_after cells (length m)) (made_site r k s)
  unfolding site_in made_site
  site_in-fire_new k c s e = rw (agent_in-fire_new k c e) (by_made (slice_get r.made k))
    where
      by_made : (o : Option MadeAgent) → option_and_then (λ (a : Agent). slice_get a.sites s) (option_and_then (made_after cells (length m)) o) ≡ option_map (made_site_after cells (length m)) (option_and_then (λ (a : MadeAgent). slice_get a.sites s) o)
      by_made None = refl
      by_made (Some a) = slice_get-map (made_site_after cells (length m)) a.sites s

  pub state_in-fire_new : (k c s : ℕ) → length m + k ≡ c → state_in (fire r cells m) c s ≡ made_state r k s
  unfolding state_in made_state
  state_in-fire_new k c s e = rw (site_in-fire_new k c s e) (by_site (made_site r k s))
    where
      by_site : (o : Option MadeSite) → option_and_then (λ (x : AgentSite). x.state) (option_map (made_site_after cells (length m)) o) ≡ option_and_then (λ (x : MadeSite). x.state) o
      by_site None = refl
      by_site (Some x) = refl

  pub partner_in-fire_made : (k c s : ℕ) → length m + k ≡ c → partner_in (fire r cells m) c s ≡ target cells (length m) (made_link r k s)
  unfolding made_link
  partner_in-fire_made k c s e = partner_in-fire_new r cells m k c s e ∙ by_site (made_site r k s)
    where
      by_site : (o : Option MadeSite) → option_and_then (λ (x : MadeSite). target cells (length m) x.link) o ≡ target cells (length m) (option_map_or (λ (x : MadeSite). x.link) o Free)
      by_site None = refl
      by_site (Some x) = refl
