-- A complex that is read as its agents say is theirs.
use Rattle.std.proofs.Common.{◌≡◌, ℕ, List, length, map, refl, sym, ap, ◌∙◌}
use Rattle.std.specs.Prelude.{Option, Some, None, slice_get, option_and_then}
use Rattle.std.proofs.lemmas.List.{length-map}
use Rattle.kasa_graph.specs.declared.mixture.Agent.{Agent}
use Rattle.kasa_graph.specs.declared.mixture.AgentSite.{AgentSite}
use Rattle.kasa_graph.specs.Signature.{TypeEntry, state_counts}
use Rattle.kasa_graph.specs.Mixture.{agent_in, type_in, site_in, state_in, partner_in, IsMixtureOver}
use Rattle.kasa_lists.proofs.Maps.{length-map_from}
use Rattle.kasa_compile.specs.declared.said.AgentSaid.{AgentSaid}
use Rattle.kasa_compile.specs.Bonds.{said_at}
use Rattle.kasa_compile.specs.Complex.{state_given, partner_given, site_given, cell_of, complex_of}
use Rattle.kasa_compile.proofs.PlaceLemmas.{by_places, number_at}

-- what is read of each cell and its sites
pub record IsComplexOf (sig : List TypeEntry) (agents : List AgentSaid) (m : List (Option Agent)) : Type 0 where
  pub over : IsMixtureOver sig m
  pub cells : length m ≡ length agents
  pub types : (c : ℕ) (a : AgentSaid) → slice_get agents c ≡ Some a → type_in m c ≡ Some a.agent
  pub states : (c s : ℕ) (a : AgentSaid) → slice_get agents c ≡ Some a → state_in m c s ≡ option_and_then (state_given (said_at a.sites s)) (slice_get (state_counts sig a.agent) s)
  pub partners : (c s : ℕ) (a : AgentSaid) → slice_get agents c ≡ Some a → partner_in m c s ≡ partner_given agents c (said_at a.sites s)

module _ (sig : List TypeEntry) (agents : List AgentSaid) (m : List (Option Agent)) (is : IsComplexOf sig agents m) where
  module _ (c : ℕ) (a : AgentSaid) (b : Agent) (at : slice_get agents c ≡ Some a) (there : slice_get m c ≡ Some (Some b)) where
    living : agent_in m c ≡ Some b
    unfolding agent_in
    living = rw there refl

    typed : b.agent ≡ a.agent
    unfolding type_in
    typed = let read : type_in m c ≡ Some b.agent = rw living refl in let e = sym read ∙ is.types c a at in cc

    counted : map (λ (y : AgentSite). y.states) b.sites ≡ state_counts sig a.agent
    counted = is.over.sites c b living ∙ ap (state_counts sig) typed

    site_is : (s k : ℕ) (y : AgentSite) → slice_get (state_counts sig a.agent) s ≡ Some k → slice_get b.sites s ≡ Some y → y ≡ site_given agents c a s k
    unfolding state_in partner_in site_in
    site_is s k y known here =
        let states : y.states ≡ k = number_at (λ (z : AgentSite). z.states) b.sites (state_counts sig a.agent) s k y counted here known in
        let state : y.state ≡ state_given (said_at a.sites s) k =
        (let read : state_in m c s ≡ y.state = rw (living, here) refl in sym read ∙ is.states c s a at ∙ ap (option_and_then (state_given (said_at a.sites s))) known) in
        let partner : y.partner ≡ partner_given agents c (said_at a.sites s) =
        (let read : partner_in m c s ≡ y.partner = rw (living, here) refl in sym read ∙ is.partners c s a at) in
        λ i. record { states = states i; state = state i; partner = partner i }

    agent_is : Some b ≡ cell_of sig agents c a
    agent_is =
        let long : length b.sites ≡ length (state_counts sig a.agent) = sym (length-map b.sites (λ (y : AgentSite). y.states)) ∙ ap length counted in
        let sites = by_places (site_given agents c a) (state_counts sig a.agent) b.sites long site_is in
        λ i. Some (record { agent = typed i; sites = sites i })

  cell_is : (c : ℕ) (a : AgentSaid) (o : Option Agent) → slice_get agents c ≡ Some a → slice_get m c ≡ Some o → o ≡ cell_of sig agents c a
  unfolding type_in agent_in
  cell_is c a None at there = absurd (let none : type_in m c ≡ None = rw there refl in let e = sym none ∙ is.types c a at in cc)
  cell_is c a (Some b) at there = agent_is c a b at there

  pub complex_is : m ≡ complex_of sig agents
  unfolding complex_of
  complex_is = by_places (cell_of sig agents) agents m is.cells cell_is

pub length-complex : (sig : List TypeEntry) (agents : List AgentSaid) → length (complex_of sig agents) ≡ length agents
unfolding complex_of
length-complex sig agents = length-map_from (cell_of sig agents) agents 0
