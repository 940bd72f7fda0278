-- A complex without its bonds, agent by agent and site by site.
use Rattle.std.proofs.Common.{◌≡◌, ◌≢◌, ℕ, zero, suc, ◌+◌, ◌<◌, ◌≤◌, List, [], ◌∷◌, ◌++◌, length, map, take, refl, sym, ap, ◌∙◌, ◌⊎◌, inl, inr, arith, length-append}
use Rattle.std.specs.Prelude.{Option, Some, None, slice_get, option_map, option_and_then}
use Rattle.std.proofs.lemmas.Option.{slice_get_within}
use Rattle.std.proofs.lemmas.List.{take_all}
use Rattle.kasa_graph.proofs.TextLemmas.{take-next}
use Rattle.kasa_graph.specs.declared.mixture.Agent.{Agent}
use Rattle.kasa_graph.specs.declared.mixture.AgentSite.{AgentSite}
use Rattle.kasa_graph.specs.declared.pattern.StateTest.{StateTest}
use Rattle.kasa_graph.specs.declared.pattern.StateTest.TheVariants.{Any, Is}
use Rattle.kasa_graph.specs.Signature.{TypeEntry, state_counts}
use Rattle.kasa_graph.specs.Mixture.{agent_in, type_in, site_in, state_in, partner_in, HasAgentSite, first_state, first_site, first_agent, with_agent_state}
use Rattle.kasa_graph.proofs.ListLemmas.{same_or_not, some_at, slice_get-append_left, slice_get-append_right}
use Rattle.kasa_graph.proofs.NewNameLemmas.{at_push}
use Rattle.kasa_graph.proofs.BesideLemmas.{IsMixtureOver-[]}
use Rattle.kasa_graph.proofs.CellLemmas.{partner_in-push, partner_in-with_agent_state, length-with_agent_state}
use Rattle.kasa_graph.proofs.MixtureOverLemmas.{IsMixtureOver-add, HasAgentSite-of_type}
use Rattle.kasa_compile.specs.declared.said.SiteSaid.{SiteSaid}
use Rattle.kasa_compile.specs.declared.said.AgentSaid.{AgentSaid}
use Rattle.kasa_compile.specs.Bonds.{said_at}
use Rattle.kasa_compile.specs.Complex.{given_or_first, state_given}
use Rattle.kasa_compile.specs.Valid.{IsSiteSaid, AreSaid}
use Rattle.kasa_compile.specs.Cells.{with_given, AreUnjoined}
use Rattle.kasa_compile.proofs.SaidAtLemmas.{said_at-before, said_at-push_same, said_at-push_other}
use Rattle.kasa_compile.proofs.StateLemmas.{type_in-with_agent_state, state_in-with_agent_state_same, state_in-with_agent_state_other, IsMixtureOver-with_agent_state}

pub AreUnjoined-[] : (sig : List TypeEntry) → AreUnjoined sig [] []
unfolding partner_in site_in agent_in
AreUnjoined-[] sig = record { over = IsMixtureOver-[] sig; cells = refl; types = λ c a at. absurd cc; states = λ c s a at. absurd cc; free = λ c s. none c s }
  where
    none : (c s : ℕ) → partner_in [] c s ≡ None
    none zero s = refl
    none (suc c) s = refl

-- an agent with some of its sites
abbrev pub with_sites : AgentSaid → List SiteSaid → AgentSaid
with_sites a sites = record a { sites = sites }

-- ---- a new agent

module _ (m : List (Option Agent)) (new : Agent) where
  agent_in-old : (c : ℕ) → c < length m → agent_in (m ++ Some new ∷ []) c ≡ agent_in m c
  unfolding agent_in
  agent_in-old c within = ap (λ (o : Option (Option Agent)). option_and_then (λ cell. cell) o) (slice_get-append_left m (Some new ∷ []) c within)

  agent_in-new : agent_in (m ++ Some new ∷ []) (length m) ≡ Some new
  unfolding agent_in
  agent_in-new = ap (λ (o : Option (Option Agent)). option_and_then (λ cell. cell) o) (slice_get-append_right m (Some new ∷ []) 0 (length m) (omega arith))

  type_in-old : (c : ℕ) → c < length m → type_in (m ++ Some new ∷ []) c ≡ type_in m c
  unfolding type_in
  type_in-old c within = ap (option_map (λ (a : Agent). a.agent)) (agent_in-old c within)

  type_in-new : type_in (m ++ Some new ∷ []) (length m) ≡ Some new.agent
  unfolding type_in
  type_in-new = ap (option_map (λ (a : Agent). a.agent)) agent_in-new

  state_in-old : (c s : ℕ) → c < length m → state_in (m ++ Some new ∷ []) c s ≡ state_in m c s
  unfolding state_in site_in
  state_in-old c s within = ap (λ (o : Option Agent). option_and_then (λ (x : AgentSite). x.state) (option_and_then (λ (a : Agent). slice_get a.sites s) o)) (agent_in-old c within)

  state_in-new : (s : ℕ) → state_in (m ++ Some new ∷ []) (length m) s ≡ option_and_then (λ (x : AgentSite). x.state) (slice_get new.sites s)
  unfolding state_in site_in
  state_in-new s = ap (λ (o : Option Agent). option_and_then (λ (x : AgentSite). x.state) (option_and_then (λ (a : Agent). slice_get a.sites s) o)) agent_in-new

first_states : (counts : List ℕ) (s : ℕ) → option_and_then (λ (x : AgentSite). x.state) (slice_get (map first_site counts) s) ≡ option_and_then first_state (slice_get counts s)
first_states [] s = refl
first_states (k ∷ counts) zero = refl
first_states (k ∷ counts) (suc s) = first_states counts s

pub AreUnjoined-add : (sig : List TypeEntry) (agents : List AgentSaid) (m : List (Option Agent)) (a : AgentSaid) → AreUnjoined sig agents m → a.agent < length sig → AreUnjoined sig (agents ++ with_sites a [] ∷ []) (m ++ Some (first_agent sig a.agent) ∷ [])
unfolding first_agent
AreUnjoined-add sig agents m a old known = record {
  over = IsMixtureOver-add sig a.agent m old.over known;
  cells = length-append m (Some new ∷ []) ∙ ap (λ n. n + 1) old.cells ∙ sym (length-append agents (with_sites a [] ∷ []));
  types = λ c b at. type c b (at_push agents (with_sites a []) b c at);
  states = λ c s b at. state c s b (at_push agents (with_sites a []) b c at);
  free = λ c s. partner_in-push sig a.agent m c s ∙ old.free c s;
}
  where
    new : Agent
    new = first_agent sig a.agent

    type : (c : ℕ) (b : AgentSaid) → (slice_get agents c ≡ Some b) ⊎ ((c ≡ length agents) × (with_sites a [] ≡ b)) → type_in (m ++ Some new ∷ []) c ≡ Some b.agent
    type c b (inl at) = type_in-old m new c (let within = slice_get_within agents c b at in let count = old.cells in omega arith) ∙ old.types c b at
    type c b (inr e) = rw (e.0, ← old.cells, ← e.1) (type_in-new m new)

    state : (c s : ℕ) (b : AgentSaid) → (slice_get agents c ≡ Some b) ⊎ ((c ≡ length agents) × (with_sites a [] ≡ b)) → state_in (m ++ Some new ∷ []) c s ≡ option_and_then (state_given (said_at b.sites s)) (slice_get (state_counts sig b.agent) s)
    state c s b (inl at) = state_in-old m new c s (let within = slice_get_within agents c b at in let count = old.cells in omega arith) ∙ old.states c s b at
    state c s b (inr e) = rw (e.0, ← old.cells, ← e.1) (state_in-new m new s ∙ first_states (state_counts sig a.agent) s)

-- ---- a site of the last agent

module _ (sig : List TypeEntry) (agents : List AgentSaid) (m : List (Option Agent)) (a : AgentSaid) (done : List SiteSaid) (x : SiteSaid) (known : IsSiteSaid sig a.agent x) (none : said_at done x.site ≡ None) (old : AreUnjoined sig (agents ++ with_sites a done ∷ []) m) where
  last : slice_get (agents ++ with_sites a done ∷ []) (length agents) ≡ Some (with_sites a done)
  last = slice_get-append_right agents (with_sites a done ∷ []) 0 (length agents) (omega arith)

  counts : length m ≡ length (agents ++ with_sites a (done ++ x ∷ []) ∷ [])
  counts = old.cells ∙ length-append agents (with_sites a done ∷ []) ∙ sym (length-append agents (with_sites a (done ++ x ∷ []) ∷ []))

  pub HasAgentSite-last : HasAgentSite m (length agents) x.site
  HasAgentSite-last = HasAgentSite-of_type sig m (length agents) a.agent x.site old.over (old.types (length agents) (with_sites a done) last) known.known

  -- an agent before the last one
  before : (c : ℕ) (b : AgentSaid) → slice_get agents c ≡ Some b → slice_get (agents ++ with_sites a done ∷ []) c ≡ Some b
  before c b at = slice_get-append_left agents (with_sites a done ∷ []) c (slice_get_within agents c b at) ∙ at

  -- where no state is given, all states stay
  left_open : (s : ℕ) → ((k : ℕ) → given_or_first x.state k ≡ first_state k) → (k : ℕ) → state_given (said_at (done ++ x ∷ []) s) k ≡ state_given (said_at done s) k
  left_open s unset k = elim (same_or_not x.site s) [
    | inl e ↦ rw (← e, said_at-push_same done x none, none) (unset k)
    | inr ne ↦ ap (λ (o : Option SiteSaid). state_given o k) (said_at-push_other done x s ne)
  ]

  kept : ((k : ℕ) → given_or_first x.state k ≡ first_state k) → AreUnjoined sig (agents ++ with_sites a (done ++ x ∷ []) ∷ []) m
  kept unset = record {
    over = old.over;
    cells = counts;
    types = λ c b at. type c b (at_push agents (with_sites a (done ++ x ∷ [])) b c at);
    states = λ c s b at. state c s b (at_push agents (with_sites a (done ++ x ∷ [])) b c at);
    free = old.free;
  }
    where
      type : (c : ℕ) (b : AgentSaid) → (slice_get agents c ≡ Some b) ⊎ ((c ≡ length agents) × (with_sites a (done ++ x ∷ []) ≡ b)) → type_in m c ≡ Some b.agent
      type c b (inl at) = old.types c b (before c b at)
      type c b (inr e) = rw (e.0, ← e.1) (old.types (length agents) (with_sites a done) last)

      same_then : (f h : ℕ → Option ℕ) → ((k : ℕ) → f k ≡ h k) → (o : Option ℕ) → option_and_then f o ≡ option_and_then h o
      same_then f h same None = refl
      same_then f h same (Some k) = same k

      state : (c s : ℕ) (b : AgentSaid) → (slice_get agents c ≡ Some b) ⊎ ((c ≡ length agents) × (with_sites a (done ++ x ∷ []) ≡ b)) → state_in m c s ≡ option_and_then (state_given (said_at b.sites s)) (slice_get (state_counts sig b.agent) s)
      state c s b (inl at) = old.states c s b (before c b at)
      state c s b (inr e) =
          rw (e.0, ← e.1) (old.states (length agents) s (with_sites a done) last ∙ sym (same_then (state_given (said_at (done ++ x ∷ []) s)) (state_given (said_at done s)) (left_open s unset) (slice_get (state_counts sig a.agent) s)))

  set : (u : ℕ) → x.state ≡ Some (Is u) → AreUnjoined sig (agents ++ with_sites a (done ++ x ∷ []) ∷ []) (with_agent_state m (length agents) x.site u)
  set u given = record {
    over = IsMixtureOver-with_agent_state sig m (length agents) x.site u a.agent old.over (old.types (length agents) (with_sites a done) last) (known.state u given);
    cells = length-with_agent_state m (length agents) x.site u ∙ counts;
    types = λ c b at. type_in-with_agent_state m (length agents) x.site u c ∙ type c b (at_push agents (with_sites a (done ++ x ∷ [])) b c at);
    states = λ c s b at. state c s b (at_push agents (with_sites a (done ++ x ∷ [])) b c at);
    free = λ c s. partner_in-with_agent_state m (length agents) x.site u c s ∙ old.free c s;
  }
    where
      type : (c : ℕ) (b : AgentSaid) → (slice_get agents c ≡ Some b) ⊎ ((c ≡ length agents) × (with_sites a (done ++ x ∷ []) ≡ b)) → type_in m c ≡ Some b.agent
      type c b (inl at) = old.types c b (before c b at)
      type c b (inr e) = rw (e.0, ← e.1) (old.types (length agents) (with_sites a done) last)

      here : option_and_then (state_given (Some x)) (slice_get (state_counts sig a.agent) x.site) ≡ Some u
      here = let count = some_at (state_counts sig a.agent) x.site known.known in rw (count.1, given) refl

      at_last : (s : ℕ) → (x.site ≡ s) ⊎ (x.site ≢ s) → state_in (with_agent_state m (length agents) x.site u) (length agents) s ≡ option_and_then (state_given (said_at (done ++ x ∷ []) s)) (slice_get (state_counts sig a.agent) s)
      at_last s (inl e) = rw (← e, said_at-push_same done x none) (state_in-with_agent_state_same m (length agents) x.site u HasAgentSite-last ∙ sym here)
      at_last s (inr ne) = rw (said_at-push_other done x s ne) (state_in-with_agent_state_other m (length agents) x.site u (length agents) s (λ _. ne) ∙ old.states (length agents) s (with_sites a done) last)

      state : (c s : ℕ) (b : AgentSaid) → (slice_get agents c ≡ Some b) ⊎ ((c ≡ length agents) × (with_sites a (done ++ x ∷ []) ≡ b)) → state_in (with_agent_state m (length agents) x.site u) c s ≡ option_and_then (state_given (said_at b.sites s)) (slice_get (state_counts sig b.agent) s)
      state c s b (inl at) =
          state_in-with_agent_state_other m (length agents) x.site u c s (λ same. absurd (let within = slice_get_within agents c b at in omega arith)) ∙ old.states c s b (before c b at)
      state c s b (inr e) = rw (e.0, ← e.1) (at_last s (same_or_not x.site s))

  pub AreUnjoined-site : AreUnjoined sig (agents ++ with_sites a (done ++ x ∷ []) ∷ []) (with_given m (length agents) x.site x.state)
  AreUnjoined-site = by x.state refl
    where
      by : (test : Option StateTest) → x.state ≡ test → AreUnjoined sig (agents ++ with_sites a (done ++ x ∷ []) ∷ []) (with_given m (length agents) x.site test)
      by None e = kept (λ k. rw e refl)
      by (Some Any) e = kept (λ k. rw e refl)
      by (Some (Is u)) e = set u e

-- ---- the loop over the sites of the next agent

module _ (sig : List TypeEntry) (agents : List AgentSaid) (n : ℕ) (m : List (Option Agent)) (a : AgentSaid) (items : List SiteSaid) (said : AreSaid sig agents) (is : slice_get agents n ≡ Some a) where
  pub agent_added : (k : List (Option Agent)) → AreUnjoined sig (take n agents) m → k ≡ m ++ Some (first_agent sig a.agent) ∷ [] → AreUnjoined sig (take n agents ++ with_sites a [] ∷ []) k
  agent_added k old e = rw e (AreUnjoined-add sig (take n agents) m a old (said n a is).known)

  pub agent_set : (i : ℕ) → items ≡ a.sites → length items ≤ i → AreUnjoined sig (take n agents ++ with_sites a (take i items) ∷ []) m → AreUnjoined sig (take (n + 1) agents) m
  agent_set i same end old = rw (take-next agents n a is) (rw (take_all i items end, same) at old)

  module _ (i cell : ℕ) (x : SiteSaid) (same : items ≡ a.sites) (at : slice_get items i ≡ Some x) (here : cell ≡ length (take n agents)) (old : AreUnjoined sig (take n agents ++ with_sites a (take i items) ∷ []) m) where
    known_site : IsSiteSaid sig a.agent x
    known_site = (said n a is).sites i x (rw same at at)

    none_before : said_at (take i items) x.site ≡ None
    none_before = rw same (said_at-before a.sites i x (said n a is).differ (rw same at at))

    pub has_site : HasAgentSite m cell x.site
    has_site = rw here (HasAgentSite-last sig (take n agents) m a (take i items) x known_site none_before old)

    pub site_set : (k : List (Option Agent)) → k ≡ with_given m cell x.site x.state → AreUnjoined sig (take n agents ++ with_sites a (take (i + 1) items) ∷ []) k
    site_set k e = rw (e, here, take-next items i x at) (AreUnjoined-site sig (take n agents) m a (take i items) x known_site none_before old)
