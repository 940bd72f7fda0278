-- What agents say where all their names name something, and no site stands twice.
use Rattle.std.proofs.Common.{◌≡◌, ℕ, zero, suc, true, List, [], ◌∷◌, ◌++◌, map, Option, Some, None, refl, ap, sym, subst, ◌∙◌}
use Rattle.std.specs.Prelude.{slice_get, is_some, unwrap_or, option_map, if◌then◌else◌}
use Rattle.std.specs.List.{flat_map}
use Rattle.std.specs.Option.{option_map_or}
use Rattle.std.proofs.lemmas.List.{append-nil, append_assoc}
use Rattle.std.proofs.lemmas.Option.{slice_get-map}
use Rattle.kasa_graph.specs.Lists.{Has, AllDifferent}
use Rattle.kasa_graph.specs.Signature.{TypeEntry, type_names, site_names, state_names, HasSite, HasState}
use Rattle.kasa_graph.specs.declared.pattern.StateTest.TheVariants.{Is}
use Rattle.kasa_graph.proofs.ListLemmas.{some_map, AllDifferent-[]}
use Rattle.kasa_graph.proofs.NameLemmas.{type_within, HasSite-named, HasState-named}
use Rattle.kasa_graph.proofs.NewNameLemmas.{AllDifferent-push}
use Rattle.kasa_graph.proofs.SignatureLemmas.{map-push}
use Rattle.kasa_syntax.specs.declared.tokens.Span.{Span}
use Rattle.kasa_syntax.specs.declared.agents.StateWord.{StateWord}
use Rattle.kasa_syntax.specs.declared.agents.StateWord.TheVariants as state
use Rattle.kasa_syntax.specs.declared.agents.StateText.{StateText}
use Rattle.kasa_syntax.specs.declared.agents.LinkWord.{LinkWord}
use Rattle.kasa_syntax.specs.declared.agents.LinkWord.TheVariants as link
use Rattle.kasa_syntax.specs.declared.agents.LinkText.{LinkText}
use Rattle.kasa_syntax.specs.declared.agents.SiteText.{SiteText}
use Rattle.kasa_syntax.specs.declared.agents.AgentText.{AgentText}
use Rattle.kasa_sig.specs.Mentions.{word}
use Rattle.kasa_sig.specs.Outcome.{number_of}
use Rattle.kasa_sig.proofs.NumberLemmas.{number_of-at, has_number}
use Rattle.kasa_compile.specs.declared.resolved.Side.{Side}
use Rattle.kasa_compile.specs.declared.resolved.Side.TheVariants.{Left, Right}
use Rattle.kasa_compile.specs.declared.said.LinkSaid.TheVariants as said
use Rattle.kasa_compile.specs.declared.said.SiteSaid.{SiteSaid}
use Rattle.kasa_compile.specs.declared.said.AgentSaid.{AgentSaid}
use Rattle.kasa_compile.specs.Names.{number, type_number, site_number, state_number, if_unknown, if_known, in_braces, in_brackets, unknown_state, unknown_partner_site, unknown_types, unknown_sites, unknown_sites_at, unknown_states, unknown_states_at, names_of, twice_behind, sites_twice}
use Rattle.kasa_compile.specs.Said.{state_said, link_said, state_word, link_word, site_on, agent_on}
use Rattle.kasa_compile.specs.Valid.{IsSiteSaid, IsSaid, AreSaid}
use Rattle.kasa_compile.proofs.PairLemmas.{no_left, no_right}

-- an agent on a side, without opening what it says
abbrev pub plain_agent : Side → List ℕ → List TypeEntry → AgentText → AgentSaid
plain_agent side text sig a = record { «at» = a.name.start; agent = type_number text sig a.name; sites = map (site_on side text sig (type_number text sig a.name)) a.sites }

pub agent_on-plain : (side : Side) (text : List ℕ) (sig : List TypeEntry) (a : AgentText) → agent_on side text sig a ≡ plain_agent side text sig a
unfolding agent_on
agent_on-plain side text sig a = refl

-- ---- each element gives nothing

pub each_none : {X : Type 0} (f : X → List ℕ) (xs : List X) (i : ℕ) (x : X) → flat_map f xs ≡ [] → slice_get xs i ≡ Some x → f x ≡ []
each_none f [] i x e at = absurd (nothing i at)
  where
    nothing : (k : ℕ) → slice_get [] k ≡ Some x → ⊥
    nothing zero h = cc
    nothing (suc k) h = cc
each_none f (y ∷ xs) zero x e at = let h : y ≡ x = cc in subst (λ z. f z ≡ []) h (no_left (f y) (flat_map f xs) e)
each_none f (y ∷ xs) (suc i) x e at = each_none f xs i x (no_right (f y) (flat_map f xs) e) at

-- an element of a map is that of an element
pub mapped_from : {X Y : Type 0} (f : X → Y) (xs : List X) (i : ℕ) (y : Y) → slice_get (map f xs) i ≡ Some y → (x : X) × (slice_get xs i ≡ Some x) × (f x ≡ y)
mapped_from f xs i y at = some_map f (slice_get xs i) y (sym (slice_get-map f xs i) ∙ at)

-- ---- one of two words

pick : {W : Type 0} (told : W → List ℕ) (l : W) (r : Option W) → told l ≡ [] → option_map_or told r [] ≡ [] → told (unwrap_or r l) ≡ []
pick told l None e f = e
pick told l (Some w) e f = f

left_brace : (told : StateWord → List ℕ) (o : Option StateText) (v : StateWord) → in_braces told o ≡ [] → option_map (λ (t : StateText). t.left) o ≡ Some v → told v ≡ []
left_brace told None v e h = absurd cc
left_brace told (Some t) v e h = let f : t.left ≡ v = cc in subst (λ w. told w ≡ []) f (no_left (told t.left) (option_map_or told t.right []) e)

right_brace : (told : StateWord → List ℕ) (o : Option StateText) (v : StateWord) → in_braces told o ≡ [] → option_map (λ (t : StateText). unwrap_or t.right t.left) o ≡ Some v → told v ≡ []
right_brace told None v e h = absurd cc
right_brace told (Some t) v e h =
    let f : unwrap_or t.right t.left ≡ v = cc in
    subst (λ w. told w ≡ []) f (pick told t.left t.right (no_left (told t.left) (option_map_or told t.right []) e) (no_right (told t.left) (option_map_or told t.right []) e))

brace : (side : Side) (told : StateWord → List ℕ) (s : SiteText) (v : StateWord) → in_braces told s.state ≡ [] → state_word side s ≡ Some v → told v ≡ []
brace Left told s v e h = left_brace told s.state v e h
brace Right told s v e h = right_brace told s.state v e h

left_bracket : (told : LinkWord → List ℕ) (o : Option LinkText) (v : LinkWord) → in_brackets told o ≡ [] → option_map (λ (t : LinkText). t.left) o ≡ Some v → told v ≡ []
left_bracket told None v e h = absurd cc
left_bracket told (Some t) v e h = let f : t.left ≡ v = cc in subst (λ w. told w ≡ []) f (no_left (told t.left) (option_map_or told t.right []) e)

right_bracket : (told : LinkWord → List ℕ) (o : Option LinkText) (v : LinkWord) → in_brackets told o ≡ [] → option_map (λ (t : LinkText). unwrap_or t.right t.left) o ≡ Some v → told v ≡ []
right_bracket told None v e h = absurd cc
right_bracket told (Some t) v e h =
    let f : unwrap_or t.right t.left ≡ v = cc in
    subst (λ w. told w ≡ []) f (pick told t.left t.right (no_left (told t.left) (option_map_or told t.right []) e) (no_right (told t.left) (option_map_or told t.right []) e))

bracket : (side : Side) (told : LinkWord → List ℕ) (s : SiteText) (v : LinkWord) → in_brackets told s.link ≡ [] → link_word side s ≡ Some v → told v ≡ []
bracket Left told s v e h = left_bracket told s.link v e h
bracket Right told s v e h = right_bracket told s.link v e h

-- ---- names

module _ (text : List ℕ) where
  -- the number of a name that is one of these
  known : (names : List (List ℕ)) (s : Span) → if_unknown text names s ≡ [] → slice_get names (number names (word text s)) ≡ Some (word text s)
  known names s e = by (number_of names (word text s)) refl e
    where
      by : (o : Option ℕ) → number_of names (word text s) ≡ o → (if is_some o then [] else s.start ∷ []) ≡ [] → slice_get names (unwrap_or o 0) ≡ Some (word text s)
      by (Some k) h e = number_of-at names (word text s) k h
      by None h e = absurd cc

  absent : (names : List (List ℕ)) (s : Span) → if_known text names s ≡ [] → ¬ Has names (word text s)
  absent names s e h = by (number_of names (word text s)) (has_number names (word text s) h.0 h.1) e
    where
      by : (o : Option ℕ) → is_some o ≡ true → (if is_some o then s.start ∷ [] else []) ≡ [] → ⊥
      by (Some k) i e = cc
      by None i e = cc

  -- names that don't stand twice
  names_differ : (before sites : List SiteText) → AllDifferent (names_of text before) → twice_behind text before sites ≡ [] → AllDifferent (names_of text (before ++ sites))
  names_differ before [] differ e = subst (λ (xs : List SiteText). AllDifferent (names_of text xs)) (sym (append-nil before)) differ
  names_differ before (s ∷ sites) differ e =
      let new = absent (names_of text before) s.name (no_left (if_known text (names_of text before) s.name) (twice_behind text (before ++ s ∷ []) sites) e) in
      let more = subst (λ (names : List (List ℕ)). AllDifferent names) (sym (map-push (λ (x : SiteText). word text x.name) before s)) (AllDifferent-push (names_of text before) (word text s.name) differ new) in
      subst (λ (xs : List SiteText). AllDifferent (names_of text xs)) (append_assoc before (s ∷ []) sites)
      (names_differ (before ++ s ∷ []) sites more (no_right (if_known text (names_of text before) s.name) (twice_behind text (before ++ s ∷ []) sites) e))

-- numbers differ where names do
differ_by : {X : Type 0} (f : X → ℕ) (g : X → List ℕ) (xs : List X) → ((i j : ℕ) (x y : X) → slice_get xs i ≡ Some x → slice_get xs j ≡ Some y → f x ≡ f y → g x ≡ g y) → AllDifferent (map g xs) → AllDifferent (map f xs)
differ_by f g xs same differ i j n p q =
    let x = mapped_from f xs i n p in
    let y = mapped_from f xs j n q in
    let e = same i j x.0 y.0 x.1 y.1 (x.2 ∙ sym y.2) in
    differ i j (g x.0) (slice_get-map g xs i ∙ ap (option_map g) x.1) (slice_get-map g xs j ∙ ap (option_map g) y.1 ∙ ap (λ w. Some w) (sym e))

-- ---- sites and agents

module _ (text : List ℕ) (sig : List TypeEntry) where
  state_known : (a x : ℕ) (w : Option StateWord) (u : ℕ) → ((v : StateWord) → w ≡ Some v → unknown_state text (state_names sig a x) v ≡ []) → option_map (state_said text sig a x) w ≡ Some (Is u) → HasState sig a x u
  state_known a x None u e h = absurd cc
  state_known a x (Some state.Hash) u e h = absurd cc
  state_known a x (Some (state.Named s)) u e h =
      let f : state_number text sig a x s ≡ u = cc in
      subst (λ n. HasState sig a x n) f (HasState-named sig a x (state_number text sig a x s) (word text s) (known text (state_names sig a x) s (e (state.Named s) refl)))

  link_known : (w : Option LinkWord) (b y : ℕ) → ((v : LinkWord) → w ≡ Some v → unknown_partner_site text sig v ≡ []) → option_map (link_said text sig) w ≡ Some (said.Partner b y) → HasSite sig b y
  link_known None b y e h = absurd cc
  link_known (Some link.Free) b y e h = absurd cc
  link_known (Some link.Hash) b y e h = absurd cc
  link_known (Some link.Bound) b y e h = absurd cc
  link_known (Some (link.Label number span)) b y e h = absurd cc
  link_known (Some (link.Partner s t)) b y e h =
      let f : type_number text sig t ≡ b = cc in
      let g : site_number text sig (type_number text sig t) s ≡ y = cc in
      subst (λ n. HasSite sig b n) g (subst (λ n. HasSite sig n (site_number text sig (type_number text sig t) s)) f
      (HasSite-named sig (type_number text sig t) (site_number text sig (type_number text sig t) s) (word text s) (known text (site_names sig (type_number text sig t)) s (e (link.Partner s t) refl))))

  IsSiteSaid-on : (side : Side) (a : ℕ) (s : SiteText) → unknown_sites_at text sig a s ≡ [] → unknown_states_at text sig a s ≡ [] → IsSiteSaid sig a (site_on side text sig a s)
  IsSiteSaid-on side a s e f =
      let here = no_left (if_unknown text (site_names sig a) s.name) (in_brackets (unknown_partner_site text sig) s.link) e in
      let there = no_right (if_unknown text (site_names sig a) s.name) (in_brackets (unknown_partner_site text sig) s.link) e in
      record {
        known = HasSite-named sig a (site_number text sig a s.name) (word text s.name) (known text (site_names sig a) s.name here);
        state = λ u h. state_known a (site_number text sig a s.name) (state_word side s) u (λ v i. brace side (unknown_state text (state_names sig a (site_number text sig a s.name))) s v f i) h;
        link = λ b y h. link_known (link_word side s) b y (λ v i. bracket side (unknown_partner_site text sig) s v there i) h;
      }

  numbers_of : (side : Side) (a : ℕ) (sites : List SiteText) → map (λ (s : SiteText). site_number text sig a s.name) sites ≡ map (λ (s : SiteSaid). s.site) (map (site_on side text sig a) sites)
  numbers_of side a [] = refl
  numbers_of side a (s ∷ sites) = ap (λ ns. site_number text sig a s.name ∷ ns) (numbers_of side a sites)

  numbers_differ : (a : ℕ) (sites : List SiteText) → flat_map (unknown_sites_at text sig a) sites ≡ [] → twice_behind text [] sites ≡ [] → AllDifferent (map (λ (s : SiteText). site_number text sig a s.name) sites)
  numbers_differ a sites e f =
      differ_by (λ (s : SiteText). site_number text sig a s.name) (λ (s : SiteText). word text s.name) sites
      (λ i j x y p q h.
      let k = known text (site_names sig a) x.name (no_left (if_unknown text (site_names sig a) x.name) (in_brackets (unknown_partner_site text sig) x.link) (each_none (unknown_sites_at text sig a) sites i x e p)) in
      let l = known text (site_names sig a) y.name (no_left (if_unknown text (site_names sig a) y.name) (in_brackets (unknown_partner_site text sig) y.link) (each_none (unknown_sites_at text sig a) sites j y e q)) in
      let m : Some (word text x.name) ≡ Some (word text y.name) = sym k ∙ ap (slice_get (site_names sig a)) h ∙ l in
      cc)
      (names_differ text [] sites AllDifferent-[] f)

  IsSaid-on : (side : Side) (a : AgentText) → unknown_types text sig a ≡ [] → unknown_sites text sig a ≡ [] → unknown_states text sig a ≡ [] → sites_twice text a ≡ [] → IsSaid sig (plain_agent side text sig a)
  unfolding unknown_types unknown_sites unknown_states sites_twice
  IsSaid-on side a e f g h =
      let n = type_number text sig a.name in
      record {
        known = type_within sig n (word text a.name) (known text (type_names sig) a.name (no_left (if_unknown text (type_names sig) a.name) _ e));
        sites = λ i s at.
            let t = mapped_from (site_on side text sig n) a.sites i s at in
            subst (λ (x : SiteSaid). IsSiteSaid sig n x) t.2 (IsSiteSaid-on side n t.0 (each_none (unknown_sites_at text sig n) a.sites i t.0 f t.1) (each_none (unknown_states_at text sig n) a.sites i t.0 g t.1));
        differ = subst (λ (ns : List ℕ). AllDifferent ns) (numbers_of side n a.sites) (numbers_differ n a.sites f h);
      }

  pub AreSaid-on : (side : Side) (agents : List AgentText) → flat_map (unknown_types text sig) agents ≡ [] → flat_map (unknown_sites text sig) agents ≡ [] → flat_map (unknown_states text sig) agents ≡ [] → flat_map (sites_twice text) agents ≡ [] → AreSaid sig (map (agent_on side text sig) agents)
  AreSaid-on side agents e f g h k a at =
      let t = mapped_from (agent_on side text sig) agents k a at in
      subst (λ (x : AgentSaid). IsSaid sig x) (sym (agent_on-plain side text sig t.0) ∙ t.2)
      (IsSaid-on side t.0 (each_none (unknown_types text sig) agents k t.0 e t.1) (each_none (unknown_sites text sig) agents k t.0 f t.1) (each_none (unknown_states text sig) agents k t.0 g t.1) (each_none (sites_twice text) agents k t.0 h t.1))
