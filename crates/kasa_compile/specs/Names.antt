-- Names of a text, in the numbers of a signature, and those that name nothing there.
use Rattle.std.specs.Prelude.{ℕ, ◌++◌, List, [], ◌∷◌, Option, Some, None, map, unwrap_or, is_some, if◌then◌else◌}
use Rattle.std.specs.List.{flat_map}
use Rattle.std.specs.Option.{option_map_or}
use Rattle.kasa_graph.specs.Signature.{TypeEntry, type_names, site_names, state_names}
use Rattle.kasa_syntax.specs.declared.tokens.Span.{Span}
use Rattle.kasa_syntax.specs.declared.agents.StateWord.{StateWord}
use Rattle.kasa_syntax.specs.declared.agents.StateWord.TheVariants.{Hash, Named}
use Rattle.kasa_syntax.specs.declared.agents.StateText.{StateText}
use Rattle.kasa_syntax.specs.declared.agents.LinkWord.{LinkWord}
use Rattle.kasa_syntax.specs.declared.agents.LinkWord.TheVariants.{Partner}
use Rattle.kasa_syntax.specs.declared.agents.LinkText.{LinkText}
use Rattle.kasa_syntax.specs.declared.agents.SiteText.{SiteText}
use Rattle.kasa_syntax.specs.declared.agents.AgentText.{AgentText}
use Rattle.kasa_sig.specs.Mentions.{word}
use Rattle.kasa_sig.specs.Outcome.{number_of}

-- ---- numbers

-- the number of a name among some that have it
abbrev pub number : List (List ℕ) → List ℕ → ℕ
number names name = unwrap_or (number_of names name) 0

abbrev pub type_number : List ℕ → List TypeEntry → Span → ℕ
type_number text sig s = number (type_names sig) (word text s)

abbrev pub site_number : List ℕ → List TypeEntry → ℕ → Span → ℕ
site_number text sig a s = number (site_names sig a) (word text s)

abbrev pub state_number : List ℕ → List TypeEntry → ℕ → ℕ → Span → ℕ
state_number text sig a x s = number (state_names sig a x) (word text s)

-- ---- names of nothing, by the offsets of their first bytes

-- a name that isn't one of these
abbrev pub if_unknown : List ℕ → List (List ℕ) → Span → List ℕ
if_unknown text names s = if is_some (number_of names (word text s)) then [] else s.start ∷ []

-- what is to be said of the words in the braces, and of those in the brackets, of a site
abbrev pub in_braces : (StateWord → List ℕ) → Option StateText → List ℕ
in_braces said None = []
in_braces said (Some t) = said t.left ++ option_map_or said t.right []

abbrev pub in_brackets : (LinkWord → List ℕ) → Option LinkText → List ℕ
in_brackets said None = []
in_brackets said (Some t) = said t.left ++ option_map_or said t.right []

-- the type of `s.B`
abbrev pub unknown_partner_type : List ℕ → List TypeEntry → LinkWord → List ℕ
unknown_partner_type text sig (Partner s b) = if_unknown text (type_names sig) b
unknown_partner_type text sig _ = []

-- the site of `s.B`
abbrev pub unknown_partner_site : List ℕ → List TypeEntry → LinkWord → List ℕ
unknown_partner_site text sig (Partner s b) = if_unknown text (site_names sig (type_number text sig b)) s
unknown_partner_site text sig _ = []

abbrev pub unknown_state : List ℕ → List (List ℕ) → StateWord → List ℕ
unknown_state text names Hash = []
unknown_state text names (Named s) = if_unknown text names s

-- an agent's type, and those of its `[s.B]`
unfoldable pub unknown_types : List ℕ → List TypeEntry → AgentText → List ℕ
unknown_types text sig a = if_unknown text (type_names sig) a.name ++ flat_map (λ s. in_brackets (unknown_partner_type text sig) s.link) a.sites

-- an agent's sites, and those of its `[s.B]`
abbrev pub unknown_sites_at : List ℕ → List TypeEntry → ℕ → SiteText → List ℕ
unknown_sites_at text sig a s = if_unknown text (site_names sig a) s.name ++ in_brackets (unknown_partner_site text sig) s.link

unfoldable pub unknown_sites : List ℕ → List TypeEntry → AgentText → List ℕ
unknown_sites text sig a = flat_map (unknown_sites_at text sig (type_number text sig a.name)) a.sites

-- the states of its sites
abbrev pub unknown_states_at : List ℕ → List TypeEntry → ℕ → SiteText → List ℕ
unknown_states_at text sig a s = in_braces (unknown_state text (state_names sig a (site_number text sig a s.name))) s.state

unfoldable pub unknown_states : List ℕ → List TypeEntry → AgentText → List ℕ
unknown_states text sig a = flat_map (unknown_states_at text sig (type_number text sig a.name)) a.sites

-- ---- sites that stand a second time

-- the names of some sites
abbrev pub names_of : List ℕ → List SiteText → List (List ℕ)
names_of text sites = map (λ s. word text s.name) sites

-- a name that is one of these
abbrev pub if_known : List ℕ → List (List ℕ) → Span → List ℕ
if_known text names s = if is_some (number_of names (word text s)) then s.start ∷ [] else []

-- those that stand among the sites before them
abbrev pub twice_behind : List ℕ → List SiteText → List SiteText → List ℕ
twice_behind text before [] = []
twice_behind text before (s ∷ sites) = if_known text (names_of text before) s.name ++ twice_behind text (before ++ s ∷ []) sites

unfoldable pub sites_twice : List ℕ → AgentText → List ℕ
sites_twice text a = twice_behind text [] a.sites
