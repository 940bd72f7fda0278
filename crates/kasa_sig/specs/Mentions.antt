-- What a text names, in text order: types, sites of types and states of sites, each with the names of its owners.
use Rattle.std.specs.Prelude.{ℕ, ◌-◌, Bool, true, false, List, [], ◌∷◌, ◌++◌, Option, Some, None, map, take, drop, nat_lt}
use Rattle.std.specs.List.{flat_map}
use Rattle.std.specs.Option.{option_map_or}
use Rattle.kasa_num.specs.declared.Place.{Place}
use Rattle.kasa_syntax.specs.Place.{place_at}
use Rattle.kasa_syntax.specs.declared.tokens.Span.{Span}
use Rattle.kasa_syntax.specs.declared.agents.StateWord.{StateWord}
use Rattle.kasa_syntax.specs.declared.agents.StateWord.TheVariants.{Hash, Named}
use Rattle.kasa_syntax.specs.declared.agents.StateText.{StateText}
use Rattle.kasa_syntax.specs.declared.agents.LinkWord.{LinkWord}
use Rattle.kasa_syntax.specs.declared.agents.LinkWord.TheVariants.{Partner}
use Rattle.kasa_syntax.specs.declared.agents.LinkText.{LinkText}
use Rattle.kasa_syntax.specs.declared.agents.SiteText.{SiteText}
use Rattle.kasa_syntax.specs.declared.agents.AgentText.{AgentText}
use Rattle.kasa_syntax.specs.declared.decls.SiteDecl.{SiteDecl}
use Rattle.kasa_syntax.specs.declared.decls.AgentDecl.{AgentDecl}
use Rattle.kasa_syntax.specs.declared.decls.Item.{Item}
use Rattle.kasa_syntax.specs.declared.decls.Item.TheVariants.{Absent, Agent as item_agent}
use Rattle.kasa_syntax.specs.declared.decls.Form.{Form}
use Rattle.kasa_syntax.specs.declared.decls.Form.TheVariants.{Edit, Arrow}
use Rattle.kasa_syntax.specs.declared.decls.Decl.{Decl}
use Rattle.kasa_syntax.specs.declared.decls.Decl.TheVariants.{Agent as decl_agent, Init, Add, Rule}

-- a name and the names of its owners, by their bytes, and where it stands
pub data Mention : Type 0 where
  of_type : (name : List ℕ) → Place → Mention
  of_site : (agent name : List ℕ) → Place → Mention
  of_state : (agent site name : List ℕ) → Place → Mention

-- the bytes of a word
abbrev pub word : List ℕ → Span → List ℕ
word text s = take (s.end - s.start) (drop s.start text)

abbrev pub type_mention : List ℕ → Span → Mention
type_mention text s = of_type (word text s) (place_at text s.start)

abbrev pub site_mention : List ℕ → List ℕ → Span → Mention
site_mention text agent s = of_site agent (word text s) (place_at text s.start)

abbrev pub state_mention : List ℕ → List ℕ → List ℕ → Span → Mention
state_mention text agent site s = of_state agent site (word text s) (place_at text s.start)

-- ---- agent declarations

-- a site of a type, and its states
unfoldable pub declared_site : List ℕ → List ℕ → SiteDecl → List Mention
declared_site text agent d = site_mention text agent d.name ∷ map (state_mention text agent (word text d.name)) d.states

unfoldable pub declared_type : List ℕ → AgentDecl → List Mention
declared_type text d = type_mention text d.name ∷ flat_map (declared_site text (word text d.name)) d.sites

abbrev pub declared_by : List ℕ → Decl → List Mention
declared_by text (decl_agent d) = declared_type text d
declared_by text (Init d) = []
declared_by text (Add d) = []
declared_by text (Rule d) = []

abbrev pub declared_names : List ℕ → List Decl → List Mention
declared_names text decls = flat_map (declared_by text) decls

abbrev pub is_agent : Decl → Bool
is_agent (decl_agent d) = true
is_agent (Init d) = false
is_agent (Add d) = false
is_agent (Rule d) = false

-- ---- inits, additions and rules

-- `#` names nothing
abbrev pub used_state : List ℕ → List ℕ → List ℕ → StateWord → List Mention
used_state text agent site Hash = []
used_state text agent site (Named s) = state_mention text agent site s ∷ []

-- the names in the braces of a site, `{S}` or `{S/S}`
abbrev pub used_states : List ℕ → List ℕ → List ℕ → Option StateText → List Mention
used_states text agent site None = []
used_states text agent site (Some t) = used_state text agent site t.left ++ option_map_or (used_state text agent site) t.right []

-- `s.B` names the type B and then its site s; `.`, `#`, `_` and a label name nothing
abbrev pub used_partner : List ℕ → LinkWord → List Mention
used_partner text (Partner s b) = type_mention text b ∷ site_mention text (word text b) s ∷ []
used_partner text _ = []

-- the names in the brackets of a site, `[L]` or `[L/L]`
abbrev pub used_partners : List ℕ → Option LinkText → List Mention
used_partners text None = []
used_partners text (Some t) = used_partner text t.left ++ option_map_or (used_partner text) t.right []

-- where the first name in the braces begins, and where the first in the brackets does
abbrev pub word_start : StateWord → Option ℕ
word_start Hash = None
word_start (Named s) = Some s.start

abbrev pub first_start : Option ℕ → Option ℕ → Option ℕ
first_start None later = later
first_start (Some start) later = Some start

abbrev pub state_start : Option StateText → Option ℕ
state_start None = None
state_start (Some t) = first_start (word_start t.left) (option_map_or word_start t.right None)

abbrev pub word_partner_start : LinkWord → Option ℕ
word_partner_start (Partner s b) = Some s.start
word_partner_start _ = None

abbrev pub partner_start : Option LinkText → Option ℕ
partner_start None = None
partner_start (Some t) = first_start (word_partner_start t.left) (option_map_or word_partner_start t.right None)

abbrev pub is_before : Option ℕ → Option ℕ → Bool
is_before (Some one) (Some other) = nat_lt one other
is_before (Some one) None = false
is_before None _ = false

-- the names in the brackets stand before those in the braces
abbrev pub brackets_stand_first : SiteText → Bool
brackets_stand_first s = is_before (partner_start s.link) (state_start s.state)

-- a site of a type, and what stands behind its name
abbrev pub in_order : Bool → List Mention → List Mention → List Mention
in_order true states partners = partners ++ states
in_order false states partners = states ++ partners

unfoldable pub used_site : List ℕ → List ℕ → SiteText → List Mention
used_site text agent s = site_mention text agent s.name ∷ in_order (brackets_stand_first s) (used_states text agent (word text s.name) s.state) (used_partners text s.link)

unfoldable pub used_agent : List ℕ → AgentText → List Mention
used_agent text a = type_mention text a.name ∷ flat_map (used_site text (word text a.name)) a.sites

abbrev pub used_item : List ℕ → Item → List Mention
used_item text Absent = []
used_item text (item_agent a) = used_agent text a

-- a rule's left side stands before its right side
abbrev pub used_body : List ℕ → Form → List Mention
used_body text (Edit items) = flat_map (used_item text) items
used_body text (Arrow left right both) = flat_map (used_item text) left ++ flat_map (used_item text) right

abbrev pub used_decl : List ℕ → Decl → List Mention
used_decl text (decl_agent d) = []
used_decl text (Init d) = flat_map (used_agent text) d.agents
used_decl text (Add d) = flat_map (used_agent text) d.agents
used_decl text (Rule d) = used_body text d.form

abbrev pub used_names : List ℕ → List Decl → List Mention
used_names text decls = flat_map (used_decl text) decls
