-- The grammar of agents and items. Symbols stand by their bytes: 35 is `#`, 40 `(`, 41 `)`, 43 `+`, 44 `,`, 45 `-`, 46 `.`,
-- 47 `/`, 91 `[`, 93 `]`, 123 `{` and 125 `}`.
use Rattle.std.specs.Prelude.{ℕ, List, [], ◌∷◌, Bool, true, false, if◌then◌else◌, ◌&&◌, ◌==◌, nat_le, Option, Some, None}
use Rattle.std.specs.Str.Parse.{digits_value}
use Rattle.kasa_syntax.specs.declared.tokens.Span.{Span}
use Rattle.kasa_syntax.specs.declared.tokens.TokenKind.{TokenKind}
use Rattle.kasa_syntax.specs.declared.tokens.TokenKind.TheVariants.{Name, Number, Underscore, Symbol}
use Rattle.kasa_syntax.specs.declared.agents.StateWord.{StateWord}
use Rattle.kasa_syntax.specs.declared.agents.StateWord.TheVariants.{Hash, Named}
use Rattle.kasa_syntax.specs.declared.agents.StateText.{StateText}
use Rattle.kasa_syntax.specs.declared.agents.LinkWord.{LinkWord}
use Rattle.kasa_syntax.specs.declared.agents.LinkWord.TheVariants as link
use Rattle.kasa_syntax.specs.declared.agents.LinkText.{LinkText}
use Rattle.kasa_syntax.specs.declared.agents.SiteText.{SiteText}
use Rattle.kasa_syntax.specs.declared.agents.Mark.{Mark}
use Rattle.kasa_syntax.specs.declared.agents.Mark.TheVariants.{Plain, Plus, Minus}
use Rattle.kasa_syntax.specs.declared.agents.AgentText.{AgentText}
use Rattle.kasa_syntax.specs.declared.decls.Item.{Item}
use Rattle.kasa_syntax.specs.declared.decls.Item.TheVariants.{Absent, Agent}
use Rattle.kasa_parser.specs.Words.{Word, only, same_kind, are_digits}
use Rattle.kasa_parser.specs.Rules.{Rule, give, word, ◌▹◌, by_first, listed, symbol, maybe, in_any_order}

-- ---- single words

abbrev pub name_at : TokenKind → Span → Option Span
name_at Name span = Some span
name_at _ span = None

abbrev pub name_of : Word → Option Span
name_of w = name_at w.kind w.span

-- `#`, a name or digits
abbrev pub state_at : TokenKind → Word → Option StateWord
state_at (Symbol b) w = if b == 35 then Some Hash else None
state_at Name w = Some (Named w.span)
state_at Number w = if are_digits w.bytes then Some (Named w.span) else None
state_at _ w = None

abbrev pub state_of : Word → Option StateWord
state_of w = state_at w.kind w

abbrev pub is_label : List ℕ → Bool
is_label bytes = are_digits bytes && nat_le (digits_value 10 bytes) 65535

-- the number of a label, where digits are one
abbrev pub label_number : List ℕ → Option ℕ
label_number bytes = if is_label bytes then Some (digits_value 10 bytes) else None

abbrev pub label_link : Word → Option LinkWord
label_link w = if is_label w.bytes then Some (link.Label (digits_value 10 w.bytes) w.span) else None

-- `.`, `#`, `_` or a label
abbrev pub link_at : TokenKind → Word → Option LinkWord
link_at (Symbol b) w = if b == 46 then Some link.Free else (if b == 35 then Some link.Hash else None)
link_at Underscore w = Some link.Bound
link_at Number w = label_link w
link_at _ w = None

abbrev pub link_of : Word → Option LinkWord
link_of w = link_at w.kind w

abbrev pub absent_of : Word → Option Item
absent_of w = if same_kind (Symbol 46) w.kind then Some Absent else None

-- ---- sites

abbrev pub name : Rule Span
name = word name_of

abbrev pub state_word : Rule StateWord
state_word = word state_of

-- `.`, `#`, `_`, a label, or a site, `.` and a type
abbrev pub link_word : Rule LinkWord
link_word =
    by_first (only (Name ∷ [])) (name ▹ λ site. symbol 46 ▹ λ dot. name ▹ λ agent. give (link.Partner site agent))
    (word link_of)

-- `/` and what stands behind it, where an edit may be written
abbrev pub right : {A : Type 0} → Bool → Rule A → Rule (Option A)
right true r = maybe (only (Symbol 47 ∷ [])) (symbol 47 ▹ λ slash. r)
right false r = give None

abbrev pub state : Bool → Rule StateText
state edit =
    symbol 123 ▹ λ opening. state_word ▹ λ l. right edit state_word ▹ λ r. symbol 125 ▹ λ closing.
    give (record { left = l; right = r })

abbrev pub link_text : Bool → Rule LinkText
link_text edit =
    symbol 91 ▹ λ opening. link_word ▹ λ l. right edit link_word ▹ λ r. symbol 93 ▹ λ closing.
    give (record { left = l; right = r })

-- at most one state and at most one link, in either order
abbrev pub parts : Bool → Span → Rule SiteText
parts edit n =
    in_any_order (only (Symbol 123 ∷ [])) (state edit) (only (Symbol 91 ∷ [])) (link_text edit) (λ s l. record { name = n; state = s; link = l })

abbrev pub site : Bool → Rule SiteText
site edit = name ▹ λ n. parts edit n

-- ---- agents and items

abbrev pub mark : Bool → Rule Mark
mark true =
    by_first (only (Symbol 43 ∷ [])) (symbol 43 ▹ λ plus. give Plus)
    (by_first (only (Symbol 45 ∷ [])) (symbol 45 ▹ λ minus. give Minus) (give Plain))
mark false = give Plain

abbrev pub sites : Bool → Rule (List SiteText)
sites edit = listed (only (Name ∷ [])) (site edit)

abbrev pub agent : Bool → Rule AgentText
agent edit =
    name ▹ λ n. symbol 40 ▹ λ opening. sites edit ▹ λ some. symbol 41 ▹ λ closing. mark edit ▹ λ m.
    give (record { name = n; sites = some; mark = m })

-- `.`, or an agent
abbrev pub item : Bool → Rule Item
item edit = by_first (only (Name ∷ [])) (agent edit ▹ λ a. give (Agent a)) (word absent_of)

abbrev pub items : Bool → Rule (List Item)
items edit = listed (only (Name ∷ Symbol 46 ∷ [])) (item edit)
