-- The grammar of declarations. Symbols stand by their bytes, as in `Grammar`; 42 is `*`, 58 `:` and 64 `@`.
use Rattle.std.specs.Prelude.{◌≡◌, ℕ, List, [], ◌∷◌, map, Bool, true, false, not, if◌then◌else◌, ◌&&◌, ◌||◌, ◌==◌, Option, Some, None, codes}
use Rattle.std.specs.List.{list_any, flat_map}
use Rattle.kasa_syntax.specs.declared.tokens.Span.{Span}
use Rattle.kasa_syntax.specs.declared.tokens.TokenKind.{TokenKind}
use Rattle.kasa_syntax.specs.declared.tokens.TokenKind.TheVariants.{Name, Number, Quoted, Percent, Dollar, Arrow, BothArrow, Symbol}
use Rattle.kasa_syntax.specs.declared.agents.StateText.{StateText}
use Rattle.kasa_syntax.specs.declared.agents.LinkText.{LinkText}
use Rattle.kasa_syntax.specs.declared.agents.SiteText.{SiteText}
use Rattle.kasa_syntax.specs.declared.agents.Mark.{Mark}
use Rattle.kasa_syntax.specs.declared.agents.Mark.TheVariants.{Plain}
use Rattle.kasa_syntax.specs.declared.agents.AgentText.{AgentText}
use Rattle.kasa_syntax.specs.declared.decls.SiteDecl.{SiteDecl}
use Rattle.kasa_syntax.specs.declared.decls.AgentDecl.{AgentDecl}
use Rattle.kasa_syntax.specs.declared.decls.InitDecl.{InitDecl}
use Rattle.kasa_syntax.specs.declared.decls.RuleText.{RuleText}
use Rattle.kasa_syntax.specs.declared.decls.Item.{Item}
use Rattle.kasa_syntax.specs.declared.decls.Item.TheVariants.{Absent, Agent as agent_item}
use Rattle.kasa_syntax.specs.declared.decls.Form.{Form}
use Rattle.kasa_syntax.specs.declared.decls.Form.TheVariants.{Edit, Arrow as arrow_form}
use Rattle.kasa_syntax.specs.declared.decls.Decl.{Decl}
use Rattle.kasa_syntax.specs.declared.decls.Decl.TheVariants as decl
use Rattle.kasa_parser.specs.declared.run.Keyword.{Keyword}
use Rattle.kasa_parser.specs.declared.run.Keyword.TheVariants as keyword
use Rattle.kasa_parser.specs.declared.run.Run.{Run}
use Rattle.kasa_parser.specs.declared.run.Run.TheVariants.{Links, Mod, Rate}
use Rattle.kasa_parser.specs.declared.run.DollarWord.{DollarWord}
use Rattle.kasa_parser.specs.declared.run.DollarWord.TheVariants.{Addition, Other}
use Rattle.kasa_parser.specs.declared.additions.EndedAgent.{EndedAgent}
use Rattle.kasa_parser.specs.Words.{Word, Kinds, only, but, has, same_kind, starts, rest, past_comma, are_digits, are_equal}
use Rattle.kasa_parser.specs.Rules.{Rule, Outcome, got, stuck, behind, give, word, ◌▹◌, by_first, many, as_long_as, listed, listed_some, symbol, maybe, behind_comma, in_any_order}
use Rattle.kasa_parser.specs.Grammar.{name, sites, items, agent}

-- ---- single words

abbrev pub is_keyword : List ℕ → Word → Bool
is_keyword spelling w = same_kind Percent w.kind && are_equal w.bytes spelling

abbrev pub is_intervention : Word → Bool
is_intervention w = same_kind Dollar w.kind && (are_equal w.bytes (codes "$DEL") || are_equal w.bytes (codes "$APPLY"))

-- a word that passes a test
abbrev pub passing : (Word → Bool) → Word → Option (Unit {0})
passing test w = if test w then Some tt else None

-- words of these kinds that pass a test
abbrev pub run : Kinds → (Word → Bool) → Rule (List (Unit {0}))
run kinds test = many kinds (word (passing (λ w. has kinds w.kind && test w)))

abbrev pub brackets : List TokenKind
brackets = Symbol 40 ∷ Symbol 41 ∷ Symbol 91 ∷ Symbol 93 ∷ Symbol 123 ∷ Symbol 125 ∷ []

-- Links in a declaration have any words but brackets and `%token`, skipped declarations and rates any but those that begin
-- with `%` and arrows, and between the `$` words of `%mod` there are none of these.
abbrev pub run_kinds : Run → Kinds
run_kinds Links = but brackets
run_kinds Mod = but (Percent ∷ Arrow ∷ BothArrow ∷ Dollar ∷ [])
run_kinds Rate = but (Percent ∷ Arrow ∷ BothArrow ∷ [])

abbrev pub run_test : Run → Word → Bool
run_test Links w = not (is_keyword (codes "%token") w)
run_test _ w = true

abbrev pub run_of : Run → Rule (Unit {0})
run_of which = run (run_kinds which) (run_test which) ▹ λ some. give tt

-- a name or digits
abbrev pub state_name_at : TokenKind → Word → Option Span
state_name_at Name w = Some w.span
state_name_at Number w = if are_digits w.bytes then Some w.span else None
state_name_at _ w = None

abbrev pub state_name_of : Word → Option Span
state_name_of w = state_name_at w.kind w

abbrev pub quoted_at : TokenKind → Span → Option Span
quoted_at Quoted span = Some span
quoted_at _ span = None

abbrev pub quoted_of : Word → Option Span
quoted_of w = quoted_at w.kind w.span

-- whether the arrow points both ways
abbrev pub arrow_at : TokenKind → Option Bool
arrow_at Arrow = Some false
arrow_at BothArrow = Some true
arrow_at _ = None

abbrev pub arrow_of : Word → Option Bool
arrow_of w = arrow_at w.kind

-- whether the word of a count is `(`
abbrev pub count_at : TokenKind → Option Bool
count_at Number = Some false
count_at Quoted = Some false
count_at (Symbol b) =
    if b == 40 then Some true else (if (b == 43) || (b == 45) || (b == 42) || (b == 47) || (b == 41) then Some false else None)
count_at _ = None

abbrev pub count_of : Word → Option Bool
count_of w = count_at w.kind

-- what a word with `$` begins: an addition, or nothing where it isn't an intervention
abbrev pub dollar_at : TokenKind → Word → Option DollarWord
dollar_at Dollar w =
    if is_intervention w then None else Some (if are_equal w.bytes (codes "$ADD") then Addition w.span.start else Other)
dollar_at _ w = None

abbrev pub dollar_of : Word → Option DollarWord
dollar_of w = dollar_at w.kind w

-- where `)` ends
abbrev pub closing_of : Word → Option ℕ
closing_of w = if same_kind (Symbol 41) w.kind then Some w.span.end else None

abbrev pub keyword_of : Word → Option Keyword
keyword_of w =
    if is_keyword (codes "%agent") w then Some keyword.Agent
    else (if is_keyword (codes "%init") w then Some keyword.Init
    else (if is_keyword (codes "%mod") w then Some keyword.Mod
    else (if is_keyword (codes "%var") w || is_keyword (codes "%obs") w || is_keyword (codes "%plot") w || is_keyword (codes "%def") w
    then Some keyword.Skipped else None)))

-- ---- agent declarations

abbrev pub state_names : Rule (List Span)
state_names = listed (only (Name ∷ Number ∷ [])) (word state_name_of)

abbrev pub states : Rule (List Span)
states = symbol 123 ▹ λ opening. state_names ▹ λ some. symbol 125 ▹ λ closing. give some

-- links in a declaration are read and not used
abbrev pub links : Rule (Unit {0})
links = symbol 91 ▹ λ opening. run_of Links ▹ λ some. symbol 93

abbrev pub states_or_none : Option (List Span) → List Span
states_or_none None = []
states_or_none (Some some) = some

-- at most one list of states and at most one of links, in either order
abbrev pub declared_parts : Span → Rule SiteDecl
declared_parts n =
    in_any_order (only (Symbol 123 ∷ [])) states (only (Symbol 91 ∷ [])) links (λ s l. record { name = n; states = states_or_none s })

abbrev pub site_decl : Rule SiteDecl
site_decl = name ▹ λ n. declared_parts n

abbrev pub site_decls : Rule (List SiteDecl)
site_decls = listed (only (Name ∷ [])) site_decl

abbrev pub agent_text : Rule AgentDecl
agent_text =
    symbol 58 ▹ λ colon. name ▹ λ n. symbol 40 ▹ λ opening. site_decls ▹ λ some. symbol 41 ▹ λ closing.
    give (record { name = n; sites = some })

-- ---- inits: a count, and agents, which stand in parentheses where the count's last word is `(`

abbrev pub last_or : Bool → List Bool → Bool
last_or b [] = b
last_or b (c ∷ cs) = last_or c cs

abbrev pub count : Rule (List Bool)
count =
    many (only (Number ∷ Quoted ∷ Symbol 43 ∷ Symbol 45 ∷ Symbol 42 ∷ Symbol 47 ∷ Symbol 40 ∷ Symbol 41 ∷ [])) (word count_of)

-- whether the last word of a count is `(`
abbrev pub counted : Rule Bool
counted = count ▹ λ some. give (last_or false some)

abbrev pub closed : Bool → Rule (Unit {0})
closed true = symbol 41
closed false = give tt

abbrev pub agents : Rule (List AgentText)
agents = listed_some (only (Name ∷ [])) (agent false)

abbrev pub init_agents : Rule (List AgentText)
init_agents =
    symbol 58 ▹ λ colon. counted ▹ λ after_open. agents ▹ λ some. closed after_open ▹ λ closing. give some

-- ---- additions: `$ADD`, a count, and agents, which go on without parentheses as long as, behind a comma or not, a name and `(` follow

abbrev pub begins_agent : List Word → Bool
begins_agent ws = starts (only (Name ∷ [])) ws && starts (only (Symbol 40 ∷ [])) (rest ws)

abbrev pub agent_follows : List Word → Bool
agent_follows ws = begins_agent (past_comma ws)

abbrev pub closing : Rule ℕ
closing = word closing_of

-- an agent, and the offset where it ends
abbrev pub ended_agent : Rule EndedAgent
ended_agent =
    name ▹ λ n. symbol 40 ▹ λ opening. sites false ▹ λ some. closing ▹ λ end.
    give (record { agent = record { name = n; sites = some; mark = Plain }; end = end })

-- where the last of some agents ends, or what stands before them
abbrev pub last_end : ℕ → List EndedAgent → ℕ
last_end end [] = end
last_end end (x ∷ xs) = last_end x.end xs

-- the complex of an addition that begins at an offset, in parentheses or not, and the skipped words behind it
abbrev pub added : ℕ → Bool → Rule InitDecl
added start true =
    agents ▹ λ some. closing ▹ λ end. run_of Mod ▹ λ none.
    give (record { start = record { start = start; end = end }; agents = some })
added start false =
    ended_agent ▹ λ x. as_long_as agent_follows (behind_comma ended_agent) (run_of Mod) ▹ λ xs.
    give (record {
      start = record { start = start; end = last_end x.end xs };
      agents = map (λ (y : EndedAgent). y.agent) (x ∷ xs);
    })

abbrev pub addition : ℕ → Rule InitDecl
addition start = counted ▹ λ after_open. added start after_open

-- what stands behind a word with `$`, up to the next one
abbrev pub behind_dollar : DollarWord → Rule (List Decl)
behind_dollar (Addition start) = addition start ▹ λ d. give (decl.Add d ∷ [])
behind_dollar Other = run_of Mod ▹ λ none. give []

abbrev pub dollar_part : Rule (List Decl)
dollar_part = word dollar_of ▹ λ w. behind_dollar w

abbrev pub dollar_parts : Rule (List Decl)
dollar_parts = many (only (Dollar ∷ [])) dollar_part ▹ λ some. give (flat_map (λ ds. ds) some)

abbrev pub mod_text : Rule (List Decl)
mod_text = symbol 58 ▹ λ colon. run_of Mod ▹ λ none. dollar_parts

-- ---- rules

abbrev pub is_some : {A : Type 0} → Option A → Bool
is_some None = false
is_some (Some x) = true

abbrev pub is_edited_state : Option StateText → Bool
is_edited_state None = false
is_edited_state (Some text) = is_some text.right

abbrev pub is_edited_link : Option LinkText → Bool
is_edited_link None = false
is_edited_link (Some text) = is_some text.right

abbrev pub is_edited_site : SiteText → Bool
is_edited_site site = is_edited_state site.state || is_edited_link site.link

abbrev pub is_mark : Mark → Bool
is_mark Plain = false
is_mark _ = true

-- an item has a mark or a `/`
abbrev pub is_edited : Item → Bool
is_edited Absent = false
is_edited (agent_item agent) = is_mark agent.mark || list_any is_edited_site agent.sites

-- the right side behind an arrow
abbrev pub arrow : List Item → Rule Form
arrow left =
    word arrow_of ▹ λ both. items false ▹ λ right. give (arrow_form left right both)

-- Behind the items of a body: an arrow follows if they are none, none if one of them has a mark or a `/`, and else maybe one.
abbrev pub body_behind : Bool → List Item → Rule Form
body_behind edited [] = arrow []
body_behind true (x ∷ xs) = give (Edit (x ∷ xs))
body_behind false (x ∷ xs) = by_first (only (Arrow ∷ BothArrow ∷ [])) (arrow (x ∷ xs)) (give (Edit (x ∷ xs)))

abbrev pub body : Rule Form
body = items true ▹ λ some. body_behind (list_any is_edited some) some

abbrev pub rate : Rule (Option (Unit {0}))
rate = maybe (only (Symbol 64 ∷ [])) (symbol 64 ▹ λ at. run_of Rate)

-- a rule's tree has the span of all its words
abbrev pub rule_text : Rule (Span → RuleText)
rule_text =
    maybe (only (Quoted ∷ [])) (word quoted_of) ▹ λ n. body ▹ λ form. rate ▹ λ some.
    give (λ start. record { start = start; name = n; form = form })

-- ---- one declaration

-- What a declaration says hangs on the span of all its words. A skipped one says nothing, and `%mod` may say several things.
abbrev pub Said : Type 0
Said = Span → List Decl

abbrev pub behind_keyword : Keyword → Rule Said
behind_keyword keyword.Agent = agent_text ▹ λ a. give (λ start. decl.Agent a ∷ [])
behind_keyword keyword.Init = init_agents ▹ λ some. give (λ start. decl.Init (record { start = start; agents = some }) ∷ [])
behind_keyword keyword.Mod = mod_text ▹ λ some. give (λ start. some)
behind_keyword keyword.Skipped = run_of Rate ▹ λ some. give (λ start. [])

abbrev pub declaration : Rule Said
declaration =
    by_first (only (Percent ∷ [])) (word keyword_of ▹ λ k. behind_keyword k)
    (rule_text ▹ λ text. give (λ start. decl.Rule (text start) ∷ []))

-- ---- all words of a declaration

abbrev pub end_of : Word → List Word → ℕ
end_of w [] = w.span.end
end_of w (x ∷ ws) = end_of x ws

-- from the first byte of the words to the last
abbrev pub span_of : List Word → Span
span_of [] = record { start = 0; end = 0 }
span_of (w ∷ ws) = record { start = w.span.start; end = end_of w ws }

-- the words are a declaration that says this
abbrev pub IsDeclaration : List Word → List Decl → Type 0
IsDeclaration ws given = (said : Said) × declaration.Is ws said × (given ≡ said (span_of ws))

-- nothing is left
abbrev pub all_read : {A : Type 0} → A → List Word → Outcome A
all_read x [] = got x []
all_read x (w ∷ ws) = stuck (w ∷ ws)

abbrev pub read_declaration : List Word → Outcome Said
read_declaration ws = behind (declaration.read ws) (λ said left. all_read said left)

-- what a declaration with this span says
abbrev pub said_of : Span → Outcome Said → Outcome (List Decl)
said_of start o = behind o (λ said left. got (said start) left)
