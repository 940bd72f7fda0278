-- Where declarations end. A run of breaks is one break: its first one ends a declaration or not, as the others would, and
-- the others then end declarations without words, which are dropped.
use Rattle.std.specs.Prelude.{ℕ, suc, ◌-◌, List, [], ◌∷◌, ◌++◌, Bool, true, false, not, if◌then◌else◌, Option, Some, None, ◌==◌, ◌&&◌, ◌||◌}
use Rattle.kasa_syntax.specs.declared.tokens.TokenKind.{TokenKind}
use Rattle.kasa_syntax.specs.declared.tokens.TokenKind.TheVariants.{Name, Quoted, Percent, Break, Arrow, BothArrow, Symbol}
use Rattle.kasa_parser.specs.Words.{Word}

-- a declaration's words, and the offset where it ends: that of the break, or behind the last byte of the text
pub record Declaration : Type 0 where
  pub words : List Word
  pub ending : ℕ

abbrev pub is_break : TokenKind → Bool
is_break Break = true
is_break _ = false

-- a declaration can begin with such a word
abbrev pub begins_declaration : TokenKind → Bool
begins_declaration Percent = true
begins_declaration Quoted = true
begins_declaration Name = true
begins_declaration (Symbol b) = b == 46
begins_declaration _ = false

-- behind such a word a declaration goes on: `,`, an arrow or `@`
abbrev pub goes_on : TokenKind → Bool
goes_on Arrow = true
goes_on BothArrow = true
goes_on (Symbol b) = (b == 44) || (b == 64)
goes_on _ = false

-- how deep the brackets are behind a word
abbrev pub deeper : TokenKind → ℕ → ℕ
deeper (Symbol b) depth =
    if (b == 40) || (b == 91) || (b == 123) then suc depth else (if (b == 41) || (b == 93) || (b == 125) then depth - 1 else depth)
deeper _ depth = depth

-- the first word that is no break
abbrev pub next_kind : List Word → Option TokenKind
next_kind [] = None
next_kind (w ∷ ws) = if is_break w.kind then next_kind ws else Some w.kind

abbrev pub last_kind : List Word → Option TokenKind
last_kind [] = None
last_kind (w ∷ []) = Some w.kind
last_kind (w ∷ (x ∷ ws)) = last_kind (x ∷ ws)

-- A break ends the declaration at the end of the text, and outside of brackets where the next word can begin a declaration
-- and the last one doesn't let this one go on.
abbrev pub ends_at : ℕ → Option TokenKind → Option TokenKind → Bool
ends_at depth last None = true
ends_at depth None (Some next) = (depth == 0) && begins_declaration next
ends_at depth (Some last) (Some next) = (depth == 0) && begins_declaration next && not (goes_on last)

abbrev pub ended : List Word → ℕ → List Declaration
ended [] ending = []
ended (w ∷ ws) ending = record { words = w ∷ ws; ending = ending } ∷ []

-- The declarations of words, where those of the one that stands first have been read up to here. The text has `size` bytes.
abbrev pub declarations_from : ℕ → ℕ → List Word → List Word → List Declaration
declarations_from size depth read [] = ended read size
declarations_from size depth read (w ∷ ws) =
    if is_break w.kind
    then (if ends_at depth (last_kind read) (next_kind ws)
    then ended read w.span.start ++ declarations_from size 0 [] ws
    else declarations_from size depth read ws)
    else declarations_from size (deeper w.kind depth) (read ++ w ∷ []) ws

abbrev pub declarations_of : ℕ → List Word → List Declaration
declarations_of size ws = declarations_from size 0 [] ws
