-- The first fault of a declaration's words.
use Rattle.std.specs.Prelude.{◌≡◌, ◌<◌, ℕ, ◌⊎◌, true, false, List, [], ◌∷◌, ◌++◌, codes}
use Rattle.std.specs.Str.Parse.{digits_value}
use Rattle.kasa_syntax.specs.Place.{place_at}
use Rattle.kasa_syntax.specs.declared.tokens.TokenKind.TheVariants.{Name, Number, Percent, Symbol}
use Rattle.kasa_syntax.specs.declared.decls.Decl.{Decl}
use Rattle.kasa_parser.specs.declared.ParseFault.{ParseFault}
use Rattle.kasa_parser.specs.declared.ParseFault.TheVariants.{NoMemory, Unexpected, Tokens, Intervention, LongLabel}
use Rattle.kasa_parser.specs.Words.{Word, only, starts, begins_with, is_digits, a_word}
use Rattle.kasa_parser.specs.Decls.{is_keyword, is_intervention, IsDeclaration}

-- some declaration begins with these words
abbrev pub CanGoOn : List Word → Type 0
CanGoOn ws = (more : List Word) × (given : List Decl) × IsDeclaration (ws ++ more) given

-- the words end before the declaration does, or no declaration has the next word there
abbrev pub IsCut : List Word → List Word → Type 0
IsCut before [] = (given : List Decl) → ¬ IsDeclaration before given
IsCut before (w ∷ others) = ¬ CanGoOn (before ++ w ∷ [])

-- ---- causes

-- the words of an agent without sites
abbrev pub an_agent : List Word
an_agent = a_word Name ∷ a_word (Symbol 40) ∷ a_word (Symbol 41) ∷ []

-- a label, which is 0
abbrev pub a_label : Word
a_label = a_word Number

-- words of a rule behind which an agent may stand
abbrev pub IsItemPlace : List Word → Type 0
IsItemPlace before = (starts (only (Percent ∷ [])) before ≡ false) × CanGoOn (before ++ an_agent)

-- the word for tokens anywhere, and a `|` where an item may stand
abbrev pub IsTokens : List Word → Word → Type 0
IsTokens before w = (is_keyword (codes "%token") w ≡ true) ⊎ ((w.kind ≡ Symbol 124) × IsItemPlace before)

-- an intervention behind `%mod`
abbrev pub IsIntervention : List Word → Word → Type 0
IsIntervention before w = (begins_with (is_keyword (codes "%mod")) before ≡ true) × (is_intervention w ≡ true)

-- a label that is too long, where a label may stand
abbrev pub IsLongLabel : List Word → Word → Type 0
IsLongLabel before w = (is_digits w ≡ true) × (65535 < digits_value 10 w.bytes) × CanGoOn (before ++ a_label ∷ [])

-- the cause and the place of a fault at what is left of a declaration, which ends at an offset
abbrev pub IsCause : List ℕ → ℕ → List Word → List Word → ParseFault → Type 0
IsCause text ending before others NoMemory = ⊥
IsCause text ending before [] (Unexpected place) = place ≡ place_at text ending
IsCause text ending before (w ∷ others) (Unexpected place) =
    (place ≡ place_at text w.span.start) × (¬ IsTokens before w) × (¬ IsIntervention before w) × (¬ IsLongLabel before w)
IsCause text ending before (w ∷ others) (Tokens place) = (place ≡ place_at text w.span.start) × IsTokens before w
IsCause text ending before (w ∷ others) (Intervention place) = (place ≡ place_at text w.span.start) × IsIntervention before w
IsCause text ending before (w ∷ others) (LongLabel place) = (place ≡ place_at text w.span.start) × IsLongLabel before w
IsCause text ending before [] fault = ⊥

-- the first fault: it stands where the words before can go on, and not with the one that stands there
pub record IsFault (text : List ℕ) (words : List Word) (ending : ℕ) (fault : ParseFault) : Type 0 where
  pub before : List Word
  pub others : List Word
  pub cut : words ≡ before ++ others
  pub goes_on : CanGoOn before
  pub stuck : IsCut before others
  pub cause : IsCause text ending before others fault
