-- The tokens of a text by longest match, or its first fault.
use Rattle.std.specs.Prelude.{◌≡◌, ◌≢◌, ℕ, ◌+◌, ◌<◌, ◌≤◌, ⊤, ◌⊎◌, List, [], ◌∷◌, ◌++◌, true, false, not, length, take, drop, codes, Result, Ok, Err, ◌==◌, ◌&&◌}
use Rattle.std.specs.List.{list_any}
use Rattle.kasa_num.specs.declared.Place.{Place}
use Rattle.kasa_syntax.specs.Place.{place_at}
use Rattle.kasa_syntax.specs.declared.tokens.TokenKind.{TokenKind}
use Rattle.kasa_syntax.specs.declared.tokens.TokenKind.TheVariants.{Name, Number, Quoted, Text, Percent, Dollar, Underscore, Break, Arrow, BothArrow, Symbol}
use Rattle.kasa_syntax.specs.declared.tokens.Token.{Token}
use Rattle.kasa_lexer.specs.declared.LexFault.{LexFault}
use Rattle.kasa_lexer.specs.declared.LexFault.TheVariants.{NoMemory, BadByte, UnclosedComment, UnclosedQuote, LongName}
use Rattle.kasa_lexer.specs.Bytes.{is_digit, is_letter, is_letter_or_digit, is_word_byte, is_space, is_symbol, Are}

-- ---- what is blank

-- a space, a tab or a CR
abbrev pub IsSpace : List ℕ → Type 0
IsSpace piece = (b : ℕ) × (is_space b ≡ true) × (piece ≡ b ∷ [])

-- a line that goes on: `\`, spaces and a LF
abbrev pub IsGoingOn : List ℕ → Type 0
IsGoingOn piece = (spaces : List ℕ) × Are is_space spaces × (piece ≡ 92 ∷ spaces ++ 10 ∷ [])

-- a comment at the front of a text: `/*`, and all up to and with the first `*/` behind it
pub record IsComment (text piece : List ℕ) : Type 0 where
  pub inner : List ℕ
  pub closed : piece ≡ 47 ∷ 42 ∷ inner ++ 42 ∷ 47 ∷ []
  pub first : (other rest : List ℕ) → text ≡ 47 ∷ 42 ∷ other ++ 42 ∷ 47 ∷ rest → length inner ≤ length other

-- `//` and all before the next LF or the end
abbrev pub EndsLine : List ℕ → Type 0
EndsLine [] = ⊤
EndsLine (b ∷ rest) = b ≡ 10

abbrev pub IsLineComment : List ℕ → List ℕ → Type 0
IsLineComment piece rest = (bytes : List ℕ) × (piece ≡ 47 ∷ 47 ∷ bytes) × Are (λ b. not (b == 10)) bytes × EndsLine rest

-- a byte order mark, at the very beginning
abbrev pub IsByteOrderMark : ℕ → List ℕ → Type 0
IsByteOrderMark at piece = (at ≡ 0) × (piece ≡ 239 ∷ 187 ∷ 191 ∷ [])

-- a blank piece at the front of what stands at an offset
abbrev pub IsBlank : ℕ → List ℕ → List ℕ → List ℕ → Type 0
IsBlank at text piece rest = IsSpace piece ⊎ IsGoingOn piece ⊎ IsComment text piece ⊎ IsLineComment piece rest ⊎ IsByteOrderMark at piece

-- ---- what spells a token

abbrev pub AreDigits : List ℕ → Type 0
AreDigits bytes = (bytes ≢ []) × Are is_digit bytes

abbrev pub AreLetters : List ℕ → Type 0
AreLetters bytes = (bytes ≢ []) × Are is_letter bytes

-- nothing, or `.` and digits
abbrev pub IsFraction : List ℕ → Type 0
IsFraction bytes = (bytes ≡ []) ⊎ ((digits : List ℕ) × AreDigits digits × (bytes ≡ 46 ∷ digits))

abbrev pub IsSign : List ℕ → Type 0
IsSign bytes = (bytes ≡ []) ⊎ (bytes ≡ 43 ∷ []) ⊎ (bytes ≡ 45 ∷ [])

-- nothing, or `e` or `E`, maybe a sign, and digits
abbrev pub IsExponent : List ℕ → Type 0
IsExponent bytes = (bytes ≡ []) ⊎ ((e : ℕ) × (sign digits : List ℕ) × ((e ≡ 101) ⊎ (e ≡ 69)) × IsSign sign × AreDigits digits × (bytes ≡ e ∷ sign ++ digits))

abbrev pub IsNumberText : List ℕ → Type 0
IsNumberText bytes = (whole fraction exponent : List ℕ) × AreDigits whole × IsFraction fraction × IsExponent exponent × (bytes ≡ whole ++ fraction ++ exponent)

-- letters, digits and `_` that don't begin with a digit and hold a letter or a digit
abbrev pub IsNameText : List ℕ → Type 0
IsNameText [] = ⊥
IsNameText (b ∷ bytes) = (is_digit b ≡ false) × Are is_word_byte (b ∷ bytes) × (list_any is_letter_or_digit (b ∷ bytes) ≡ true)

-- any bytes but the quote and LF, between quotes
abbrev pub IsBetween : ℕ → List ℕ → Type 0
IsBetween quote bytes = (inner : List ℕ) × Are (λ b. not (b == quote) && not (b == 10)) inner × (bytes ≡ quote ∷ inner ++ quote ∷ [])

-- the spellings of each kind of token
abbrev pub Spells : List ℕ → TokenKind → Type 0
Spells bytes Name = IsNameText bytes
Spells bytes Number = IsNumberText bytes
Spells bytes Quoted = IsBetween 39 bytes
Spells bytes Text = IsBetween 34 bytes
Spells bytes Percent = (word : List ℕ) × AreLetters word × (bytes ≡ 37 ∷ word)
Spells bytes Dollar = (word : List ℕ) × AreLetters word × (bytes ≡ 36 ∷ word)
Spells bytes Underscore = bytes ≡ 95 ∷ []
Spells bytes Break = bytes ≡ 10 ∷ []
Spells bytes Arrow = bytes ≡ codes "->"
Spells bytes BothArrow = bytes ≡ codes "<->"
Spells bytes (Symbol b) = (bytes ≡ b ∷ []) × (is_symbol b ≡ true)

-- the longest token at the front of a text has n bytes
pub record IsLongestToken (text : List ℕ) (kind : TokenKind) (n : ℕ) : Type 0 where
  pub within : n ≤ length text
  pub spelled : Spells (take n text) kind
  pub longest : (piece rest : List ℕ) (other : TokenKind) → text ≡ piece ++ rest → Spells piece other → length piece ≤ n

-- ---- what stands at the front of what is left of a text at an offset

-- n blank bytes
abbrev pub StandsBlank : ℕ → List ℕ → ℕ → Type 0
StandsBlank at text n = (0 < n) × (n ≤ length text) × IsBlank at text (take n text) (drop n text)

-- no blank and no `/*`, so a token or a fault
pub record StandsOther (at : ℕ) (text : List ℕ) : Type 0 where
  pub not_blank : (n : ℕ) → ¬ StandsBlank at text n
  pub not_comment : (rest : List ℕ) → text ≢ 47 ∷ 42 ∷ rest

-- the most bytes of a token of the kind, quotes among them
abbrev pub IsTooLong : TokenKind → ℕ → Type 0
IsTooLong Name n = 63 < n
IsTooLong Number n = 63 < n
IsTooLong Quoted n = 257 < n
IsTooLong _ n = ⊥

abbrev pub StandsToken : ℕ → List ℕ → TokenKind → ℕ → Type 0
StandsToken at text kind n = StandsOther at text × IsLongestToken text kind n × (¬ IsTooLong kind n)

abbrev pub HasToken : List ℕ → Type 0
HasToken text = (piece rest : List ℕ) × (kind : TokenKind) × (text ≡ piece ++ rest) × Spells piece kind

abbrev pub BeginsWithQuote : List ℕ → Type 0
BeginsWithQuote [] = ⊥
BeginsWithQuote (b ∷ rest) = (b ≡ 39) ⊎ (b ≡ 34)

-- a comment that isn't closed; a quote that isn't closed before the next LF or the end; a token that is too long; a byte
-- that begins no token
abbrev pub StandsFault : Place → ℕ → List ℕ → LexFault → Type 0
StandsFault place at text NoMemory = ⊥
StandsFault place at text (UnclosedComment p) = (p ≡ place) × ((n : ℕ) → ¬ StandsBlank at text n) × ((rest : List ℕ) × (text ≡ 47 ∷ 42 ∷ rest))
StandsFault place at text (UnclosedQuote p) = (p ≡ place) × StandsOther at text × BeginsWithQuote text × (¬ HasToken text)
StandsFault place at text (LongName p) = (p ≡ place) × StandsOther at text × ((kind : TokenKind) × (n : ℕ) × IsLongestToken text kind n × IsTooLong kind n)
StandsFault place at text (BadByte p) = (p ≡ place) × StandsOther at text × (text ≢ []) × (¬ BeginsWithQuote text) × (¬ HasToken text)

-- ---- the whole text

abbrev pub token_from : ℕ → TokenKind → ℕ → Token
token_from at kind n = record { kind = kind; start = at; end = at + n }

-- the text from an offset on gives these tokens, or this fault
pub data Lexes (text : List ℕ) : ℕ → Result (List Token) LexFault → Type 0 where
  ended : {at : ℕ} → drop at text ≡ [] → Lexes text at (Ok [])
  blank : {at : ℕ} {outcome : Result (List Token) LexFault} (n : ℕ) → StandsBlank at (drop at text) n → Lexes text (at + n) outcome → Lexes text at outcome
  token : {at : ℕ} {tokens : List Token} (kind : TokenKind) (n : ℕ) → StandsToken at (drop at text) kind n → Lexes text (at + n) (Ok tokens) → Lexes text at (Ok (token_from at kind n ∷ tokens))
  fault_later : {at : ℕ} {fault : LexFault} (kind : TokenKind) (n : ℕ) → StandsToken at (drop at text) kind n → Lexes text (at + n) (Err fault) → Lexes text at (Err fault)
  fault_here : {at : ℕ} (fault : LexFault) → StandsFault (place_at text at) at (drop at text) fault → Lexes text at (Err fault)

-- the only outcome of a text
pub record IsOutcome (text : List ℕ) (outcome : Result (List Token) LexFault) : Type 0 where
  pub lexes : Lexes text 0 outcome
  pub only : (other : Result (List Token) LexFault) → Lexes text 0 other → other ≡ outcome
