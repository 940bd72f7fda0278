-- What stands at the front of a text, found byte by byte. The laws say that this is what the definition of tokens has there.
use Rattle.std.specs.Prelude.{ℕ, zero, suc, ◌+◌, List, [], ◌∷◌, Bool, false, not, if◌then◌else◌, Option, Some, None, option_map, take, drop, ◌==◌, ◌&&◌, ◌||◌, nat_lt}
use Rattle.std.specs.List.{prefix_len, list_any}
use Rattle.kasa_num.specs.declared.Place.{Place}
use Rattle.kasa_syntax.specs.declared.tokens.TokenKind.{TokenKind}
use Rattle.kasa_syntax.specs.declared.tokens.TokenKind.TheVariants.{Name, Number, Quoted, Text, Percent, Dollar, Underscore, Break, Arrow, BothArrow, Symbol}
use Rattle.kasa_syntax.specs.declared.tokens.Token.{Token}
use Rattle.kasa_lexer.specs.declared.LexFault.TheVariants.{BadByte, UnclosedComment, UnclosedQuote, LongName}
use Rattle.kasa_lexer.specs.declared.bytes.Class.{Class}
use Rattle.kasa_lexer.specs.declared.bytes.Class.TheVariants.{Letter, Digit, Low, Single, Double, PerCent, Cash, LineEnd, Minus, Less, Punctuation, Other}
use Rattle.kasa_lexer.specs.declared.front.Front.{Front}
use Rattle.kasa_lexer.specs.declared.front.Front.TheVariants.{Blank as blank_front, Token as token_front, Fault as fault_front}
use Rattle.kasa_lexer.specs.Bytes.{is_digit, is_letter, is_letter_or_digit, is_word_byte, is_space, is_symbol}
use Rattle.kasa_lexer.specs.Tokens.{token_from}

-- the text begins with this byte
abbrev pub begins : ℕ → List ℕ → Bool
begins b [] = false
begins b (c ∷ rest) = c == b

-- ---- blank bytes

-- the text begins with `*/`
abbrev pub closes_comment : List ℕ → Bool
closes_comment text = begins 42 text && begins 47 (drop 1 text)

-- behind `/*`: how many bytes there are up to and with the first `*/`
abbrev pub closing_len : List ℕ → Option ℕ
closing_len [] = None
closing_len (b ∷ bs) = if closes_comment (b ∷ bs) then Some 2 else option_map (λ n. suc n) (closing_len bs)

abbrev pub closed_len : Option ℕ → ℕ
closed_len None = 0
closed_len (Some n) = 2 + n

-- behind `/`
abbrev pub comment_len : List ℕ → ℕ
comment_len [] = 0
comment_len (b ∷ bs) = if b == 47 then 2 + prefix_len (λ c. not (c == 10)) bs else (if b == 42 then closed_len (closing_len bs) else 0)

-- behind `\`
abbrev pub going_on_len : List ℕ → ℕ
going_on_len bs = if begins 10 (drop (prefix_len is_space bs) bs) then 2 + prefix_len is_space bs else 0

-- behind the first byte of a byte order mark
abbrev pub mark_len : List ℕ → ℕ
mark_len bs = if begins 187 bs && begins 191 (drop 1 bs) then 3 else 0

-- how many blank bytes there are, 0 for none
abbrev pub blank_len : ℕ → List ℕ → ℕ
blank_len at [] = 0
blank_len at (b ∷ bs) = if is_space b then 1 else (if b == 92 then going_on_len bs else (if b == 47 then comment_len bs else (if (b == 239) && (at == 0) then mark_len bs else 0)))

abbrev pub opens_comment : List ℕ → Bool
opens_comment text = begins 47 text && begins 42 (drop 1 text)

-- ---- numbers

-- so many bytes with those before them, 0 where there are none
abbrev pub behind : ℕ → ℕ → ℕ
behind k zero = 0
behind k (suc n) = k + suc n

abbrev pub digits_len : List ℕ → ℕ
digits_len text = prefix_len is_digit text

abbrev pub fraction_len : List ℕ → ℕ
fraction_len [] = 0
fraction_len (b ∷ bs) = if b == 46 then behind 1 (digits_len bs) else 0

abbrev pub sign_len : List ℕ → ℕ
sign_len [] = 0
sign_len (b ∷ bs) = if (b == 43) || (b == 45) then 1 else 0

abbrev pub exponent_len : List ℕ → ℕ
exponent_len [] = 0
exponent_len (b ∷ bs) = if (b == 101) || (b == 69) then behind (1 + sign_len bs) (digits_len (drop (sign_len bs) bs)) else 0

-- behind the digits of a number
abbrev pub number_rest_len : List ℕ → ℕ
number_rest_len text = fraction_len text + exponent_len (drop (fraction_len text) text)

abbrev pub number_len : List ℕ → ℕ
number_len text = digits_len text + number_rest_len (drop (digits_len text) text)

-- ---- tokens

-- what a first byte can begin
abbrev pub other_class_of : ℕ → Class
other_class_of b = if b == 95 then Low else (if b == 39 then Single else (if b == 34 then Double else (if b == 37 then PerCent else (if b == 36 then Cash else (if b == 10 then LineEnd else (if b == 45 then Minus else (if b == 60 then Less else (if is_symbol b then Punctuation else Other))))))))

abbrev pub class_of : ℕ → Class
class_of b = if is_letter b then Letter else (if is_digit b then Digit else other_class_of b)

abbrev pub word_len : List ℕ → ℕ
word_len text = prefix_len is_word_byte text

abbrev pub letters_len : List ℕ → ℕ
letters_len text = prefix_len is_letter text

-- behind a quote: how many bytes there are up to and with the next one, and the first; 0 where it isn't closed
abbrev pub inner_len : ℕ → List ℕ → ℕ
inner_len quote bs = prefix_len (λ c. not (c == quote) && not (c == 10)) bs

abbrev pub quoted_len : ℕ → List ℕ → ℕ
quoted_len quote bs = if begins quote (drop (inner_len quote bs) bs) then 2 + inner_len quote bs else 0

abbrev pub sized : TokenKind → ℕ → Option (TokenKind × ℕ)
sized kind zero = None
sized kind (suc n) = Some (kind, suc n)

-- a run of letters, digits and `_` that begins with `_`
abbrev pub low_token : List ℕ → Option (TokenKind × ℕ)
low_token text = if list_any is_letter_or_digit (take (word_len text) text) then Some (Name, word_len text) else Some (Underscore, 1)

abbrev pub minus_token : List ℕ → Option (TokenKind × ℕ)
minus_token bs = if begins 62 bs then Some (Arrow, 2) else Some (Symbol 45, 1)

abbrev pub less_token : List ℕ → Option (TokenKind × ℕ)
less_token bs = if begins 45 bs && begins 62 (drop 1 bs) then Some (BothArrow, 3) else Some (Symbol 60, 1)

abbrev pub token_at : Class → ℕ → List ℕ → Option (TokenKind × ℕ)
token_at Letter b bs = Some (Name, word_len (b ∷ bs))
token_at Digit b bs = Some (Number, number_len (b ∷ bs))
token_at Low b bs = low_token (b ∷ bs)
token_at Single b bs = sized Quoted (quoted_len 39 bs)
token_at Double b bs = sized Text (quoted_len 34 bs)
token_at PerCent b bs = sized Percent (behind 1 (letters_len bs))
token_at Cash b bs = sized Dollar (behind 1 (letters_len bs))
token_at LineEnd b bs = Some (Break, 1)
token_at Minus b bs = minus_token bs
token_at Less b bs = less_token bs
token_at Punctuation b bs = Some (Symbol b, 1)
token_at Other b bs = None

-- the token at the front of a text, and how many bytes it has
abbrev pub token_of : List ℕ → Option (TokenKind × ℕ)
token_of [] = None
token_of (b ∷ bs) = token_at (class_of b) b bs

abbrev pub is_too_long : TokenKind → ℕ → Bool
is_too_long Name n = nat_lt 63 n
is_too_long Number n = nat_lt 63 n
is_too_long Quoted n = nat_lt 257 n
is_too_long _ n = false

-- ---- what stands at the front

abbrev pub begins_with_quote : List ℕ → Bool
begins_with_quote text = begins 39 text || begins 34 text

abbrev pub token_or_fault : Place → List ℕ → Option (TokenKind × ℕ) → Front
token_or_fault place text None = if begins_with_quote text then fault_front (UnclosedQuote place) else fault_front (BadByte place)
token_or_fault place text (Some (kind, n)) = if is_too_long kind n then fault_front (LongName place) else token_front kind n

abbrev pub other_front : Place → List ℕ → Front
other_front place text = if opens_comment text then fault_front (UnclosedComment place) else token_or_fault place text (token_of text)

abbrev pub front_of : Place → ℕ → List ℕ → Front
front_of place at text = if nat_lt 0 (blank_len at text) then blank_front (blank_len at text) else other_front place text

-- tokens `_`, one behind the other
abbrev pub lone_tokens : ℕ → ℕ → List Token
lone_tokens at zero = []
lone_tokens at (suc n) = token_from at Underscore 1 ∷ lone_tokens (at + 1) n

-- how many bytes are taken where a token stands: those of a run of `_` all at once
abbrev pub taken_len : TokenKind → ℕ → List ℕ → ℕ
taken_len Underscore n text = prefix_len (λ b. b == 95) text
taken_len _ n text = n

abbrev pub taken_tokens : ℕ → TokenKind → ℕ → List ℕ → List Token
taken_tokens at Underscore n text = lone_tokens at (prefix_len (λ b. b == 95) text)
taken_tokens at kind n text = token_from at kind n ∷ []
