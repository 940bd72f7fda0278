-- Words' digits and spans.
use Rattle.std.proofs.Common.{◌≡◌, ℕ, ◌+◌, ◌-◌, ◌*◌, ◌<◌, ◌≤◌, List, Bool, true, false, not, length, get_or, take, Some, None, refl, arith, nat_le, ◌∷◌, []}
use Rattle.kasa_syntax.specs.declared.tokens.Token.{Token}
use Rattle.kasa_parser.specs.Words.{Word, word_of, words_of}
use Rattle.kasa_parser.specs.Decls.{end_of, span_of}
use Rattle.kasa_parser.specs.Steps.{has_words}
use Rattle.std.proofs.lemmas.Bool.Decides.{nat_tests}
use Rattle.std.proofs.lemmas.List.Folds.{list_any_at}
use Rattle.std.proofs.lemmas.Int.Digits.{digits_value_more}
use Rattle.std.proofs.lemmas.Str.Parse.{digits_value-take-le}
use Rattle.std.specs.Char.{digit_value}
use Rattle.std.specs.Str.Parse.{digits_value}
use Rattle.kasa_lexer.specs.Bytes.{is_digit}
use Rattle.kasa_parser.specs.Words.{are_digits}
use Rattle.kasa_parser.specs.Grammar.{label_number}

digit-by : (bs : List ℕ) (i : ℕ) (b : Bool) → is_digit (get_or bs i 0) ≡ b → are_digits bs ≡ true → i < length bs → b ≡ true
digit-by bs i true e h lt = refl
digit-by bs i false e h lt =
    let other : not (is_digit (get_or bs i 0)) ≡ true = rw e refl in
    let found = list_any_at (λ b. not (is_digit b)) bs i 0 lt other in
    let no : not true ≡ true = rw found at h in
    no

pub digit_at : (bs : List ℕ) (i : ℕ) → are_digits bs ≡ true → i < length bs → is_digit (get_or bs i 0) ≡ true
digit_at bs i h lt = digit-by bs i (is_digit (get_or bs i 0)) refl h lt

digit-worth : (b : ℕ) → is_digit b ≡ true → digit_value b ≡ b - 48
digit-worth b h = grind (arith, nat_tests)

pub next_value : (bs : List ℕ) (i number : ℕ) → are_digits bs ≡ true → i < length bs → number ≡ digits_value 10 (take i bs) → digits_value 10 (take (i + 1) bs) ≡ number * 10 + (get_or bs i 0 - 48)
next_value bs i number h lt value = rw (digits_value_more 10 bs i lt, digit-worth (get_or bs i 0) (digit_at bs i h lt), value) refl

label-large : (value : ℕ) → 65535 < value → nat_le value 65535 ≡ false
label-large value h = grind (arith, nat_tests)

pub no_label : (bs : List ℕ) (i number : ℕ) → are_digits bs ≡ true → number ≡ digits_value 10 (take i bs) → 65535 < number → None ≡ label_number bs
no_label bs i number h value large =
    let most = digits_value-take-le 10 bs i (omega arith) in
    let above : 65535 < digits_value 10 bs = omega arith in
    rw (h, label-large (digits_value 10 bs) above) refl

label-small : (value : ℕ) → value ≤ 65535 → nat_le value 65535 ≡ true
label-small value h = grind (arith, nat_tests)

pub a_label : (bs : List ℕ) (number : ℕ) → are_digits bs ≡ true → number ≡ digits_value 10 bs → number ≤ 65535 → Some number ≡ label_number bs
a_label bs number h value small = rw (h, ← value, label-small number small) refl

last-end : (text : List ℕ) (t : Token) (ts : List Token) (other : Token) → (get_or (t ∷ ts) (length ts) other).end ≡ end_of (word_of text t) (words_of text ts)
last-end text t [] other = refl
last-end text t (x ∷ xs) other = last-end text x xs other

pub span_is : (text : List ℕ) (ts : List Token) (other : Token) (ws : List Word) → words_of text ts ≡ ws → has_words ws ≡ true
    → record { start = (get_or ts 0 other).start; end = (get_or ts (length ts - 1) other).end } ≡ span_of ws
span_is text [] other ws e h =
    let no : false ≡ true = rw (← e) at h in
    absurd (cc)
span_is text (t ∷ ts) other ws e h =
    let less : length (t ∷ ts) - 1 ≡ length ts = omega arith in
    rw (← e, less, last-end text t ts other) refl
