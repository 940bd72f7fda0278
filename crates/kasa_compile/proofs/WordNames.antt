-- The words of a text that are names, or digits alone, may name types, sites and states.
use Rattle.std.proofs.Common.{◌≡◌, ℕ, ◌+◌, ◌-◌, ◌<◌, ◌≤◌, List, [], ◌∷◌, Bool, true, false, if◌then◌else◌, Some, None, Ok, length, take, drop, refl, sym, subst, arith}
use Rattle.std.proofs.lemmas.List.{length-drop, length-take-le}
use Rattle.std.specs.List.{AllByRecursion}
use Rattle.std.proofs.lemmas.Bool.Decides.{nat_tests}
use Rattle.kasa_graph.specs.Signature.{IsName, IsNameByte}
use Rattle.kasa_graph.proofs.SplitLemmas.{AllByRecursion-weaker}
use Rattle.kasa_syntax.specs.declared.tokens.Token.{Token}
use Rattle.kasa_syntax.specs.declared.tokens.TokenKind.{TokenKind}
use Rattle.kasa_syntax.specs.declared.tokens.TokenKind.TheVariants.{Name, Number}
use Rattle.kasa_lexer.specs.Bytes.{is_word_byte}
use Rattle.kasa_lexer.specs.Tokens.{IsNameText, IsNumberText, StandsToken, Lexes, token_from}
use Rattle.kasa_lexer.specs.Tokens.Lexes.{ended, blank, token}
use Rattle.kasa_parser.specs.Words.{Word, word_of, words_of, are_digits}
use Rattle.kasa_parser.specs.Decls.{state_name_of}
use Rattle.kasa_sig.specs.Words.{IsNameSpan, IfGiven}

-- where a word is a name or digits, its span is that of a name
abbrev pub IsNamed : List ℕ → Word → Type 0
IsNamed text w = IfGiven (IsNameSpan text) (state_name_of w)

abbrev pub AreNamed : List ℕ → List Word → Type 0
AreNamed text ws = AllByRecursion (IsNamed text) ws

-- ---- bytes

name_byte : (b : ℕ) → is_word_byte b ≡ true → IsNameByte b
name_byte b h = grind (arith, nat_tests)

name_text : (bytes : List ℕ) → IsNameText bytes → length bytes ≤ 63 → IsName bytes
name_text [] spelled few = absurd spelled
name_text (b ∷ bytes) (front, are, some) few = record {
  some = omega arith;
  few = few;
  bytes = AllByRecursion-weaker (λ c. is_word_byte c ≡ true) IsNameByte name_byte (b ∷ bytes) are;
}

-- a number has a digit
number_some : (bytes : List ℕ) → IsNumberText bytes → 0 < length bytes
number_some bytes ([], fraction, exponent, (some, are), is_fraction, is_exponent, is) = absurd (some refl)
number_some bytes (d ∷ ds, fraction, exponent, digits, is_fraction, is_exponent, is) = rw is (omega arith)

digits_bytes : (bytes : List ℕ) → are_digits bytes ≡ true → AllByRecursion IsNameByte bytes
digits_bytes [] are = tt
digits_bytes (b ∷ bytes) are = (grind (arith, nat_tests), digits_bytes bytes (grind (arith, nat_tests)))

digits_text : (bytes : List ℕ) → IsNumberText bytes → are_digits bytes ≡ true → length bytes ≤ 63 → IsName bytes
digits_text bytes spelled are few = record { some = number_some bytes spelled; few = few; bytes = digits_bytes bytes are }

-- ---- words

span_named : (text : List ℕ) (at n : ℕ) → n ≤ length (drop at text) → (length (take n (drop at text)) ≤ 63 → IsName (take n (drop at text))) → ¬ (63 < n) → IsNameSpan text (record { start = at; end = at + n })
span_named text at n fits named short =
    let size : (at + n) - at ≡ n = omega arith in
    let bytes : length (take n (drop at text)) ≡ n = length-take-le n (drop at text) fits in
    let is : IsName (take n (drop at text)) = named (omega (arith, bytes, short)) in
    let some : 0 < n = subst (λ k. 0 < k) bytes is.some in
    let within : n ≤ length text - at = subst (λ k. n ≤ k) (length-drop at text) fits in
    record { forward = omega arith; within = omega (arith, some, within); is_name = subst (λ k. IsName (take k (drop at text))) (sym size) is }

token_named : (text : List ℕ) (at n : ℕ) (kind : TokenKind) → StandsToken at (drop at text) kind n → IsNamed text (word_of text (token_from at kind n))
token_named text at n Name (other, longest, short) = span_named text at n longest.within (name_text (take n (drop at text)) longest.spelled) short
token_named text at n Number (other, longest, short) = by (are_digits (take ((at + n) - at) (drop at text))) refl
  where
    size : (at + n) - at ≡ n
    size = omega arith

    by : (b : Bool) → are_digits (take ((at + n) - at) (drop at text)) ≡ b → IfGiven (IsNameSpan text) (if b then Some (record { start = at; end = at + n }) else None)
    by true are = span_named text at n longest.within (digits_text (take n (drop at text)) longest.spelled (subst (λ k. are_digits (take k (drop at text)) ≡ true) size are)) short
    by false are = tt
token_named text at n kind stands = tt

-- the words of a text that is lexed
pub words_named : (text : List ℕ) (at : ℕ) (tokens : List Token) → Lexes text at (Ok tokens) → AreNamed text (words_of text tokens)
words_named text at tokens (ended e) = tt
words_named text at tokens (blank n stands rest) = words_named text (at + n) tokens rest
words_named text at tokens (token kind n stands rest) = (token_named text at n kind stands, words_named text (at + n) _ rest)
