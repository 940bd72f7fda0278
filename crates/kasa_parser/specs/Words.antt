-- The words of a text: its tokens with their bytes.
use Rattle.std.specs.Prelude.{ℕ, ◌-◌, List, [], ◌∷◌, ◌++◌, map, take, drop, Bool, true, false, not, if◌then◌else◌, ◌==◌, ◌||◌, ◌&&◌}
use Rattle.std.specs.List.{list_any, filter}
use Rattle.kasa_syntax.specs.declared.tokens.Span.{Span}
use Rattle.kasa_syntax.specs.declared.tokens.Token.{Token}
use Rattle.kasa_syntax.specs.declared.tokens.TokenKind.{TokenKind}
use Rattle.kasa_syntax.specs.declared.tokens.TokenKind.TheVariants.{Name, Number, Quoted, Text, Percent, Dollar, Underscore, Break, Arrow, BothArrow, Symbol}
use Rattle.kasa_lexer.specs.Bytes.{is_digit}

pub record Word : Type 0 where
  pub kind : TokenKind
  pub bytes : List ℕ
  pub span : Span

abbrev pub word_of : List ℕ → Token → Word
word_of text t = record {
  kind = t.kind;
  bytes = take (t.end - t.start) (drop t.start text);
  span = record { start = t.start; end = t.end };
}

abbrev pub words_of : List ℕ → List Token → List Word
words_of text tokens = map (word_of text) tokens

-- ---- kinds

infixr 30 ◌or◌
abbrev pub kind_no : TokenKind → ℕ
kind_no (Symbol b) = 0
kind_no Name = 1
kind_no Number = 2
kind_no Quoted = 3
kind_no Text = 4
kind_no Percent = 5
kind_no Dollar = 6
kind_no Underscore = 7
kind_no Break = 8
kind_no Arrow = 9
kind_no BothArrow = 10

abbrev pub same_kind : TokenKind → TokenKind → Bool
same_kind (Symbol b) (Symbol c) = c == b
same_kind j k = kind_no j == kind_no k

-- sets of kinds: only these, or all but these
pub data Kinds : Type 0 where
  only : List TokenKind → Kinds
  but : List TokenKind → Kinds

abbrev pub is_of : List TokenKind → TokenKind → Bool
is_of [] k = false
is_of (j ∷ js) k = same_kind j k || is_of js k

abbrev pub has : Kinds → TokenKind → Bool
has (only js) k = is_of js k
has (but js) k = not (is_of js k)

-- a kind is in the one set or in the other
abbrev pub ◌or◌ : Kinds → Kinds → Kinds
only js or only ks = only (js ++ ks)
only js or but ks = but (filter (λ k. not (is_of js k)) ks)
but js or only ks = but (filter (λ k. not (is_of ks k)) js)
but js or but ks = but (filter (λ k. is_of js k) ks)

-- the first word is of one of these kinds
abbrev pub starts : Kinds → List Word → Bool
starts kinds [] = false
starts kinds (w ∷ ws) = has kinds w.kind

-- the first word passes a test
abbrev pub begins_with : (Word → Bool) → List Word → Bool
begins_with test [] = false
begins_with test (w ∷ ws) = test w

abbrev pub rest : List Word → List Word
rest [] = []
rest (w ∷ ws) = ws

-- the words behind a comma that stands first, or all
abbrev pub past_comma : List Word → List Word
past_comma ws = if starts (only (Symbol 44 ∷ [])) ws then rest ws else ws

abbrev pub are_digits : List ℕ → Bool
are_digits bytes = not (list_any (λ b. not (is_digit b)) bytes)

abbrev pub is_digits_at : TokenKind → List ℕ → Bool
is_digits_at Number bytes = are_digits bytes
is_digits_at _ bytes = false

-- a number that is digits alone
abbrev pub is_digits : Word → Bool
is_digits w = is_digits_at w.kind w.bytes

abbrev pub are_equal : List ℕ → List ℕ → Bool
are_equal [] [] = true
are_equal (x ∷ xs) (y ∷ ys) = (x == y) && are_equal xs ys
are_equal _ _ = false

-- a word of this kind, of which nothing else is told
abbrev pub a_word : TokenKind → Word
a_word k = record { kind = k; bytes = []; span = record { start = 0; end = 0 } }
