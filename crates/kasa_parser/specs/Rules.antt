-- The parts that a grammar is made of. A rule says which words are which tree (`Is`), and how words are read from the left
-- (`read`). The laws of `proofs/RuleLaws` say, for each part, that the second finds what the first says.
use Rattle.std.specs.Prelude.{◌≡◌, ◌⊎◌, ℕ, zero, suc, List, [], ◌∷◌, ◌++◌, length, Bool, false, if◌then◌else◌, Option, Some, None}
use Rattle.kasa_syntax.specs.declared.tokens.TokenKind.TheVariants.{Symbol}
use Rattle.kasa_parser.specs.Words.{Word, Kinds, only, ◌or◌, same_kind, starts, rest}

-- what was read and the words that are left, or the words that are left where the first of them can't stand
pub data Outcome (A : Type 0) : Type 0 where
  got : A → List Word → Outcome A
  stuck : List Word → Outcome A

abbrev pub behind : {A B : Type 0} → Outcome A → (A → List Word → Outcome B) → Outcome B
behind (got x left) next = next x left
behind (stuck left) next = stuck left

pub record Rule (A : Type 0) : Type 1 where
  pub Is : List Word → A → Type 0
  pub read : List Word → Outcome A

-- ---- no word

abbrev pub give : {A : Type 0} → A → Rule A
give x = record { Is = λ ws y. (ws ≡ []) × (y ≡ x); read = λ ws. got x ws }

-- ---- one word, of which something is taken

abbrev pub one_word : {A : Type 0} → Option A → List Word → Outcome A
one_word None ws = stuck ws
one_word (Some x) ws = got x (rest ws)

abbrev pub at_first : {A : Type 0} → (Word → Option A) → List Word → Option A
at_first take [] = None
at_first take (w ∷ ws) = take w

abbrev pub word : {A : Type 0} → (Word → Option A) → Rule A
word take = record { Is = λ ws x. (w : Word) × (take w ≡ Some x) × (ws ≡ w ∷ []); read = λ ws. one_word (at_first take ws) ws }

-- ---- one after another: the second may hang on what the first gave

infixr 20 ◌▹◌
abbrev pub ◌▹◌ : {A B : Type 0} → Rule A → (A → Rule B) → Rule B
◌▹◌ {A} {B} r s = record {
  Is = λ ws y. (x : A) × (a b : List Word) × r.Is a x × (s x).Is b y × (ws ≡ a ++ b);
  read = λ ws. behind (r.read ws) (λ x left. (s x).read left);
}

-- ---- one or the other, by the kind of the first word

abbrev pub by_first : {A : Type 0} → Kinds → Rule A → Rule A → Rule A
by_first kinds r s = record {
  Is = λ ws x. r.Is ws x ⊎ s.Is ws x;
  read = λ ws. if starts kinds ws then r.read ws else s.read ws;
}

-- ---- one after another of the same rule, which has a word at least, as far as words of these kinds begin one

abbrev pub AreMany : {A : Type 0} → (List Word → A → Type 0) → List Word → List A → Type 0
AreMany IsOne ws [] = ws ≡ []
AreMany IsOne ws (x ∷ xs) = (a b : List Word) × IsOne a x × AreMany IsOne b xs × (ws ≡ a ++ b)

-- as long as the words to come pass a test, and at most so many
abbrev pub read_many : {A : Type 0} → (List Word → Bool) → (List Word → Outcome A) → ℕ → List Word → Outcome (List A)
read_many goes one zero ws = got [] ws
read_many goes one (suc most) ws =
    if goes ws then behind (one ws) (λ x left. behind (read_many goes one most left) (λ xs last. got (x ∷ xs) last))
    else got [] ws

abbrev pub many : {A : Type 0} → Kinds → Rule A → Rule (List A)
many kinds r = record { Is = AreMany r.Is; read = λ ws. read_many (starts kinds) r.read (length ws) ws }

-- ---- one after another of the same rule, and then words of another one that don't pass a test of more than their first word

abbrev pub as_long_as : {A : Type 0} → (List Word → Bool) → Rule A → Rule (Unit {0}) → Rule (List A)
as_long_as goes r s = record {
  Is = λ ws xs. (a b : List Word) × AreMany r.Is a xs × s.Is b tt × (goes b ≡ false) × (ws ≡ a ++ b);
  read = λ ws. behind (read_many goes r.read (length ws) ws) (λ xs left. behind (s.read left) (λ none last. got xs last));
}

-- ---- made of these

abbrev pub symbol_at : ℕ → Word → Option (Unit {0})
symbol_at b w = if same_kind (Symbol b) w.kind then Some tt else None

-- the symbol with this byte
abbrev pub symbol : ℕ → Rule (Unit {0})
symbol b = word (symbol_at b)

-- what begins with such a word, or nothing
abbrev pub maybe : {A : Type 0} → Kinds → Rule A → Rule (Option A)
maybe kinds r = by_first kinds (r ▹ λ x. give (Some x)) (give None)

abbrev pub behind_comma : {A : Type 0} → Rule A → Rule A
behind_comma r = by_first (only (Symbol 44 ∷ [])) (symbol 44 ▹ λ comma. r) r

-- a list: one comma may stand between two elements, and none before the first or after the last
abbrev pub listed_some : {A : Type 0} → Kinds → Rule A → Rule (List A)
listed_some kinds r = r ▹ λ x. many (only (Symbol 44 ∷ []) or kinds) (behind_comma r) ▹ λ xs. give (x ∷ xs)

abbrev pub listed : {A : Type 0} → Kinds → Rule A → Rule (List A)
listed kinds r = by_first kinds (listed_some kinds r) (give [])

-- at most one of each, in either order
abbrev pub in_any_order : {A B C : Type 0} → Kinds → Rule A → Kinds → Rule B → (Option A → Option B → C) → Rule C
in_any_order on_a a on_b b f =
    by_first on_a (a ▹ λ x. maybe on_b b ▹ λ y. give (f (Some x) y))
    (by_first on_b (b ▹ λ y. maybe on_a a ▹ λ x. give (f x (Some y))) (give (f None None)))
