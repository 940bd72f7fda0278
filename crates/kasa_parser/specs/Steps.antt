-- What the steps of the reader give.
use Rattle.std.specs.Prelude.{◌≡◌, ◌≤◌, ◌-◌, ◌&&◌, if◌then◌else◌, ℕ, Bool, true, false, not, List, [], ◌∷◌, ◌++◌, length, take, Option, Some, None, Result, Ok, Err, codes}
use Rattle.std.specs.List.{AllByRecursion}
use Rattle.kasa_syntax.specs.declared.tokens.Token.{Token}
use Rattle.kasa_parser.specs.declared.reader.Stop.{Stop}
use Rattle.kasa_parser.specs.declared.reader.Stop.TheVariants.{NoMemory, Stuck}
use Rattle.kasa_num.specs.declared.Place.{Place}
use Rattle.kasa_syntax.specs.Place.{place_at}
use Rattle.kasa_syntax.specs.declared.decls.Decl.{Decl}
use Rattle.kasa_syntax.specs.declared.tokens.TokenKind.TheVariants.{Percent, Symbol}
use Rattle.kasa_parser.specs.declared.ParseFault.{ParseFault}
use Rattle.kasa_parser.specs.declared.ParseFault.TheVariants.{Unexpected, Tokens, Intervention, LongLabel}
use Rattle.kasa_syntax.specs.declared.tokens.TokenKind.{TokenKind}
use Rattle.kasa_parser.specs.Declarations.{goes_on}
use Rattle.kasa_parser.specs.Words.{Word, only, starts, begins_with, is_of, is_digits}
use Rattle.kasa_parser.specs.Grammar.{is_label}
use Rattle.kasa_parser.specs.Decls.{Said, is_keyword, is_intervention, read_declaration}
use Rattle.kasa_parser.specs.DeclFaults.{an_agent, a_label}
use Rattle.kasa_parser.specs.Rules.{Outcome, got, stuck}

-- The outcome on the words before a step is what the step gives, with the words that are left then. Nothing is said where
-- there was no memory.
abbrev pub Gives : {A : Type 0} → Outcome A → Result A Stop → List Word → Type 0
Gives outcome (Ok x) left = outcome ≡ got x left
Gives outcome (Err NoMemory) left = Unit {0}
Gives outcome (Err Stuck) left = outcome ≡ stuck left

-- declarations, and what more the outcome gives
abbrev pub onto : List Decl → Outcome (List Decl) → Outcome (List Decl)
onto done (got given left) = got (done ++ given) left
onto done (stuck left) = stuck left

-- Behind these declarations a step gives those that the outcome adds to them, with the words that are left then.
abbrev pub Adds : Outcome (List Decl) → List Decl → Result (Unit {0}) Stop → List Decl → List Word → Type 0
Adds outcome done (Ok none) new left = onto done outcome ≡ got new left
Adds outcome done (Err NoMemory) new left = Unit {0}
Adds outcome done (Err Stuck) new left = onto done outcome ≡ stuck left

abbrev pub first : List Word → Option Word
first [] = None
first (w ∷ ws) = Some w

abbrev pub has_words : List Word → Bool
has_words [] = false
has_words (w ∷ ws) = true

-- each token lies within a text of so many bytes
abbrev pub AreWithin : ℕ → List Token → Type 0
AreWithin size tokens = AllByRecursion (λ t. (t.start ≤ t.end) × (t.end ≤ size)) tokens

-- ---- faults

-- some declaration begins with these words, as reading them tells
abbrev pub can_go_on : List Word → Bool
can_go_on ws = goes_on_at (read_declaration ws)
  where
    goes_on_at : Outcome Said → Bool
    goes_on_at (got said left) = true
    goes_on_at (stuck []) = true
    goes_on_at (stuck (w ∷ left)) = false

-- the words before those that are left
abbrev pub before : List Word → List Word → List Word
before words left = take (length words - length left) words

abbrev pub is_item_place : List Word → Bool
is_item_place used = not (starts (only (Percent ∷ [])) used) && can_go_on (used ++ an_agent)

-- digits that stand for more than any label
abbrev pub is_long : Word → Bool
is_long w = is_digits w && not (is_label w.bytes)

-- the fault at a word that can't stand behind these
abbrev pub fault_at : List Word → Word → Place → ParseFault
fault_at used w place =
    if is_keyword (codes "%token") w then Tokens place
    else (if begins_with (is_keyword (codes "%mod")) used && is_intervention w then Intervention place
    else (if is_of (Symbol 124 ∷ []) w.kind && is_item_place used then Tokens place
    else (if is_long w && can_go_on (used ++ a_label ∷ []) then LongLabel place else Unexpected place)))

-- the fault where a declaration, which ends at an offset, can't be read on before the words that are left
abbrev pub fault_of : List ℕ → ℕ → List Word → List Word → ParseFault
fault_of text ending words [] = Unexpected (place_at text ending)
fault_of text ending words (w ∷ ws) = fault_at (before words (w ∷ ws)) w (place_at text w.span.start)

-- the last of some words
abbrev pub IsLeft : List Word → List Word → Type 0
IsLeft words left = (used : List Word) × (words ≡ used ++ left)

-- ---- splitting

abbrev pub is_none : {A : Type 0} → Option A → Bool
is_none None = true
is_none (Some x) = false

-- a declaration may end behind a token
abbrev pub may_end : Option TokenKind → Bool
may_end None = true
may_end (Some last) = not (goes_on last)
