-- Splitting tokens into declarations, in one pass: which declarations are due where some of the tokens have been taken.
use Rattle.std.specs.Prelude.{ℕ, ◌≤◌, List, [], ◌++◌, map, if◌then◌else◌, Option, Some, None, Result, Ok, Err}
use Rattle.std.specs.List.{AllByRecursion}
use Rattle.kasa_parser.specs.declared.split.Declared.{Declared}
use Rattle.kasa_parser.specs.declared.split.Split.{Split}
use Rattle.kasa_parser.specs.Words.{Word, words_of}
use Rattle.kasa_parser.specs.Declarations.{Declaration, last_kind, next_kind, ends_at, ended, declarations_from}
use Rattle.kasa_syntax.specs.declared.decls.Decl.{Decl}
use Rattle.kasa_parser.specs.declared.ParseFault.{ParseFault}
use Rattle.kasa_parser.specs.Parses.{read_all}
use Rattle.kasa_parser.specs.Steps.{AreWithin}

abbrev pub declaration_of : List ℕ → Declared → Declaration
declaration_of text d = record { words = words_of text d.tokens.items; ending = d.ending }

abbrev pub given_of : List ℕ → List Declared → List Declaration
given_of text declared = map (declaration_of text) declared

-- the declarations from behind some words of one, and maybe a break behind them, which begins at an offset
abbrev pub broken_from : ℕ → ℕ → List Word → Option ℕ → List Word → List Declaration
broken_from size depth read None ws = declarations_from size depth read ws
broken_from size depth read (Some break_at) ws =
    if ends_at depth (last_kind read) (next_kind ws) then ended read break_at ++ declarations_from size 0 [] ws else declarations_from size depth read ws

-- all declarations, where some of them have been split off and these words follow
abbrev pub split_from : List ℕ → ℕ → Split → List Word → List Declaration
split_from text size s ws = given_of text s.declared.items ++ broken_from size s.depth (words_of text s.read.items) s.broken ws

-- all tokens of declarations and the places where they end lie within a text of so many bytes
abbrev pub AllWithin : ℕ → List Declared → Type 0
AllWithin size declared = AllByRecursion (λ d. (d.ending ≤ size) × AreWithin size d.tokens.items) declared

abbrev pub IsBreakWithin : ℕ → Option ℕ → Type 0
IsBreakWithin size None = Unit {0}
IsBreakWithin size (Some break_at) = break_at ≤ size

abbrev pub AreTaken : ℕ → Split → Type 0
AreTaken size s = AllWithin size s.declared.items × AreWithin size s.read.items × IsBreakWithin size s.broken

-- what declarations give behind what others gave
abbrev pub with_done : List Decl → Result (List Decl) ParseFault → Result (List Decl) ParseFault
with_done done (Ok decls) = Ok (done ++ decls)
with_done done (Err fault) = Err fault

abbrev pub read_behind : List ℕ → List Decl → List Declaration → Result (List Decl) ParseFault
read_behind text done declared = with_done done (read_all text declared)
