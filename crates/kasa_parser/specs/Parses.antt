-- What a text's tokens give: its declarations, or the first fault.
use Rattle.std.specs.Prelude.{◌≡◌, ℕ, List, [], ◌∷◌, ◌++◌, length, Result, Ok, Err}
use Rattle.kasa_syntax.specs.declared.tokens.Token.{Token}
use Rattle.kasa_syntax.specs.declared.decls.Decl.{Decl}
use Rattle.kasa_parser.specs.declared.ParseFault.{ParseFault}
use Rattle.kasa_parser.specs.Words.{Word, words_of}
use Rattle.kasa_parser.specs.Rules.{Outcome, got, stuck}
use Rattle.kasa_parser.specs.Decls.{IsDeclaration, read_declaration, said_of, span_of}
use Rattle.kasa_parser.specs.Declarations.{Declaration, declarations_of}
use Rattle.kasa_parser.specs.DeclFaults.{IsFault}
use Rattle.kasa_parser.specs.Steps.{fault_of}

-- ---- the whole text

pub data Parses (text : List ℕ) : List Declaration → Result (List Decl) ParseFault → Type 0 where
  ended : Parses text [] (Ok [])
  read : {d : Declaration} {ds : List Declaration} {decls : List Decl} (given : List Decl) → IsDeclaration d.words given → Parses text ds (Ok decls) → Parses text (d ∷ ds) (Ok (given ++ decls))
  fault_later : {d : Declaration} {ds : List Declaration} {fault : ParseFault} (given : List Decl) → IsDeclaration d.words given → Parses text ds (Err fault) → Parses text (d ∷ ds) (Err fault)
  fault_here : {d : Declaration} {ds : List Declaration} (fault : ParseFault) → IsFault text d.words d.ending fault → Parses text (d ∷ ds) (Err fault)

-- the only outcome of a text's tokens
pub record IsOutcome (text : List ℕ) (tokens : List Token) (outcome : Result (List Decl) ParseFault) : Type 0 where
  pub parses : Parses text (declarations_of (length text) (words_of text tokens)) outcome
  pub only : (other : Result (List Decl) ParseFault) → Parses text (declarations_of (length text) (words_of text tokens)) other → other ≡ outcome

-- ---- reading the whole text

-- what a declaration gives
abbrev pub declaration_from : List Word → Outcome (List Decl)
declaration_from ws = said_of (span_of ws) (read_declaration ws)

abbrev pub with_more : List Decl → Result (List Decl) ParseFault → Result (List Decl) ParseFault
with_more given (Ok decls) = Ok (given ++ decls)
with_more given (Err fault) = Err fault

abbrev pub with_read : List ℕ → Declaration → Outcome (List Decl) → Result (List Decl) ParseFault → Result (List Decl) ParseFault
with_read text d (got given left) more = with_more given more
with_read text d (stuck left) more = Err (fault_of text d.ending d.words left)

-- what the declarations give, or the first fault
abbrev pub read_all : List ℕ → List Declaration → Result (List Decl) ParseFault
read_all text [] = Ok []
read_all text (d ∷ ds) = with_read text d (declaration_from d.words) (read_all text ds)
