use Rattle.std.proofs.Common.{◌≢◌, Ok, Err, rules}
use Rattle.kasa_parser.specs.declared.ParseFault.TheVariants.{NoMemory as no_memory}
use Rattle.kasa_parser.specs.Parses.{IsOutcome}
use Rattle.kasa_parser.specs.Split.{given_of}
use Rattle.kasa_parser.proofs.TextLaws.{outcome_within, is_outcome}
use Rattle.kasa_parser.proofs.parser.parse.Goals as goal

pub read_each-requires-clause-within : goal.read_each-requires-clause-within
read_each-requires-clause-within c = rw c.as_slice.ensures.value (c.in-Ok.ensures.within (outcome_within c.args.text.now c.args.tokens.now c.requires.tokens))

pub returns-clause-tree : goal.returns-clause-tree
returns-clause-tree c =
    let read = rw c.as_slice.ensures.value at c.in_ok-decls.ensures.ok in
    is_outcome c.args.text.now c.args.tokens.now (given_of c.args.text.now c.in-Ok.declared.items) (Ok c.in_ok-decls.decls.items) (c.in-Ok.ensures.given c.args.text.now) read

pub returns-in_err-decls-clause-fault : goal.returns-in_err-decls-clause-fault
returns-in_err-decls-clause-fault c =
    let fault = c.in_err-decls.field-0.0 in
    let read : c.in_err-decls.field-0.0 ≢ no_memory → IsOutcome c.args.text.now c.args.tokens.now (Err c.in_err-decls.field-0.0) =
    λ other. is_outcome c.args.text.now c.args.tokens.now (given_of c.args.text.now c.in-Ok.declared.items) (Err fault) (c.in-Ok.ensures.given c.args.text.now) (rw c.as_slice.ensures.value at (c.in_err-decls.ensures.err other)) in
    search rules
