use Rattle.std.proofs.Common.{◌≡◌, rules}
use Rattle.kasa_parser.specs.Words.{words_of}
use Rattle.kasa_parser.specs.Rules.{stuck}
use Rattle.kasa_parser.specs.Parses.{declaration_from}
use Rattle.kasa_parser.specs.Steps.{onto}
use Rattle.kasa_parser.proofs.AddedLoops.{onto-stuck}
use Rattle.kasa_parser.proofs.FaultLaws.{are_left}
use Rattle.kasa_parser.proofs.parser.read_one.Goals as goal

pub fault_of-requires-clause-left : goal.fault_of-requires-clause-left
fault_of-requires-clause-left c =
    let words = words_of c.args.text.now c.args.one.now.tokens.items in
    let stopped : onto c.args.decls.now.items (declaration_from (words_of c.args.text.now c.args.one.now.tokens.items)) ≡ stuck c.declaration.new.self = search rules in
    are_left words c.declaration.new.self (onto-stuck c.args.decls.now.items (declaration_from words) c.declaration.new.self stopped)
