use Rattle.std.proofs.Common.{◌≡◌, drop}
use Rattle.kasa_parser.specs.Parses.{read_all}
use Rattle.kasa_parser.specs.Split.{given_of, read_behind}
use Rattle.kasa_parser.proofs.parser.read_each.Given as goal

abbrev pub invariant-loop-one : goal.invariant-loop-one
invariant-loop-one l = read_all l.text (given_of l.text l.declared) ≡ read_behind l.text l.decls.items (given_of l.text (drop l.one-index l.declared))
