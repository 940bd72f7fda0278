use Rattle.std.proofs.Common.{◌≡◌, ◌∷◌, [], length}
use Rattle.kasa_syntax.specs.declared.tokens.TokenKind.TheVariants.{Name, Number}
use Rattle.kasa_parser.specs.Words.{only}
use Rattle.kasa_parser.specs.Rules.{word}
use Rattle.kasa_parser.specs.Decls.{state_name_of, state_names}
use Rattle.kasa_parser.proofs.Loops.{with_more}
use Rattle.kasa_parser.proofs.reader.Reader.state_names.Given as goal

abbrev pub invariant-loop-self : goal.invariant-loop-self
invariant-loop-self l = (state_names).read l.fn.self ≡ with_more (only (Name ∷ Number ∷ [])) (word state_name_of) l.states.items l.self

abbrev pub decreases-loop-self : goal.decreases-loop-self
decreases-loop-self l = length l.self
