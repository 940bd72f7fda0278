use Rattle.std.proofs.Common.{◌≡◌, ◌∷◌, [], false, length}
use Rattle.kasa_syntax.specs.declared.tokens.TokenKind.TheVariants.{Name}
use Rattle.kasa_parser.specs.Words.{only}
use Rattle.kasa_parser.specs.Grammar.{agent}
use Rattle.kasa_parser.specs.Decls.{agents}
use Rattle.kasa_parser.proofs.Loops.{with_more}
use Rattle.kasa_parser.proofs.reader.Reader.agents.Given as goal

abbrev pub invariant-loop-alloc : goal.invariant-loop-alloc
invariant-loop-alloc l = agents.read l.fn.self ≡ with_more (only (Name ∷ [])) (agent false) l.agents.items l.self

abbrev pub decreases-loop-alloc : goal.decreases-loop-alloc
decreases-loop-alloc l = length l.self
