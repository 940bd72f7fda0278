use Rattle.std.proofs.Common.{◌≡◌, ◌∷◌, [], length}
use Rattle.kasa_syntax.specs.declared.tokens.TokenKind.TheVariants.{Name, Symbol}
use Rattle.kasa_parser.specs.Words.{only}
use Rattle.kasa_parser.specs.Grammar.{item, items}
use Rattle.kasa_parser.proofs.Loops.{with_more}
use Rattle.kasa_parser.proofs.reader.Reader.items.Given as goal

abbrev pub invariant-loop-alloc : goal.invariant-loop-alloc
invariant-loop-alloc l = (items l.fn.edit).read l.fn.self ≡ with_more (only (Name ∷ Symbol 46 ∷ [])) (item l.fn.edit) l.items.items l.self

abbrev pub decreases-loop-alloc : goal.decreases-loop-alloc
decreases-loop-alloc l = length l.self
