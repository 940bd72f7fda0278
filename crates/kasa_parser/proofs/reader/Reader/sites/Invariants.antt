use Rattle.std.proofs.Common.{◌≡◌, ◌∷◌, [], length}
use Rattle.kasa_syntax.specs.declared.tokens.TokenKind.TheVariants.{Name}
use Rattle.kasa_parser.specs.Words.{only}
use Rattle.kasa_parser.specs.Grammar.{site, sites}
use Rattle.kasa_parser.proofs.Loops.{with_more}
use Rattle.kasa_parser.proofs.reader.Reader.sites.Given as goal

abbrev pub invariant-loop-self : goal.invariant-loop-self
invariant-loop-self l = (sites l.fn.edit).read l.fn.self ≡ with_more (only (Name ∷ [])) (site l.fn.edit) l.sites.items l.self

abbrev pub decreases-loop-self : goal.decreases-loop-self
decreases-loop-self l = length l.self
