use Rattle.std.proofs.Common.{◌≡◌, ◌∷◌, [], length}
use Rattle.kasa_syntax.specs.declared.tokens.TokenKind.TheVariants.{Name}
use Rattle.kasa_parser.specs.Words.{only}
use Rattle.kasa_parser.specs.Decls.{site_decl, site_decls}
use Rattle.kasa_parser.proofs.Loops.{with_more}
use Rattle.kasa_parser.proofs.reader.Reader.site_decls.Given as goal

abbrev pub invariant-loop-alloc : goal.invariant-loop-alloc
invariant-loop-alloc l = (site_decls).read l.fn.self ≡ with_more (only (Name ∷ [])) (site_decl) l.sites.items l.self

abbrev pub decreases-loop-alloc : goal.decreases-loop-alloc
decreases-loop-alloc l = length l.self
