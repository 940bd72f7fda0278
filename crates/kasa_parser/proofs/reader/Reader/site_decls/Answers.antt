use Rattle.std.proofs.Common.{◌≡◌, ◌∷◌, [], true, refl, rules, ◌∙◌}
use Rattle.kasa_syntax.specs.declared.tokens.TokenKind.TheVariants.{Name, Symbol}
use Rattle.kasa_parser.specs.Words.{starts, only, past_comma}
use Rattle.kasa_parser.specs.Rules.{got}
use Rattle.kasa_parser.specs.Decls.{site_decl}
use Rattle.kasa_parser.proofs.DeclLaws.{next_decl-law}
use Rattle.kasa_parser.proofs.Loops.{list-step, shorter, comma-read}
use Rattle.kasa_parser.proofs.reader.Reader.site_decls.Goals as goal

pub loop-alloc-smaller : goal.loop-alloc-smaller
loop-alloc-smaller c =
    let read : (site_decl).read (past_comma c.loop-alloc.self) ≡ got c.in_ok-site_decl-2.field-0 c.site_decl-in-loop-alloc.new.self = search rules in
    shorter c.loop-alloc.self c.site_decl-in-loop-alloc.new.self c.in_ok-site_decl-2.field-0 next_decl-law (comma-read (site_decl) c.loop-alloc.self ∙ read)

pub loop-alloc-preserved : goal.loop-alloc-preserved
loop-alloc-preserved c =
    let read : (site_decl).read (past_comma c.loop-alloc.self) ≡ got c.in_ok-site_decl-2.field-0 c.site_decl-in-loop-alloc.new.self = search rules in
    let begins : starts (only (Symbol 44 ∷ Name ∷ [])) c.loop-alloc.self ≡ true = search rules in
    let step = list-step (site_decl) _ _ (only (Name ∷ [])) c.loop-alloc.sites.items c.loop-alloc.self c.site_decl-in-loop-alloc.new.self c.in_ok-site_decl-2.field-0 refl refl next_decl-law begins read in
    rw c.in_ok-push-2.ensures.items (c.loop-alloc.invariant ∙ step)
