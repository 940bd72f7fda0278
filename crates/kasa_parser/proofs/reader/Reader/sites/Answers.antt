use Rattle.std.proofs.Common.{◌≡◌, refl, rules, ◌∙◌, true, ◌∷◌, []}
use Rattle.kasa_syntax.specs.declared.tokens.TokenKind.TheVariants.{Name, Symbol}
use Rattle.kasa_parser.specs.Words.{starts, only, past_comma}
use Rattle.kasa_parser.specs.Rules.{got}
use Rattle.kasa_parser.specs.Grammar.{site}
use Rattle.kasa_parser.proofs.GrammarLaws.{next_site-law}
use Rattle.kasa_parser.proofs.Loops.{list-step, shorter, comma-read}
use Rattle.kasa_parser.proofs.reader.Reader.sites.Goals as goal

pub loop-self-smaller : goal.loop-self-smaller
loop-self-smaller c =
    let read : (site c.args.edit).read (past_comma c.loop-self.self) ≡ got c.in_ok-site-2.field-0 c.site-in-loop-self.new.self = search rules in
    shorter c.loop-self.self c.site-in-loop-self.new.self c.in_ok-site-2.field-0 (next_site-law c.args.edit) (comma-read (site c.args.edit) c.loop-self.self ∙ read)

pub loop-self-preserved : goal.loop-self-preserved
loop-self-preserved c =
    let read : (site c.args.edit).read (past_comma c.loop-self.self) ≡ got c.in_ok-site-2.field-0 c.site-in-loop-self.new.self = search rules in
    let begins : starts (only (Symbol 44 ∷ Name ∷ [])) c.loop-self.self ≡ true = search rules in
    let step = list-step (site c.args.edit) _ _ (only (Name ∷ [])) c.loop-self.sites.items c.loop-self.self c.site-in-loop-self.new.self c.in_ok-site-2.field-0 refl refl (next_site-law c.args.edit) begins read in
    rw c.in_ok-push-2.ensures.items (c.loop-self.invariant ∙ step)
