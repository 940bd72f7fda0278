use Rattle.std.proofs.Common.{◌≡◌, refl, rules, ◌∙◌, true, ◌∷◌, []}
use Rattle.kasa_syntax.specs.declared.tokens.TokenKind.TheVariants.{Name, Symbol}
use Rattle.kasa_parser.specs.Words.{starts, only, past_comma}
use Rattle.kasa_parser.specs.Rules.{got}
use Rattle.kasa_parser.specs.Grammar.{item}
use Rattle.kasa_parser.proofs.GrammarLaws.{next_item-law}
use Rattle.kasa_parser.proofs.Loops.{list-step, shorter, comma-read}
use Rattle.kasa_parser.proofs.reader.Reader.items.Goals as goal

pub loop-alloc-smaller : goal.loop-alloc-smaller
loop-alloc-smaller c =
    let read : (item c.args.edit).read (past_comma c.loop-alloc.self) ≡ got c.in_ok-item-2.field-0 c.item-in-loop-alloc.new.self = search rules in
    shorter c.loop-alloc.self c.item-in-loop-alloc.new.self c.in_ok-item-2.field-0 (next_item-law c.args.edit) (comma-read (item c.args.edit) c.loop-alloc.self ∙ read)

pub loop-alloc-preserved : goal.loop-alloc-preserved
loop-alloc-preserved c =
    let read : (item c.args.edit).read (past_comma c.loop-alloc.self) ≡ got c.in_ok-item-2.field-0 c.item-in-loop-alloc.new.self = search rules in
    let begins : starts (only (Symbol 44 ∷ Name ∷ Symbol 46 ∷ [])) c.loop-alloc.self ≡ true = search rules in
    let step = list-step (item c.args.edit) _ _ (only (Name ∷ Symbol 46 ∷ [])) c.loop-alloc.items.items c.loop-alloc.self c.item-in-loop-alloc.new.self c.in_ok-item-2.field-0 refl refl (next_item-law c.args.edit) begins read in
    rw c.in_ok-push-2.ensures.items (c.loop-alloc.invariant ∙ step)
