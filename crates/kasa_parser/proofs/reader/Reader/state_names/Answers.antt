use Rattle.std.proofs.Common.{◌≡◌, ◌∷◌, [], true, refl, rules, ◌∙◌}
use Rattle.kasa_syntax.specs.declared.tokens.TokenKind.TheVariants.{Name, Number, Symbol}
use Rattle.kasa_parser.specs.Words.{starts, only, past_comma}
use Rattle.kasa_parser.specs.Rules.{got, word}
use Rattle.kasa_parser.specs.Decls.{state_name_of}
use Rattle.kasa_parser.proofs.DeclLaws.{next_state-law}
use Rattle.kasa_parser.proofs.Loops.{list-step, shorter, comma-read}
use Rattle.kasa_parser.proofs.reader.Reader.state_names.Goals as goal

pub loop-self-smaller : goal.loop-self-smaller
loop-self-smaller c =
    let read : (word state_name_of).read (past_comma c.loop-self.self) ≡ got c.in_ok-state_name-2.field-0 c.state_name-in-loop-self.new.self = search rules in
    shorter c.loop-self.self c.state_name-in-loop-self.new.self c.in_ok-state_name-2.field-0 next_state-law (comma-read (word state_name_of) c.loop-self.self ∙ read)

pub loop-self-preserved : goal.loop-self-preserved
loop-self-preserved c =
    let read : (word state_name_of).read (past_comma c.loop-self.self) ≡ got c.in_ok-state_name-2.field-0 c.state_name-in-loop-self.new.self = search rules in
    let begins : starts (only (Symbol 44 ∷ Name ∷ Number ∷ [])) c.loop-self.self ≡ true = search rules in
    let step = list-step (word state_name_of) _ _ (only (Name ∷ Number ∷ [])) c.loop-self.states.items c.loop-self.self c.state_name-in-loop-self.new.self c.in_ok-state_name-2.field-0 refl refl next_state-law begins read in
    rw c.in_ok-push-2.ensures.items (c.loop-self.invariant ∙ step)
