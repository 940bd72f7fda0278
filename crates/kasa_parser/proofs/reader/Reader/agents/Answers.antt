use Rattle.std.proofs.Common.{◌≡◌, ◌∷◌, [], true, false, refl, rules, ◌∙◌}
use Rattle.kasa_syntax.specs.declared.tokens.TokenKind.TheVariants.{Name, Symbol}
use Rattle.kasa_parser.specs.Words.{starts, only, past_comma}
use Rattle.kasa_parser.specs.Rules.{got}
use Rattle.kasa_parser.specs.Grammar.{agent}
use Rattle.kasa_parser.proofs.DeclLaws.{next_agent-law}
use Rattle.kasa_parser.proofs.Loops.{list-step, shorter, comma-read}
use Rattle.kasa_parser.proofs.reader.Reader.agents.Goals as goal

pub loop-alloc-smaller : goal.loop-alloc-smaller
loop-alloc-smaller c =
    let read : (agent false).read (past_comma c.loop-alloc.self) ≡ got c.in_ok-agent-2.field-0 c.agent-in-loop-alloc.new.self = search rules in
    shorter c.loop-alloc.self c.agent-in-loop-alloc.new.self c.in_ok-agent-2.field-0 next_agent-law (comma-read (agent false) c.loop-alloc.self ∙ read)

pub loop-alloc-preserved : goal.loop-alloc-preserved
loop-alloc-preserved c =
    let read : (agent false).read (past_comma c.loop-alloc.self) ≡ got c.in_ok-agent-2.field-0 c.agent-in-loop-alloc.new.self = search rules in
    let begins : starts (only (Symbol 44 ∷ Name ∷ [])) c.loop-alloc.self ≡ true = search rules in
    let step = list-step (agent false) _ _ (only (Name ∷ [])) c.loop-alloc.agents.items c.loop-alloc.self c.agent-in-loop-alloc.new.self c.in_ok-agent-2.field-0 refl refl next_agent-law begins read in
    rw c.in_ok-push-2.ensures.items (c.loop-alloc.invariant ∙ step)
