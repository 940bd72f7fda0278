use Rattle.kasa_lexer.proofs.OutcomeLemmas.{lone-pushed}
use Rattle.kasa_lexer.proofs.lexer.push_lone.Goals as goal

pub loop-i-preserved : goal.loop-i-preserved
loop-i-preserved c =
    lone-pushed c.args.tokens.now.items c.loop-i.tokens.items c.push_token.new.tokens.items c.args.at c.loop-i.i c.loop-i.invariant c.in_ok-push_token.ensures.ok
