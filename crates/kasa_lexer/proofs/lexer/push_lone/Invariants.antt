use Rattle.std.proofs.Common.{◌≡◌, ◌++◌}
use Rattle.kasa_lexer.specs.Front.{lone_tokens}
use Rattle.kasa_lexer.proofs.lexer.push_lone.Given as goal

abbrev pub invariant-loop-i : goal.invariant-loop-i
invariant-loop-i l = l.tokens.items ≡ l.initial.tokens.items ++ lone_tokens l.at l.i
