use Rattle.std.proofs.Common.{◌≡◌, ◌+◌, option_map, drop}
use Rattle.kasa_lexer.specs.Front.{closing_len}
use Rattle.kasa_lexer.proofs.blank.closing_len.Given as goal

-- what is still to be found, that many bytes behind the first
abbrev pub invariant-loop-i : goal.invariant-loop-i
invariant-loop-i l = closing_len l.text ≡ option_map (λ n. l.i + n) (closing_len (drop l.i l.text))
