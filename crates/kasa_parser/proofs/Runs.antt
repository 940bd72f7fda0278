-- Reading a run of words in a loop.
use Rattle.std.proofs.Common.{List, Bool}
use Rattle.kasa_parser.specs.Words.{Word}
use Rattle.kasa_parser.specs.Rules.{Outcome, got, behind}
use Rattle.kasa_parser.specs.Decls.{last_or, count}

-- whether the last word of a count is `(`, where the last one so far was or not
abbrev pub counted_behind : Bool → List Word → Outcome Bool
counted_behind b ws = behind (count.read ws) (λ some left. got (last_or b some) left)
