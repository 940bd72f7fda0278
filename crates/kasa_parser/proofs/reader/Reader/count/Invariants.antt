use Rattle.std.proofs.Common.{◌≡◌, length}
use Rattle.kasa_parser.specs.Decls.{counted}
use Rattle.kasa_parser.proofs.Runs.{counted_behind}
use Rattle.kasa_parser.proofs.reader.Reader.count.Given as goal

abbrev pub invariant-loop-word : goal.invariant-loop-word
invariant-loop-word l = (counted).read l.fn.self ≡ counted_behind l.after_open l.self

abbrev pub decreases-loop-word : goal.decreases-loop-word
decreases-loop-word l = length l.self
