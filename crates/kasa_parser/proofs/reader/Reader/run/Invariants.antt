use Rattle.std.proofs.Common.{◌≡◌, length}
use Rattle.kasa_parser.specs.Decls.{run_of}
use Rattle.kasa_parser.proofs.reader.Reader.run.Given as goal

abbrev pub invariant-loop-word : goal.invariant-loop-word
invariant-loop-word l = (run_of l.fn.which).read l.fn.self ≡ (run_of l.fn.which).read l.self

abbrev pub decreases-loop-word : goal.decreases-loop-word
decreases-loop-word l = length l.self
