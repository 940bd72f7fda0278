use Rattle.std.proofs.Common.{◌≡◌, length}
use Rattle.kasa_parser.specs.Decls.{dollar_parts}
use Rattle.kasa_parser.specs.Steps.{onto}
use Rattle.kasa_parser.proofs.reader.Reader.dollar_parts.Given as goal

abbrev pub invariant-loop-alloc : goal.invariant-loop-alloc
invariant-loop-alloc l = onto l.fn.decls.items (dollar_parts.read l.fn.self) ≡ onto l.decls.items (dollar_parts.read l.self)

abbrev pub decreases-loop-alloc : goal.decreases-loop-alloc
decreases-loop-alloc l = length l.self
