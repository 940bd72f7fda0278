use Rattle.std.proofs.Common.{◌≡◌, false, length}
use Rattle.kasa_parser.specs.Decls.{added}
use Rattle.kasa_parser.proofs.AddedLoops.{added_from}
use Rattle.kasa_parser.proofs.reader.Reader.as_long_as_agents.Given as goal

abbrev pub invariant-loop-alloc : goal.invariant-loop-alloc
invariant-loop-alloc l = (added l.start false).read l.fn.self ≡ added_from l.start l.agents.items l.end l.self

abbrev pub decreases-loop-alloc : goal.decreases-loop-alloc
decreases-loop-alloc l = length l.self
