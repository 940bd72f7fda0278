use Rattle.std.proofs.Common.{◌≤◌, ◌+◌, length}
use Rattle.kasa_edge.proofs.disk.read_most.Given as goal

abbrev pub invariant-loop : goal.invariant-loop
invariant-loop g l = length l.bytes.items ≤ l.most + 1
