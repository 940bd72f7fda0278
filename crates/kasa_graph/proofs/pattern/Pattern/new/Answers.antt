use Rattle.std.proofs.Common.{arith}
use Rattle.kasa_graph.proofs.PatternLemmas.{IsPattern-[]}
use Rattle.kasa_graph.proofs.pattern.Pattern.new.Goals as goal

pub invariant_of-result : goal.invariant_of-result
invariant_of-result c = rw c.new.ensures.items (IsPattern-[], omega arith)
