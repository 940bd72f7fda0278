use Rattle.kasa_graph.specs.SameNames.{same_type}
use Rattle.kasa_graph.proofs.SameLemmas.{SameBelow}
use Rattle.kasa_graph.proofs.signature.SignaturePartialEq.eq.Given as goal

abbrev pub invariant-loop-agent : goal.invariant-loop-agent
invariant-loop-agent l = SameBelow same_type l.self l.other l.agent
