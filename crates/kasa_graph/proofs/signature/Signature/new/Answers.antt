use Rattle.kasa_graph.proofs.SignatureLemmas.{IsSignature-[]}
use Rattle.kasa_graph.proofs.signature.Signature.new.Goals as goal

pub invariant_of-result : goal.invariant_of-result
invariant_of-result c = rw (c.new.ensures.empty) IsSignature-[]
