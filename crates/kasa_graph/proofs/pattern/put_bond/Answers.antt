use Rattle.std.proofs.Common.{rules}
use Rattle.kasa_graph.proofs.PatternLemmas.{HasNodeSite-with_link}
use Rattle.kasa_graph.proofs.pattern.put_bond.Goals as goal

pub put_link-requires-2 : goal.put_link-requires-2
put_link-requires-2 c = rw c.put_link.ensures (HasNodeSite-with_link _ _ _ _ _ _ (search rules))
