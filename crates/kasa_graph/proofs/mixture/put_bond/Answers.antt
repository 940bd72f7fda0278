use Rattle.std.proofs.Common.{rules}
use Rattle.kasa_graph.proofs.CellLemmas.{HasAgentSite-with_partner}
use Rattle.kasa_graph.proofs.mixture.put_bond.Goals as goal

pub put_partner-requires-2 : goal.put_partner-requires-2
put_partner-requires-2 c = rw c.put_partner.ensures (HasAgentSite-with_partner _ _ _ _ _ _ (search rules))
