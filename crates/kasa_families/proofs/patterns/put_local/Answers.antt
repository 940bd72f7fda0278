use Rattle.kasa_graph.proofs.PatternLemmas.{link_test-with_state}
use Rattle.kasa_graph.proofs.TestLemmas.{HasNodeSite-with_state}
use Rattle.kasa_families.proofs.patterns.put_local.Goals as goal

pub set_link-requires-clause-exists : goal.set_link-requires-clause-exists
set_link-requires-clause-exists c = rw c.set_state.ensures (HasNodeSite-with_state _ _ _ _ _ _ c.requires.0)

pub set_link-requires-clause-old : goal.set_link-requires-clause-old
set_link-requires-clause-old c = rw (c.set_state.ensures, link_test-with_state) c.requires.1
