use Rattle.kasa_graph.proofs.TestLemmas.{HasNodeSite-with_state}
use Rattle.kasa_graph.proofs.PatternLemmas.{link_test-with_state}
use Rattle.kasa_influence.proofs.lone.copy_tests.Goals as goal

pub set_link-requires-clause-exists : goal.set_link-requires-clause-exists
set_link-requires-clause-exists c = rw c.set_state.ensures (HasNodeSite-with_state c.args.v.now 0 c.args.site 0 c.args.site c.state.result c.requires.to)

pub set_link-requires-clause-old : goal.set_link-requires-clause-old
set_link-requires-clause-old c = rw (c.set_state.ensures, link_test-with_state c.args.v.now 0 c.args.site c.state.result 0 c.args.site, c.requires.untested) tt
