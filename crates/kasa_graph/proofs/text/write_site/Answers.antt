use Rattle.kasa_graph.proofs.FitLemmas.{link_test-at}
use Rattle.kasa_graph.proofs.text.write_site.Goals as goal

pub write_link-requires-clause-here : goal.write_link-requires-clause-here
write_link-requires-clause-here c = link_test-at c.args.pattern.now c.args.node c.args.site c.args.tests.now c.requires.here
