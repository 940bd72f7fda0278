use Rattle.std.proofs.Common.{◌∙◌, refl}
use Rattle.kasa_graph.specs.Pattern.{with_link}
use Rattle.kasa_graph.proofs.PatternLemmas.{with_site-same}
use Rattle.kasa_graph.proofs.pattern.put_link.Goals as goal

pub returns : goal.returns
unfolding with_link
returns c = c.put_tests.ensures ∙ with_site-same c.args.nodes.now c.args.n c.args.s c.tests_at-tests.result _ _ c.tests_at-tests.ensures refl
