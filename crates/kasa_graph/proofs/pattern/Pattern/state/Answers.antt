use Rattle.std.proofs.Common.{refl, rules}
use Rattle.kasa_graph.specs.Pattern.{state_test, site_at}
use Rattle.std.proofs.Common.{◌≡◌}
use Rattle.std.specs.Prelude.{Some}
use Rattle.kasa_graph.proofs.pattern.Pattern.state.Goals as goal

pub returns : goal.returns
unfolding state_test
returns c = let at : site_at c.args.self.now c.args.node c.args.site ≡ Some c.tests_at.result = search rules in rw at refl
