use Rattle.std.proofs.Common.{◌≢◌, ℕ, ◌<◌}
use Rattle.kasa_graph.specs.declared.pattern.LinkTest.TheVariants.{To}
use Rattle.kasa_graph.specs.Pattern.{link_test}
use Rattle.kasa_embed.proofs.route.bond.Given as goal

abbrev pub invariant-loop-tests : goal.invariant-loop-tests
invariant-loop-tests l = (t s : ℕ) → t < l.tests-index → link_test l.pattern l.fn.to t ≢ To l.from s
