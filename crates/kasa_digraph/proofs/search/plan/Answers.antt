use Rattle.std.proofs.Common.{arith}
use Rattle.std.proofs.lemmas.Grind.{common_steps}
use Rattle.kasa_digraph.proofs.Searching.{with_visits_push}
use Rattle.kasa_digraph.proofs.search.plan.Goals as goal

pub loop-q-preserved : goal.loop-q-preserved
loop-q-preserved c = grind (arith, common_steps, with_visits_push)
