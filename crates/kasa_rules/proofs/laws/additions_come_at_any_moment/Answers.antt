use Rattle.std.specs.Prelude.{refl}
use Rattle.kasa_graph.specs.Mixture.{beside}
use Rattle.kasa_rules.specs.Reached.Event.{adds}
use Rattle.kasa_rules.proofs.ReachedLemmas.{Reached-next}
use Rattle.kasa_rules.proofs.laws.additions_come_at_any_moment.Goals as goal

pub returns : goal.returns
returns c = λ model m k n reached added is. Reached-next model m (beside m k) (adds n) reached (added, k, is, refl)
