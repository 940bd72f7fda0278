use Rattle.std.proofs.Common.{refl}
use Rattle.std.specs.Prelude.{Bool, true, false, not, IsTrue, ◌↔◌}
use Rattle.std.specs.Bool.{OnTrue, OnFalse}
use Rattle.kasa_pre.proofs.allows.is_dead.Goals as goal

refused : (P : Type 0) (b : Bool) → IsTrue b ↔ P → OnTrue (not b) (¬ P)
refused P true tells = tt
refused P false tells = λ p. let yes = tells.1 p in absurd cc

granted : (P : Type 0) (b : Bool) → IsTrue b ↔ P → OnFalse (not b) P
granted P true tells = tells.0 refl
granted P false tells = tt

pub returns-clause-dead : goal.returns-clause-dead
returns-clause-dead g c = refused _ c.allowed.result (rw c.left.ensures.pattern at c.allowed.ensures.allowed)

pub returns-clause-alive : goal.returns-clause-alive
returns-clause-alive g c = granted _ c.allowed.result (rw c.left.ensures.pattern at c.allowed.ensures.allowed)
