use Rattle.std.proofs.Common.{◌≡◌, take, ◌++◌, ◌∷◌, []}
use Rattle.std.specs.Prelude.{Some, slice_get}
use Rattle.kasa_compile.specs.declared.said.AgentSaid.{AgentSaid}
use Rattle.kasa_compile.specs.Cells.{AreUnjoined}
use Rattle.kasa_compile.proofs.UnjoinedLemmas.{with_sites}
use Rattle.kasa_compile.proofs.complex.add_agent.Given as goal

abbrev pub invariant-loop-site : goal.invariant-loop-site
invariant-loop-site l = (a : AgentSaid) → slice_get l.agents l.number ≡ Some a → AreUnjoined l.sig (take l.number l.agents ++ with_sites a (take l.site-index l.site-items) ∷ []) l.mixture
