use Rattle.std.proofs.Common.{arith}
use Rattle.std.proofs.lemmas.Grind.{common_steps}
use Rattle.kasa_graph.specs.Mixture.{removed, IsSmallMixture}
use Rattle.kasa_graph.proofs.CellLemmas.{IsSmallMixture-of, IsSmallMixture-changed, living_of_type}
use Rattle.kasa_graph.proofs.RemoveLemmas.{IsMixture-removed, length-removed}
use Rattle.kasa_graph.proofs.mixture.Mixture.remove.Goals as goal

pub invariant_of-self : goal.invariant_of-self
invariant_of-self c =
    let ok : IsSmallMixture c.args.self.now = rw c.self.view_is at c.self.invariant in
    IsSmallMixture-of (removed c.args.self.now c.args.cell) _ (grind (arith, common_steps))
    (IsSmallMixture-changed _ _ ok (IsMixture-removed _ _ ok.linked) (length-removed _ _))

pub remove_agent-requires-clause-alive : goal.remove_agent-requires-clause-alive
remove_agent-requires-clause-alive c = rw (c.deref_mut.ensures.value, c.self.view_is) (living_of_type _ _ c.requires)
