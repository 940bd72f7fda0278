use Rattle.std.proofs.Common.{arith}
use Rattle.std.proofs.lemmas.Grind.{common_steps}
use Rattle.kasa_graph.specs.Mixture.{with_joined, IsSmallMixture}
use Rattle.kasa_graph.proofs.CellLemmas.{IsSmallMixture-of, IsSmallMixture-changed, IsMixture-with_joined, length-with_joined}
use Rattle.kasa_graph.proofs.mixture.Mixture.join.Goals as goal

pub invariant_of-self : goal.invariant_of-self
invariant_of-self c =
    let ok : IsSmallMixture c.args.self.now = rw c.self.view_is at c.self.invariant in
    IsSmallMixture-of (with_joined c.args.self.now c.args.c c.args.s c.args.d c.args.t) _ (grind (arith, common_steps))
    (IsSmallMixture-changed _ _ ok (IsMixture-with_joined _ _ _ _ _ c.requires.first c.requires.second c.requires.differ ok.linked c.requires.first_free c.requires.second_free) (length-with_joined _ _ _ _ _))
