use Rattle.std.proofs.Common.{arith}
use Rattle.std.proofs.lemmas.Grind.{common_steps}
use Rattle.kasa_graph.specs.Mixture.{with_agent_state, IsSmallMixture}
use Rattle.kasa_graph.proofs.CellLemmas.{IsSmallMixture-of, IsSmallMixture-changed, IsMixture-same_partners, partner_in-with_agent_state, length-with_agent_state}
use Rattle.kasa_graph.proofs.mixture.Mixture.set_state.Goals as goal

pub invariant_of-self : goal.invariant_of-self
invariant_of-self c =
    let ok : IsSmallMixture c.args.self.now = rw c.self.view_is at c.self.invariant in
    IsSmallMixture-of (with_agent_state c.args.self.now c.args.cell c.args.site c.args.state) _ (grind (arith, common_steps))
    (IsSmallMixture-changed _ _ ok (IsMixture-same_partners _ _ (partner_in-with_agent_state _ _ _ _) ok.linked) (length-with_agent_state _ _ _ _))
