use Rattle.std.proofs.Common.{rules, ◌≡◌, ◌<◌, ◌^◌, [], ◌∷◌, ◌++◌, length, arith, length-append}
use Rattle.std.specs.Prelude.{Some}
use Rattle.kasa_graph.specs.Mixture.{first_agent, IsSmallMixture}
use Rattle.kasa_graph.specs.Signature.{state_counts}
use Rattle.kasa_graph.proofs.CellLemmas.{IsSmallMixture-of, IsMixture-same_partners, partner_in-push}
use Rattle.kasa_graph.proofs.mixture.Mixture.add.Goals as goal
use Rattle.kasa_graph.proofs.mixture.Mixture.add.Goals.{In_ok-push}

pushed : (c : In_ok-push) → c.push.new.self.items ≡ c.args.self.now ++ Some (first_agent c.args.sig.now c.args.agent) ∷ []
unfolding first_agent state_counts
pushed c = rw (c.in_ok-push.ensures.items, c.self.view_is, c.in_ok-sites.ensures)

pub invariant_of-self-2 : goal.invariant_of-self-2
invariant_of-self-2 c = let d = (goal.at.invariant_of-self-2 c).In_ok-push in
    let ok : IsSmallMixture c.args.self.now = rw c.self.view_is at c.self.invariant in
    let room : length c.args.self.now < 2 ^ 31 = c.requires.room in
    IsSmallMixture-of _ _ (pushed d) (record {
      linked = IsMixture-same_partners _ _ (partner_in-push _ _ _) ok.linked;
      few = rw (length-append c.args.self.now (Some (first_agent c.args.sig.now c.args.agent) ∷ [])) (omega arith);
    })

pub returns-clause-ok : goal.returns-clause-ok
returns-clause-ok c = let d = (goal.at.returns-clause-ok c).In_ok-push in (search rules, pushed d)
