use Rattle.std.proofs.Common.{◌≡◌, refl, rules}
use Rattle.std.specs.Prelude.{Some, None}
use Rattle.kasa_graph.specs.Mixture.{agent_in, type_in}
use Rattle.kasa_graph.proofs.mixture.Mixture.agent.Goals as goal

pub returns-in-Some : goal.returns-in-Some
unfolding type_in
returns-in-Some c = let at : Some c.in-Some.agent.now ≡ agent_in c.args.self.now c.args.cell = search rules in rw (← at) refl

pub returns-in-None : goal.returns-in-None
unfolding type_in
returns-in-None c = let at : None ≡ agent_in c.args.self.now c.args.cell = search rules in rw (← at) refl
