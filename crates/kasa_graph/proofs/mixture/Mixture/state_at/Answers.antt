use Rattle.std.proofs.Common.{◌≡◌, refl, rules}
use Rattle.std.specs.Prelude.{Some, None}
use Rattle.kasa_graph.specs.Mixture.{site_in, state_in}
use Rattle.kasa_graph.proofs.mixture.Mixture.state_at.Goals as goal

pub returns-in-Some : goal.returns-in-Some
unfolding state_in
returns-in-Some c = let at : Some c.in-Some.site ≡ site_in c.args.self.now c.args.cell c.args.site = search rules in rw (← at) refl

pub returns-in-None : goal.returns-in-None
unfolding state_in
returns-in-None c = let at : None ≡ site_in c.args.self.now c.args.cell c.args.site = search rules in rw (← at) refl
