use Rattle.std.proofs.Common.{◌∙◌, refl}
use Rattle.kasa_graph.specs.Mixture.{site_in}
use Rattle.kasa_graph.proofs.mixture.site_at.Goals as goal

pub returns-in-Some : goal.returns-in-Some
unfolding site_in
returns-in-Some c = c.get.ensures ∙ rw (← c.in-Some.ensures) refl

pub returns-in-None : goal.returns-in-None
unfolding site_in
returns-in-None c = rw (← c.in-None.ensures) refl
