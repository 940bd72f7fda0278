use Rattle.kasa_influence.proofs.MakesLemmas.{makes-fits}
use Rattle.kasa_influence.proofs.makes.makes_at.Goals as goal

pub returns-then-not-fits : goal.returns-then-not-fits
returns-then-not-fits g c = (
  λ yes. absurd cc,
  λ makes. absurd (let fits = makes-fits c.args.ask.now c.args.v.now c.requires.one c.args.stand.now makes c.agent.result c.agent.ensures in
      let yes = c.fits.ensures.1 (rw (← c.ask.view_is) at fits) in
      let no = c.if-not-fits.true in
      cc),
)
