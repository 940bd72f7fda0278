use Rattle.std.proofs.Common.{arith}
use Rattle.kasa_columns.proofs.StandLemmas.{made_within}
use Rattle.kasa_parallel.proofs.partner.fits_made.Goals as goal

pub returns-then-k-made : goal.returns-then-k-made
returns-then-k-made c = (
  λ yes. absurd (let e = yes in cc),
  λ fits. absurd (let within = made_within c.args.rule.now c.args.k c.args.agent fits in let past = c.if-k-made.true in let count = c.made.ensures.count in omega arith),
)
