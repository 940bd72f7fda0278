use Rattle.kasa_polymers.proofs.steps.is_point.Goals as goal

pub returns : goal.returns
returns g c = rw c.in_ok-pattern.ensures.pattern at c.allowed.ensures.allowed
