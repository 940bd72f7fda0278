use Rattle.kasa_parser.proofs.split.Split.end_before.Goals as goal

pub returns-in_ok-end-clause-within : goal.returns-in_ok-end-clause-within
returns-in_ok-end-clause-within c = λ size taken. c.in_ok-end.ensures.within size (taken.0, taken.1, tt) (rw c.in-Some.is at taken.2)
