use Rattle.std.proofs.Common.{rules}
use Rattle.kasa_parser.proofs.split.Split.finish.Goals as goal

pub returns-clause-within : goal.returns-clause-within
returns-clause-within c = λ taken. (c.in_ok-end.ensures.within c.args.size taken (search rules)).0
