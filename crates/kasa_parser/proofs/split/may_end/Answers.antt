use Rattle.kasa_parser.proofs.SplitLemmas.{may_end_last}
use Rattle.kasa_parser.proofs.split.may_end.Goals as goal

pub returns-in-len1-up : goal.returns-in-len1-up
returns-in-len1-up c = λ text. rw c.goes_on.ensures (may_end_last text c.args.tokens.now _ c.in-len1-up.len_at_least)
