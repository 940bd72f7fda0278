use Rattle.std.proofs.Common.{arith}
use Rattle.kasa_parser.proofs.SplitLemmas.{within_push}
use Rattle.kasa_parser.proofs.split.Split.take.Goals as goal

pub returns-then-is_break-clause-within : goal.returns-then-is_break-clause-within
returns-then-is_break-clause-within c = λ size taken low high. c.pass_break.ensures.within size taken (omega arith)

pub returns-clause-within : goal.returns-clause-within
returns-clause-within c =
    λ size taken low high.
    let before = c.in_ok-end_before.ensures.within size taken in
    (before.0, (rw c.in_ok-push.ensures.items (within_push size c.end_before.new.self.read.items c.args.token before.1 (low, high))), before.2)
