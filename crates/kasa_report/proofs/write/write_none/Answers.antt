use Rattle.std.proofs.Common.{arith}
use Rattle.kasa_report.proofs.TextLemmas.{below_none}
use Rattle.kasa_report.proofs.write.write_none.Goals as goal

pub returns-in_ok-write_line : goal.returns-in_ok-write_line
returns-in_ok-write_line c = λ first lines size is.
    below_none c.args.before first c.args.out.now.items _ lines size is
    (let count = c.len.ensures in let same = c.if-len-before.true in let ok = c.args.out.now.ok.0 in omega arith)
    c.in_ok-write_line.ensures
