use Rattle.std.proofs.Common.{sym, arith, ◌≡◌, ◌==◌, ◌≤◌, length, false}
use Rattle.std.proofs.lemmas.Bool.Decides.{nat_tests}
use Rattle.kasa_tabfile.proofs.Long.{parts-next-long}
use Rattle.kasa_tabfile.proofs.open_line.OpenLine.push.Goals as goal

pub returns-else-len-lt-LONGEST-clause-line : goal.returns-else-len-lt-LONGEST-clause-line
returns-else-len-lt-LONGEST-clause-line c bs =
    let other : (c.args.b == 32) ≡ false = grind (arith, nat_tests) in
    let long : 17 ≤ length c.args.self.now.word.items = omega (arith, c.if-len-lt-LONGEST.false, c.len.ensures.value) in
    sym (parts-next-long c.args.self.now.head c.args.self.now.word.items c.args.b bs other long)
