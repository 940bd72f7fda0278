use Rattle.std.proofs.Common.{◌+◌, ◌<◌, length, arith}
use Rattle.kasa_tabfile.proofs.HeadLemmas.{too-many}
use Rattle.kasa_tabfile.specs.Word.{number}
use Rattle.kasa_tabfile.proofs.head.after_number.Goals as goal

pub returns-then-len-ge9 : goal.returns-then-len-ge9
returns-then-len-ge9 c ws =
    let many : 9 < length c.args.before.items + 1 = omega (arith, c.if-len-ge9.true, c.len.ensures.value) in
    too-many c.args.bonds c.args.before.items (number c.args.word.now) ws many
