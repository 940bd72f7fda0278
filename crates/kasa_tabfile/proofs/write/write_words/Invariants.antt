use Rattle.std.proofs.Common.{◌≡◌, ◌++◌, take, decimal}
use Rattle.kasa_tabfile.specs.TablesText.{spaced}
use Rattle.kasa_tabfile.proofs.write.write_words.Given as goal

abbrev pub invariant-loop-number : goal.invariant-loop-number
invariant-loop-number l = l.out.items ≡ l.fn.out.items ++ spaced decimal (take l.number-index l.numbers)
