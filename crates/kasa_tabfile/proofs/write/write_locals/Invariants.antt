use Rattle.std.proofs.Common.{◌≡◌, ◌++◌, take}
use Rattle.kasa_tabfile.specs.TablesText.{spaced, local_text}
use Rattle.kasa_tabfile.proofs.write.write_locals.Given as goal

abbrev pub invariant-loop-local : goal.invariant-loop-local
invariant-loop-local l = l.out.items ≡ l.fn.out.items ++ spaced local_text (take l.local-index l.locals)
