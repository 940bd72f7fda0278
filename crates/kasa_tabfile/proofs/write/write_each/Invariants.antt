use Rattle.std.proofs.Common.{take}
use Rattle.kasa_tabfile.specs.inner.Written.{AddsTables}
use Rattle.kasa_tabfile.proofs.write.write_each.Given as goal

abbrev pub invariant-loop-f : goal.invariant-loop-f
invariant-loop-f g l = AddsTables (take l.f (g.R.Rows.tables l.rows)) l.initial.out.items l.out.items
