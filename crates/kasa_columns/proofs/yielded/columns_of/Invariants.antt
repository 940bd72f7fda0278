use Rattle.std.proofs.Common.{◌≡◌, take}
use Rattle.kasa_families.specs.Family.{shape_of}
use Rattle.kasa_columns.proofs.yielded.columns_of.Given as goal

abbrev pub invariant-loop-k : goal.invariant-loop-k
invariant-loop-k l = l.columns.items ≡ take l.k (shape_of l.family).columns
