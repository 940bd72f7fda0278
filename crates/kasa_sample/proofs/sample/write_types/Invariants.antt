use Rattle.std.proofs.Common.{◌≡◌, ◌++◌}
use Rattle.kasa_sample.specs.SampleText.{for_each, type_line}
use Rattle.kasa_sample.proofs.sample.write_types.Given as goal

abbrev pub invariant-loop-i : goal.invariant-loop-i
invariant-loop-i l = l.out.items ≡ l.fn.out.items ++ for_each (type_line l.before l.behind) l.i
