use Rattle.std.proofs.Common.{◌≡◌, ◌++◌}
use Rattle.kasa_sample.specs.SampleText.{for_each, rule_line}
use Rattle.kasa_sample.proofs.sample.write_rules.Given as goal

abbrev pub invariant-loop-i : goal.invariant-loop-i
invariant-loop-i l = l.out.items ≡ l.fn.out.items ++ for_each (rule_line l.name l.first l.second) l.i
