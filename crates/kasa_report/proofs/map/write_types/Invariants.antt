use Rattle.std.proofs.Common.{◌≡◌, ◌++◌}
use Rattle.std.specs.List.{flat_map}
use Rattle.kasa_report.specs.Section.{all_lines}
use Rattle.kasa_report.specs.ContactText.{numbers, type_lines}
use Rattle.kasa_report.proofs.map.write_types.Given as goal

abbrev pub invariant-loop-agent : goal.invariant-loop-agent
invariant-loop-agent l = l.out.items ≡ l.initial.out.items ++ all_lines (flat_map (type_lines l.sig l.map) (numbers l.agent))
