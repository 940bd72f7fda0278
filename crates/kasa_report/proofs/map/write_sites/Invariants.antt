use Rattle.std.proofs.Common.{◌≡◌, ◌++◌}
use Rattle.std.specs.List.{flat_map}
use Rattle.kasa_report.specs.Section.{all_lines}
use Rattle.kasa_report.specs.ContactText.{numbers, lines_at}
use Rattle.kasa_report.proofs.map.write_sites.Given as goal

abbrev pub invariant-loop-site : goal.invariant-loop-site
invariant-loop-site l = l.out.items ≡ l.initial.out.items ++ all_lines (flat_map (lines_at l.sig l.map l.agent) (numbers l.site))
