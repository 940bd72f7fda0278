use Rattle.std.proofs.Common.{◌≡◌, ◌++◌, map, take, codes}
use Rattle.kasa_report.specs.Section.{joined}
use Rattle.kasa_report.specs.ContactText.{partner_text}
use Rattle.kasa_report.proofs.map.write_spaced_partners.Given as goal

abbrev pub invariant-loop-k : goal.invariant-loop-k
invariant-loop-k l = l.out.items ≡ l.initial.out.items ++ joined (codes " ") (map (partner_text l.sig) (take l.k l.bonds))
