use Rattle.std.proofs.Common.{◌↔◌, ◌<◌}
use Rattle.kasa_graph.specs.Lists.{Has}
use Rattle.kasa_pre.specs.declared.FreedBy.{FreedBy}
use Rattle.kasa_columns.specs.Outcomes.{IsTouchedFor}
use Rattle.kasa_columns.proofs.fired.touched_partners.Given as goal

abbrev pub invariant-loop-n : goal.invariant-loop-n
invariant-loop-n l = (f : FreedBy) → Has l.found.items f ↔ ((f.from < l.n) × IsTouchedFor l.rule l.fn.column l.agent l.«at» f)
