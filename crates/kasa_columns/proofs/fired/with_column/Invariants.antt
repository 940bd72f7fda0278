use Rattle.std.proofs.Common.{◌↔◌, take}
use Rattle.kasa_graph.specs.Lists.{Has}
use Rattle.kasa_columns.specs.Comes.{Outcome}
use Rattle.kasa_columns.specs.Outcomes.{ComesBefore}
use Rattle.kasa_columns.proofs.fired.with_column.Given as goal

abbrev pub invariant-loop-out : goal.invariant-loop-out
invariant-loop-out l = (out : Outcome) → Has l.outs.items out ↔ ComesBefore l.rule l.stand l.fn.column l.shown (take l.out-index l.rest) out
