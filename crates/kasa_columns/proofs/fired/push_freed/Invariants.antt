use Rattle.std.proofs.Common.{◌↔◌, ◌⊎◌, take}
use Rattle.kasa_graph.specs.Lists.{Has}
use Rattle.kasa_columns.specs.Comes.{Outcome}
use Rattle.kasa_columns.specs.Outcomes.{FreesBefore}
use Rattle.kasa_columns.proofs.fired.push_freed.Given as goal

abbrev pub invariant-loop-source : goal.invariant-loop-source
invariant-loop-source l = (more : Outcome) → Has l.outs.items more ↔ (Has l.initial.outs.items more ⊎ FreesBefore l.freed (take l.source-index l.sources) l.out more)
