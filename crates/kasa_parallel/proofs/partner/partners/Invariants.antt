use Rattle.std.proofs.Common.{◌↔◌, ◌⊎◌, take}
use Rattle.kasa_graph.specs.Lists.{Has}
use Rattle.kasa_pre.specs.declared.Stand.{Stand}
use Rattle.kasa_columns.specs.Stands.{AreFrom}
use Rattle.kasa_parallel.specs.Partners.{IsPartner}
use Rattle.kasa_parallel.proofs.StandLists.{Takes}
use Rattle.kasa_parallel.proofs.partner.partners.Given as goal

abbrev pub invariant-loop-other : goal.invariant-loop-other
invariant-loop-other l = (z : Stand) → Has l.found.items z ↔ (Has l.initial.found.items z ⊎ AreFrom (Takes (IsPartner l.rule l.one l.site l.agent l.«at»)) (take l.other-index l.other-items) z)
