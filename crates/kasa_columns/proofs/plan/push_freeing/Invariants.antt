use Rattle.kasa_graph.specs.Lists.{Has}
use Rattle.kasa_families.specs.declared.row.LocalLink.{LocalLink}
use Rattle.kasa_columns.proofs.PlanLemmas.{FreesUpto}
use Rattle.kasa_columns.proofs.plan.push_freeing.Given as goal

abbrev pub invariant-loop-y : goal.invariant-loop-y
invariant-loop-y l = record {
  keeps : (link : LocalLink) → Has l.initial.links.items link → Has l.links.items link;
  frees : FreesUpto l.rule l.node l.agent l.y l.links.items;
}
