use Rattle.kasa_influence.specs.inner.Search.{Adds}
use Rattle.kasa_influence.proofs.AddsLemmas.{Below}
use Rattle.kasa_influence.proofs.LonesLemmas.{IsLoneAt}
use Rattle.kasa_influence.proofs.lone.push_lones.Given as goal

abbrev pub invariant-loop-node : goal.invariant-loop-node
invariant-loop-node l = Adds (Below (IsLoneAt l.rule l.number) l.node) l.initial.found.items l.found.items
