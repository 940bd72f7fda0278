use Rattle.kasa_influence.specs.inner.Search.{Adds}
use Rattle.kasa_influence.proofs.AddsLemmas.{Below}
use Rattle.kasa_influence.proofs.OpenLemmas.{IsOpenAt}
use Rattle.kasa_influence.proofs.ask.push_open.Given as goal

abbrev pub invariant-loop-site : goal.invariant-loop-site
invariant-loop-site l = Adds (Below (IsOpenAt l.rule l.node) l.site) l.initial.found.items l.found.items
