use Rattle.std.proofs.Common.{[]}
use Rattle.kasa_influence.specs.inner.Search.{Adds}
use Rattle.kasa_influence.proofs.AddsLemmas.{Below}
use Rattle.kasa_influence.proofs.OpenLemmas.{IsOpenOf}
use Rattle.kasa_influence.proofs.ask.open_sites.Given as goal

abbrev pub invariant-loop-node : goal.invariant-loop-node
invariant-loop-node l = Adds (Below (IsOpenOf l.rule) l.node) [] l.found.items
