use Rattle.std.proofs.Common.{[]}
use Rattle.kasa_influence.specs.inner.Search.{Adds}
use Rattle.kasa_influence.proofs.AddsLemmas.{Below}
use Rattle.kasa_influence.proofs.SourceLemmas.{SourceOf}
use Rattle.kasa_influence.proofs.makes.all_sources.Given as goal

abbrev pub invariant-loop-x : goal.invariant-loop-x
invariant-loop-x l = Adds (Below (SourceOf l.open_sites l.fn.site) l.x-index) [] l.found.items
