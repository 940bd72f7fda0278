use Rattle.std.proofs.Common.{[]}
use Rattle.kasa_influence.specs.inner.Search.{Adds}
use Rattle.kasa_influence.proofs.AddsLemmas.{Below}
use Rattle.kasa_influence.proofs.LonesLemmas.{IsLoneFrom}
use Rattle.kasa_influence.proofs.lone.lones.Given as goal

abbrev pub invariant-loop-k : goal.invariant-loop-k
invariant-loop-k l = Adds (Below (IsLoneFrom l.model) l.k) [] l.found.items
