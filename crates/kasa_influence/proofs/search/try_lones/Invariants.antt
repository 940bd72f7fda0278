use Rattle.kasa_influence.specs.inner.Search.{Adds}
use Rattle.kasa_influence.proofs.AddsLemmas.{Below}
use Rattle.kasa_influence.proofs.ArrowLemmas.{GainAt, LossAt}
use Rattle.kasa_influence.proofs.search.try_lones.Given as goal

abbrev pub invariant-loop-lone : goal.invariant-loop-lone
invariant-loop-lone g l = record {
  gains : Adds (Below (GainAt l.ask l.from l.lones) l.lone-index) l.initial.found.positive.items l.found.positive.items;
  losses : Adds (Below (LossAt l.ask l.model l.from l.lones) l.lone-index) l.initial.found.negative.items l.found.negative.items;
}
