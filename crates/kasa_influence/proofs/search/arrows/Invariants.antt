use Rattle.std.proofs.Common.{[]}
use Rattle.kasa_influence.specs.inner.Search.{Adds, IsGainFrom, IsLossFrom}
use Rattle.kasa_influence.proofs.AddsLemmas.{Below}
use Rattle.kasa_influence.proofs.search.arrows.Given as goal

abbrev pub invariant-loop-from : goal.invariant-loop-from
invariant-loop-from g l = record {
  gains : Adds (Below (IsGainFrom l.model (g.R.Rows.tables l.rows)) l.from) [] l.found.positive.items;
  losses : Adds (Below (IsLossFrom l.model (g.R.Rows.tables l.rows)) l.from) [] l.found.negative.items;
}
