use Rattle.std.proofs.Common.{ap, ◌∙◌}
use Rattle.std.specs.Prelude.{slice_get}
use Rattle.kasa_compile.specs.Labels.{odd_labels}
use Rattle.kasa_compile.proofs.CountLemmas.{odd-same}
use Rattle.kasa_compile.proofs.label_counts.first_odd.Goals as goal

pub returns : goal.returns
unfolding odd_labels
returns c = c.first_odd_by.ensures ∙ ap (λ os. slice_get os 0) (odd-same c.args.labels.now c.in_ok-counts.counts c.in_ok-counts.ensures c.args.labels.now)
