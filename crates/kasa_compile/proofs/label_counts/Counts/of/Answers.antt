use Rattle.std.proofs.Common.{refl, ap, ◌∙◌}
use Rattle.std.specs.Prelude.{slice_index_or}
use Rattle.kasa_compile.specs.Counts.{once_more}
use Rattle.kasa_compile.proofs.CountLemmas.{no_label, AreCountsOf-next}
use Rattle.kasa_compile.proofs.label_counts.Counts.of.Goals as goal

pub loop-label-preserved : goal.loop-label-preserved
loop-label-preserved c =
    let more = c.once_more-times.ensures ∙ ap once_more (c.copied.ensures ∙ c.get.ensures.value) in
    AreCountsOf-next c.loop-label.items.entries c.insert.new.self.entries c.args.labels.now c.loop-label.label-index (slice_index_or c.args.labels.now c.loop-label.label-index no_label) no_label c.once_more-times.result c.loop-label.invariant c.loop-label-test.true refl more c.in_ok-insert.ensures.updates.0
