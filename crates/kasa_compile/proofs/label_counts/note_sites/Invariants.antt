use Rattle.std.proofs.Common.{◌≡◌, ◌++◌, take}
use Rattle.std.specs.List.{flat_map}
use Rattle.kasa_compile.specs.Said.{link_word}
use Rattle.kasa_compile.specs.Labels.{label_in}
use Rattle.kasa_compile.proofs.label_counts.note_sites.Given as goal

abbrev pub invariant-loop-site : goal.invariant-loop-site
invariant-loop-site l = l.labels.items ≡ l.initial.labels.items ++ flat_map (λ s. label_in (link_word l.side s)) (take l.site-index l.sites)
