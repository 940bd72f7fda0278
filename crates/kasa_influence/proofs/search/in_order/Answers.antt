use Rattle.std.proofs.lemmas.List.Filters.{dedup_is}
use Rattle.kasa_influence.proofs.OrderLemmas.{arrows_kept, arrows_ascend}
use Rattle.kasa_influence.proofs.search.in_order.Goals as goal

pub returns-clause-same : goal.returns-clause-same
returns-clause-same c = λ p. rw (c.new.ensures, dedup_is _ _ _ c.dedup.ensures.filtered) (arrows_kept _ _ c.sort_unstable.ensures.permutation p)

pub returns-clause-ascend : goal.returns-clause-ascend
returns-clause-ascend c = rw (c.new.ensures, dedup_is _ _ _ c.dedup.ensures.filtered) (arrows_ascend _ c.sort_unstable.ensures.sorted)
