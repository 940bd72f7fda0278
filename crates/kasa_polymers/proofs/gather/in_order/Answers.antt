use Rattle.std.proofs.lemmas.List.Filters.{dedup_is}
use Rattle.kasa_polymers.proofs.OrderLemmas.{bonds_kept, bonds_ascend}
use Rattle.kasa_polymers.proofs.gather.in_order.Goals as goal

pub returns-clause-same : goal.returns-clause-same
returns-clause-same c = λ p. rw (c.new.ensures, dedup_is _ _ _ c.dedup.ensures.filtered) (bonds_kept _ _ c.sort_unstable.ensures.permutation p)

pub returns-clause-ascend : goal.returns-clause-ascend
returns-clause-ascend c = rw (c.new.ensures, dedup_is _ _ _ c.dedup.ensures.filtered) (bonds_ascend _ c.sort_unstable.ensures.sorted)
