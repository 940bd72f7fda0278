use Rattle.std.proofs.lemmas.List.Filters.{dedup_is}
use Rattle.kasa_polymers.proofs.OrderLemmas.{states_kept, states_ascend}
use Rattle.kasa_polymers.proofs.gather.states_in_order.Goals as goal

pub returns-clause-same : goal.returns-clause-same
returns-clause-same c = λ s. rw (c.new.ensures, dedup_is _ _ _ c.dedup.ensures.filtered) (states_kept _ _ c.sort_unstable.ensures.permutation s)

pub returns-clause-ascend : goal.returns-clause-ascend
returns-clause-ascend c = rw (c.new.ensures, dedup_is _ _ _ c.dedup.ensures.filtered) (states_ascend _ c.sort_unstable.ensures.sorted)
