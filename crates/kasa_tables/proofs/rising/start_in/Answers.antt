use Rattle.std.proofs.Common.{ltb, rules}
use Rattle.std.proofs.lemmas.List.Sorted.{IsPartitionPoint-from_clause}
use Rattle.kasa_tables.proofs.NumberLemmas.{parts_rising, splits_at}
use Rattle.kasa_tables.proofs.rising.start_in.Goals as goal

pub returns : goal.returns
returns c =
    let point = IsPartitionPoint-from_clause (λ k. ltb k c.args.from) _ _ c.partition_point.ensures.partitioned (parts_rising c.args.list.now c.args.from c.requires) (λ a r q k. search rules) in
    splits_at c.args.list.now c.args.from c.partition_point.result c.partition_point.ensures.bound point
