use Rattle.std.proofs.Common.{ℕ, not, rules, ◌∙◌}
use Rattle.std.proofs.lemmas.List.Sorted.{IsPartitionPoint-from_clause}
use Rattle.kasa_polymers.specs.declared.map.StateSeen.{StateSeen}
use Rattle.kasa_report.specs.inner.Runs.{comes_before}
use Rattle.kasa_report.proofs.RunLemmas.{states_by_sites, parted_before, parted_up_to, run_at}
use Rattle.kasa_report.proofs.map.states_at.Goals as goal

pub part-requires-clause-ordered : goal.part-requires-clause-ordered
part-requires-clause-ordered c =
    let xs = c.args.states.now in
    let f : StateSeen → ℕ = λ q. q.a in
    let g : StateSeen → ℕ = λ q. q.x in
    let by = states_by_sites xs c.requires in
    let first = IsPartitionPoint-from_clause (λ (q : StateSeen). comes_before q.a q.x c.args.agent c.args.site) xs c.partition_point-from.result c.partition_point-from.ensures.partitioned (parted_before f g xs by c.args.agent c.args.site) (λ a r q k. search rules) in
    let second = IsPartitionPoint-from_clause (λ (q : StateSeen). not (comes_before c.args.agent c.args.site q.a q.x)) xs c.partition_point-to.result c.partition_point-to.ensures.partitioned (parted_up_to f g xs by c.args.agent c.args.site) (λ a r q k. search rules) in
    let run = run_at f g xs by c.args.agent c.args.site c.partition_point-from.result c.partition_point-to.result c.partition_point-from.ensures.bound c.partition_point-to.ensures.bound first second in
    run.ordered

pub returns : goal.returns
returns c =
    let xs = c.args.states.now in
    let f : StateSeen → ℕ = λ q. q.a in
    let g : StateSeen → ℕ = λ q. q.x in
    let by = states_by_sites xs c.requires in
    let first = IsPartitionPoint-from_clause (λ (q : StateSeen). comes_before q.a q.x c.args.agent c.args.site) xs c.partition_point-from.result c.partition_point-from.ensures.partitioned (parted_before f g xs by c.args.agent c.args.site) (λ a r q k. search rules) in
    let second = IsPartitionPoint-from_clause (λ (q : StateSeen). not (comes_before c.args.agent c.args.site q.a q.x)) xs c.partition_point-to.result c.partition_point-to.ensures.partitioned (parted_up_to f g xs by c.args.agent c.args.site) (λ a r q k. search rules) in
    let run = run_at f g xs by c.args.agent c.args.site c.partition_point-from.result c.partition_point-to.result c.partition_point-from.ensures.bound c.partition_point-to.ensures.bound first second in
    c.part.ensures ∙ run.is
