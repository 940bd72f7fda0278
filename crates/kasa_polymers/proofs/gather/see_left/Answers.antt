use Rattle.std.proofs.Common.{◌≡◌, ◌≤◌, ℕ, length, arith}
use Rattle.kasa_rules.specs.declared.rule.End.TheVariants.{Left}
use Rattle.kasa_polymers.specs.inner.Gather.{Below, IsBondOfEnd, IsStateOfEnd}
use Rattle.kasa_polymers.proofs.AddsLemmas.{AddsSeen-start, AddsSeen-more, AddsSeen-same}
use Rattle.kasa_polymers.proofs.GatherLemmas.{left_bonds, left_states, left_exists}
use Rattle.kasa_polymers.proofs.gather.see_left.Goals as goal

pub loop-node-init : goal.loop-node-init
loop-node-init c = record { added = AddsSeen-start (λ n. IsBondOfEnd c.args.rule.now (Left n)) (λ n. IsStateOfEnd c.args.rule.now (Left n)) c.args.seen.now }

pub see_end-requires-clause-exists : goal.see_end-requires-clause-exists
see_end-requires-clause-exists c =
    let count : c.nodes-node-end.result ≡ length c.args.rule.now.left = rw c.left.ensures.pattern at c.nodes-node-end.ensures.count in
    left_exists c.args.rule.now c.loop-node.node (omega arith)

pub loop-node-preserved : goal.loop-node-preserved
loop-node-preserved c = record {
  added = AddsSeen-more (λ n. IsBondOfEnd c.args.rule.now (Left n)) (λ n. IsStateOfEnd c.args.rule.now (Left n)) c.loop-node.node c.args.seen.now c.loop-node.seen c.see_end.new.seen c.loop-node.invariant.added c.in_ok-see_end.ensures;
}

pub returns : goal.returns
returns c =
    let r = c.args.rule.now in
    let k = c.loop-node.node in
    let count : c.nodes-node-end.result ≡ length c.args.rule.now.left = rw c.left.ensures.pattern at c.nodes-node-end.ensures.count in
    let all : length r.left ≤ k = omega arith in
    AddsSeen-same (Below (λ n. IsBondOfEnd r (Left n)) k) (λ p. (n : ℕ) × IsBondOfEnd r (Left n) p) (Below (λ n. IsStateOfEnd r (Left n)) k) (λ q. (n : ℕ) × IsStateOfEnd r (Left n) q) c.args.seen.now c.loop-node.seen
    (left_bonds r k all) (left_states r k all) c.loop-node.invariant.added
