use Rattle.std.proofs.Common.{◌≤◌, ℕ, length, arith}
use Rattle.kasa_rules.specs.declared.rule.End.TheVariants.{Made}
use Rattle.kasa_polymers.specs.inner.Gather.{Below, IsBondOfEnd, IsStateOfEnd}
use Rattle.kasa_polymers.proofs.AddsLemmas.{AddsSeen-start, AddsSeen-more, AddsSeen-same}
use Rattle.kasa_polymers.proofs.GatherLemmas.{made_bonds, made_states, made_exists}
use Rattle.kasa_polymers.proofs.gather.see_made.Goals as goal

pub loop-k-init : goal.loop-k-init
loop-k-init c = record { added = AddsSeen-start (λ n. IsBondOfEnd c.args.rule.now (Made n)) (λ n. IsStateOfEnd c.args.rule.now (Made n)) c.args.seen.now }

pub see_end-requires-clause-exists : goal.see_end-requires-clause-exists
see_end-requires-clause-exists c = made_exists c.args.rule.now c.loop-k.k (omega arith)

pub loop-k-preserved : goal.loop-k-preserved
loop-k-preserved c = record {
  added = AddsSeen-more (λ n. IsBondOfEnd c.args.rule.now (Made n)) (λ n. IsStateOfEnd c.args.rule.now (Made n)) c.loop-k.k c.args.seen.now c.loop-k.seen c.see_end.new.seen c.loop-k.invariant.added c.in_ok-see_end.ensures;
}

pub returns : goal.returns
returns c =
    let r = c.args.rule.now in
    let k = c.loop-k.k in
    let all : length r.made ≤ k = omega arith in
    AddsSeen-same (Below (λ n. IsBondOfEnd r (Made n)) k) (λ p. (n : ℕ) × IsBondOfEnd r (Made n) p) (Below (λ n. IsStateOfEnd r (Made n)) k) (λ q. (n : ℕ) × IsStateOfEnd r (Made n) q) c.args.seen.now c.loop-k.seen
    (made_bonds r k all) (made_states r k all) c.loop-k.invariant.added
