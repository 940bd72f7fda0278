use Rattle.std.proofs.Common.{◌≡◌, ◌≤◌, length, arith}
use Rattle.std.specs.Prelude.{Some}
use Rattle.kasa_graph.specs.Signature.{state_counts, HasSite}
use Rattle.kasa_polymers.specs.inner.Gather.{Below, IsBondOfEnd, IsStateOfEnd, IsBondAtEnd, IsStateAtEnd}
use Rattle.kasa_polymers.proofs.AddsLemmas.{AddsSeen-start, AddsSeen-more, AddsSeen-same}
use Rattle.kasa_polymers.proofs.GatherLemmas.{end_bonds, end_states, HasEndSite-over}
use Rattle.kasa_polymers.proofs.gather.see_end.Goals as goal

pub loop-number-init : goal.loop-number-init
loop-number-init c = record { added = AddsSeen-start (IsBondAtEnd c.args.rule.now c.args.end.now) (IsStateAtEnd c.args.rule.now c.args.end.now) c.args.seen.now }

pub loop-number-preserved : goal.loop-number-preserved
loop-number-preserved c =
    let r = c.args.rule.now in
    let k = c.loop-number.number in
    record {
      added = AddsSeen-more (IsBondAtEnd r c.args.end.now) (IsStateAtEnd r c.args.end.now) k c.args.seen.now c.loop-number.seen c.add.new.self c.loop-number.invariant.added
          (AddsSeen-same (λ p. c.bond_at_end-bond.result ≡ Some p) (IsBondAtEnd r c.args.end.now k) (λ q. c.state_at_end-state.result ≡ Some q) (IsStateAtEnd r c.args.end.now k) c.loop-number.seen c.add.new.self
          c.bond_at_end-bond.ensures c.state_at_end-state.ensures c.in_ok-add.ensures);
    }

pub returns : goal.returns
returns c =
    let r = c.args.rule.now in
    let k = c.loop-number.number in
    let count = c.sites-number-end.ensures.counts in
    let all : length (state_counts c.args.sig.now c.type_of.result) ≤ k = omega arith in
    AddsSeen-same (Below (IsBondAtEnd r c.args.end.now) k) (IsBondOfEnd r c.args.end.now) (Below (IsStateAtEnd r c.args.end.now) k) (IsStateOfEnd r c.args.end.now) c.args.seen.now c.loop-number.seen
    (end_bonds c.args.sig.now r c.requires.over c.args.end.now c.type_of.result k c.type_of.ensures all) (end_states c.args.sig.now r c.requires.over c.args.end.now c.type_of.result k c.type_of.ensures all) c.loop-number.invariant.added

pub bond_at_end-bond-requires-clause-site : goal.bond_at_end-bond-requires-clause-site
bond_at_end-bond-requires-clause-site c =
    let has : HasSite c.args.sig.now c.type_of.result c.loop-number.number = rw c.sites-number-end.ensures.counts at c.loop-number-test.true in
    HasEndSite-over c.args.sig.now c.args.rule.now c.requires.over c.args.end.now c.type_of.result c.loop-number.number c.type_of.ensures has

pub state_at_end-state-requires-clause-site : goal.state_at_end-state-requires-clause-site
state_at_end-state-requires-clause-site c =
    let has : HasSite c.args.sig.now c.type_of.result c.loop-number.number = rw c.sites-number-end.ensures.counts at c.loop-number-test.true in
    HasEndSite-over c.args.sig.now c.args.rule.now c.requires.over c.args.end.now c.type_of.result c.loop-number.number c.type_of.ensures has
