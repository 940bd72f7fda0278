use Rattle.std.proofs.Common.{◌≡◌, ◌≤◌, length, arith}
use Rattle.std.specs.Prelude.{Some}
use Rattle.kasa_graph.specs.Signature.{state_counts}
use Rattle.kasa_polymers.specs.inner.Gather.{Below, IsBondOf, IsStateOf, IsBondAt, IsStateAt}
use Rattle.kasa_polymers.proofs.AddsLemmas.{AddsSeen-start, AddsSeen-more, AddsSeen-same}
use Rattle.kasa_polymers.proofs.GatherLemmas.{cell_bonds, cell_states}
use Rattle.kasa_polymers.proofs.gather.see_agent.Goals as goal

pub loop-number-init : goal.loop-number-init
loop-number-init c = record { added = AddsSeen-start (IsBondAt c.args.complex.now c.args.cell) (IsStateAt c.args.complex.now c.args.cell) c.args.seen.now }

pub loop-number-preserved : goal.loop-number-preserved
loop-number-preserved c =
    let m = c.args.complex.now in
    let k = c.loop-number.number in
    record {
      added = AddsSeen-more (IsBondAt m c.args.cell) (IsStateAt m c.args.cell) k c.args.seen.now c.loop-number.seen c.add.new.self c.loop-number.invariant.added
          (AddsSeen-same (λ p. c.bond_at-bond.result ≡ Some p) (IsBondAt m c.args.cell k) (λ q. c.state_at-state.result ≡ Some q) (IsStateAt m c.args.cell k) c.loop-number.seen c.add.new.self
          c.bond_at-bond.ensures c.state_at-state.ensures c.in_ok-add.ensures);
    }

pub returns : goal.returns
returns c =
    let m = c.args.complex.now in
    let k = c.loop-number.number in
    let count = c.sites-number-end.ensures.counts in
    let all : length (state_counts c.args.sig.now c.args.agent) ≤ k = omega arith in
    AddsSeen-same (Below (IsBondAt m c.args.cell) k) (IsBondOf m c.args.cell) (Below (IsStateAt m c.args.cell) k) (IsStateOf m c.args.cell) c.args.seen.now c.loop-number.seen
    (cell_bonds c.args.sig.now m c.requires.over c.args.cell c.args.agent k c.requires.typed all) (cell_states c.args.sig.now m c.requires.over c.args.cell c.args.agent k c.requires.typed all) c.loop-number.invariant.added
