use Rattle.std.proofs.Common.{◌≤◌, length, arith}
use Rattle.kasa_polymers.specs.Contact.{HasBond, HasStateSeen}
use Rattle.kasa_polymers.specs.inner.Gather.{Below, IsBondOf, IsStateOf}
use Rattle.kasa_polymers.proofs.AddsLemmas.{AddsSeen-start, AddsSeen-more, AddsSeen-same}
use Rattle.kasa_polymers.proofs.GatherLemmas.{complex_bonds, complex_states}
use Rattle.kasa_polymers.proofs.gather.see_complex.Goals as goal

pub loop-cell-init : goal.loop-cell-init
loop-cell-init c = record { added = AddsSeen-start (IsBondOf c.args.complex.now) (IsStateOf c.args.complex.now) c.args.seen.now }

pub loop-cell-preserved : goal.loop-cell-preserved
loop-cell-preserved c = record {
  added = AddsSeen-more (IsBondOf c.args.complex.now) (IsStateOf c.args.complex.now) c.loop-cell.cell c.args.seen.now c.loop-cell.seen c.see_cell.new.seen c.loop-cell.invariant.added c.in_ok-see_cell.ensures;
}

pub returns : goal.returns
returns c =
    let m = c.args.complex.now in
    let k = c.loop-cell.cell in
    let all : length m ≤ k = omega arith in
    AddsSeen-same (Below (IsBondOf m) k) (HasBond m) (Below (IsStateOf m) k) (HasStateSeen m) c.args.seen.now c.loop-cell.seen (complex_bonds m k all) (complex_states m k all) c.loop-cell.invariant.added
