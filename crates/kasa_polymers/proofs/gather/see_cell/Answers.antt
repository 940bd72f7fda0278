use Rattle.std.proofs.Common.{sym}
use Rattle.kasa_polymers.specs.inner.Gather.{IsBondOf, IsStateOf}
use Rattle.kasa_polymers.proofs.AddsLemmas.{AddsSeen-none}
use Rattle.kasa_polymers.proofs.GatherLemmas.{no_cell_bond, no_cell_state}
use Rattle.kasa_polymers.proofs.gather.see_cell.Goals as goal

pub returns-in-None : goal.returns-in-None
returns-in-None c =
    let m = c.args.complex.now in
    AddsSeen-none (IsBondOf m c.args.cell) (IsStateOf m c.args.cell) c.args.seen.now (no_cell_bond m c.args.cell (sym c.in-None.ensures)) (no_cell_state m c.args.cell (sym c.in-None.ensures))
