use Rattle.std.proofs.Common.{refl}
use Rattle.kasa_compile.proofs.IndexLemmas.{IsContinued-one}
use Rattle.kasa_compile.proofs.bonds.Bonds.note.Goals as goal

pub returns : goal.returns
returns c = IsContinued-one _ _ c.args.number c.args.place _ c.first_place-first.ensures refl (rw c.self.view_is at c.in_ok-insert.ensures.updates.0)
