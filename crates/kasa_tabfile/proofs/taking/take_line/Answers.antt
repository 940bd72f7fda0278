use Rattle.std.proofs.Common.{refl, Some}
use Rattle.kasa_tabfile.specs.declared.fault.TabFault.TheVariants.{BadLine}
use Rattle.kasa_tabfile.proofs.TakingLemmas.{outside_taken}
use Rattle.kasa_tabfile.proofs.taking.take_line.Goals as goal

pub returns-in_default : goal.returns-in_default
returns-in_default c = outside_taken c.args.sig.now c.args.n c.args.stage c.args.tables.now c.args.line c.take_outside.result c.in_default.not-Body c.take_outside.ensures

pub returns-in_default-line : goal.returns-in_default-line
returns-in_default-line c = rw (c.in-Body.is, c.in_default-line.is) (Some (BadLine c.args.n), refl, refl, refl)
