use Rattle.kasa_tabfile.proofs.TakingLemmas.{row_at, no_row_at}
use Rattle.kasa_tabfile.proofs.taking.is_row_at.Goals as goal

pub returns-in-Some : goal.returns-in-Some
returns-in-Some c = row_at c.args.sig.now c.args.tables.now c.args.f c.in-Some.family.now c.args.row.now c.is_row.result c.in-Some.ensures c.is_row.ensures

pub returns-in-None : goal.returns-in-None
returns-in-None c = (λ h. absurd cc, λ h. absurd (no_row_at c.args.sig.now c.args.tables.now c.args.f c.args.row.now c.in-None.ensures h))
