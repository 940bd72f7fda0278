use Rattle.kasa_tables.proofs.PlainLemmas.{AreTables-empty}
use Rattle.kasa_tests.proofs.yields.empty.Goals as goal

pub returns : goal.returns
returns g c = rw (c.in_ok-new.ensures, ← c.model.view_is) (AreTables-empty c.model.inside.sig c.in_ok-families.families.items c.in_ok-families.ensures.different c.in_ok-families.ensures.valid)
