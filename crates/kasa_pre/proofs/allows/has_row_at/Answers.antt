use Rattle.kasa_families.proofs.FirstLemmas.{is_there}
use Rattle.kasa_pre.proofs.allows.has_row_at.Goals as goal

pub returns : goal.returns
returns g c = is_there _ c.first_compatible.result c.is_some.result c.is_some.ensures c.first_compatible.ensures
