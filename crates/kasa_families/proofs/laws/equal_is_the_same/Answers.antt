use Rattle.kasa_families.proofs.SameValue.{same_row, same_family}
use Rattle.kasa_families.proofs.laws.equal_is_the_same.Goals as goal

pub returns-clause-rows : goal.returns-clause-rows
returns-clause-rows c = same_row

pub returns-clause-families : goal.returns-clause-families
returns-clause-families c = same_family
