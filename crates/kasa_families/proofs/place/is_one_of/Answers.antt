use Rattle.kasa_families.proofs.PlaceLists.{Has-second}
use Rattle.kasa_families.proofs.place.is_one_of.Goals as goal

pub returns-else-eq : goal.returns-else-eq
returns-else-eq c = Has-second _ _ _ _ _ c.eq.ensures c.if-eq.false c.eq-else-eq.ensures
