use Rattle.kasa_families.proofs.PlaceLists.{Has-early, Has-late}
use Rattle.kasa_families.proofs.place.Place.has.Goals as goal

pub returns-then-is_one_of : goal.returns-then-is_one_of
returns-then-is_one_of c = rw c.in-Three.is (Has-early _ _ _ _ _ c.is_one_of-in-Three.ensures c.if-is_one_of.true)

pub returns-else-is_one_of : goal.returns-else-is_one_of
returns-else-is_one_of c = rw c.in-Three.is (Has-late _ _ _ _ _ _ c.is_one_of-in-Three.ensures c.if-is_one_of.false c.eq-else-is_one_of.ensures)
