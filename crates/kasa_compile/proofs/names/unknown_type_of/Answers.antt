use Rattle.kasa_compile.specs.Names.{unknown_types}
use Rattle.kasa_compile.proofs.FirstLemmas.{first_of_left, first_of_right}
use Rattle.kasa_compile.proofs.names.unknown_type_of.Goals as goal

pub returns-in-Some : goal.returns-in-Some
unfolding unknown_types
returns-in-Some c = first_of_left _ _ c.in-Some.at c.in-Some.ensures

pub returns : goal.returns
unfolding unknown_types
returns c = first_of_right _ _ _ c.in_default.ensures (rw c.as_slice.ensures at c.unknown_partner_type.ensures)
