use Rattle.kasa_compile.specs.Names.{unknown_sites}
use Rattle.kasa_compile.proofs.names.unknown_site_of.Goals as goal

pub returns : goal.returns
unfolding unknown_sites
returns c = rw (c.as_slice.ensures, c.type_number-number.ensures) at c.unknown_site_among.ensures
