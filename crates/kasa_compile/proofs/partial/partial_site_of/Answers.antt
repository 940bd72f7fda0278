use Rattle.kasa_compile.specs.Partial.{partial_sites}
use Rattle.kasa_compile.proofs.partial.partial_site_of.Goals as goal

pub returns : goal.returns
unfolding partial_sites
returns c = rw c.as_slice.ensures at c.partial_site_among.ensures
