use Rattle.kasa_compile.specs.Names.{sites_twice}
use Rattle.kasa_compile.proofs.names.first_in_agent.Goals as goal

pub returns-in-Twice : goal.returns-in-Twice
unfolding sites_twice
returns-in-Twice c = rw (c.in-Twice.is, ← c.as_slice.ensures) c.site_twice.ensures
