use Rattle.std.proofs.Common.{◌≡◌, take, []}
use Rattle.std.specs.Prelude.{◌||◌}
use Rattle.kasa_compile.specs.Causes.{leaves_state_open, leaves_link_open, bad_if}
use Rattle.kasa_compile.proofs.rights.bad_on_created.Given as goal

abbrev pub invariant-loop-site : goal.invariant-loop-site
invariant-loop-site l = bad_if (λ s. s.slash || (leaves_state_open s.state || leaves_link_open s.link)) (take l.site-index l.sites) ≡ []
