use Rattle.std.proofs.Common.{◌≡◌, take, []}
use Rattle.kasa_compile.specs.Causes.{bad_if}
use Rattle.kasa_compile.proofs.rights.bad_on_deleted.Given as goal

abbrev pub invariant-loop-site : goal.invariant-loop-site
invariant-loop-site l = bad_if (λ s. s.slash) (take l.site-index l.sites) ≡ []
