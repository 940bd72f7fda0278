use Rattle.std.proofs.Common.{◌≡◌, take, []}
use Rattle.kasa_compile.specs.Causes.{is_bad_link, bad_if}
use Rattle.kasa_compile.proofs.rights.bad_on_kept.Given as goal

abbrev pub invariant-loop-site : goal.invariant-loop-site
invariant-loop-site l = bad_if (λ s. is_bad_link l.left s.site s.link) (take l.site-index l.right) ≡ []
