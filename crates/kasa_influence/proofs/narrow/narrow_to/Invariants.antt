use Rattle.std.proofs.Common.{ℕ, ◌<◌}
use Rattle.kasa_pre.specs.Narrow.{IsNarrowed}
use Rattle.kasa_influence.specs.inner.Stops.{SiteStands}
use Rattle.kasa_influence.proofs.narrow.narrow_to.Given as goal

abbrev pub invariant-loop-site : goal.invariant-loop-site
invariant-loop-site l = IsNarrowed l.sig l.fn.g (λ h. (s : ℕ) → s < l.site → SiteStands l.v l.place s h) l.g
