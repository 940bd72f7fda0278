use Rattle.std.proofs.Common.{◌≡◌, ℕ, ◌<◌, Some}
use Rattle.std.specs.Prelude.{slice_get}
use Rattle.kasa_families.specs.declared.shape.NodeSite.{NodeSite}
use Rattle.kasa_influence.specs.inner.Stops.{AllowsSome, HasPartner}
use Rattle.kasa_influence.proofs.stops.takes_at.Given as goal

abbrev pub invariant-loop-x : goal.invariant-loop-x
invariant-loop-x g l = (i : ℕ) → i < l.x-index → (x : NodeSite) → slice_get l.ask.open_sites i ≡ Some x → ¬ AllowsSome l.ask.sig l.ask.tables l.g (HasPartner l.v l.place l.site x)
