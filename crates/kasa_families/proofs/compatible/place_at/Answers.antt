use Rattle.std.proofs.Common.{◌≡◌, refl, ap, sym, ◌∙◌}
use Rattle.kasa_families.specs.Spot.{place_of, StandsAt}
use Rattle.kasa_families.proofs.SpotLemmas.{HasNodeSite-third, place_of-one, place_of-two}
use Rattle.kasa_families.proofs.compatible.place_at.Goals as goal

pub third-requires : goal.third-requires
third-requires c = HasNodeSite-third _ _ _ _ (rw c.in-Some.is at c.requires.stands) c.requires.named
