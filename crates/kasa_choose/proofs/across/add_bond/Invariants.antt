use Rattle.std.proofs.Common.{◌≡◌, map, take}
use Rattle.std.specs.List.{flat_map}
use Rattle.kasa_choose.specs.Kept.{keep_all}
use Rattle.kasa_choose.specs.Across.{across, type_of, further_sites}
use Rattle.kasa_choose.proofs.across.add_bond.Given as goal

abbrev pub invariant-loop-site : goal.invariant-loop-site
invariant-loop-site l =
    l.planned
    ≡ keep_all l.fn.planned (flat_map (λ p. map (across (type_of l.rule l.bond.node) l.bond.site p (type_of l.rule l.bond.partner) l.bond.partner_site) (further_sites l.sig l.rule l.bond.partner l.bond.partner_site)) (take l.site-index (further_sites l.sig l.rule l.bond.node l.bond.site)))
