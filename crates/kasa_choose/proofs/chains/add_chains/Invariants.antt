use Rattle.std.proofs.Common.{◌≡◌, map, take}
use Rattle.std.specs.List.{flat_map}
use Rattle.kasa_families.specs.declared.family.Family.TheVariants.{Chain}
use Rattle.kasa_choose.specs.Kept.{keep_all}
use Rattle.kasa_choose.specs.Across.{type_of, further_sites}
use Rattle.kasa_choose.proofs.chains.add_chains.Given as goal

abbrev pub invariant-loop-site : goal.invariant-loop-site
invariant-loop-site l =
    l.planned
    ≡ keep_all l.fn.planned (flat_map (λ p. map (Chain (type_of l.rule l.first.partner) l.first.partner_site p (type_of l.rule l.first.node) l.first.site l.second.site (type_of l.rule l.second.partner) l.second.partner_site) (further_sites l.sig l.rule l.second.partner l.second.partner_site)) (take l.site-index (further_sites l.sig l.rule l.first.partner l.first.partner_site)))
