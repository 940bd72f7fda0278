use Rattle.std.proofs.Common.{◌≡◌, map, take}
use Rattle.kasa_choose.specs.Kept.{keep_all}
use Rattle.kasa_choose.specs.Across.{across, type_of}
use Rattle.kasa_choose.proofs.across.add_ends.Given as goal

abbrev pub invariant-loop-site : goal.invariant-loop-site
invariant-loop-site l =
    l.planned ≡ keep_all l.fn.planned (map (across (type_of l.rule l.bond.node) l.bond.site l.near (type_of l.rule l.bond.partner) l.bond.partner_site) (take l.site-index l.far))
