use Rattle.std.proofs.Common.{◌≡◌}
use Rattle.std.specs.List.{flat_map}
use Rattle.kasa_choose.specs.Kept.{keep_all}
use Rattle.kasa_choose.specs.Views.{numbers}
use Rattle.kasa_choose.specs.Own.{partners_among}
use Rattle.kasa_choose.specs.Parallel.{over_sites}
use Rattle.kasa_choose.proofs.parallel.add_site.Given as goal

abbrev pub invariant-loop-number : goal.invariant-loop-number
invariant-loop-number l = l.planned ≡ keep_all l.fn.planned (flat_map (over_sites (partners_among l.own) l.agent l.site) (numbers l.number))
