use Rattle.std.proofs.Common.{◌≡◌, ◌++◌, take}
use Rattle.kasa_choose.proofs.planned.add_sites.Given as goal

abbrev pub invariant-loop-site : goal.invariant-loop-site
invariant-loop-site l = l.numbers.items ≡ l.fn.numbers.items ++ take l.site-index l.sites
