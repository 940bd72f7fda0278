use Rattle.std.proofs.Common.{◌≡◌, ◌++◌, take, decimal}
use Rattle.kasa_tabfile.specs.TablesText.{spaced}
use Rattle.kasa_tabfile.proofs.write.write_sites.Given as goal

abbrev pub invariant-loop-site : goal.invariant-loop-site
invariant-loop-site l = l.out.items ≡ l.fn.out.items ++ spaced decimal (take l.site-index l.sites)
