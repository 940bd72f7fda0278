use Rattle.std.proofs.Common.{◌≡◌}
use Rattle.kasa_choose.specs.ViewSets.{site_lists}
use Rattle.kasa_choose.proofs.views.list_of.Given as goal

abbrev pub invariant-loop-sites : goal.invariant-loop-sites
invariant-loop-sites l = l.lists.items ≡ site_lists l.yielded
