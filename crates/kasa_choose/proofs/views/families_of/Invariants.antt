use Rattle.std.proofs.Common.{◌≡◌}
use Rattle.kasa_choose.specs.ViewSets.{view_families}
use Rattle.kasa_choose.proofs.views.families_of.Given as goal

abbrev pub invariant-loop-agent : goal.invariant-loop-agent
invariant-loop-agent l = l.families.items ≡ view_families l.yielded
