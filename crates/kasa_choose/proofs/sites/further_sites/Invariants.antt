use Rattle.std.proofs.Common.{◌≡◌}
use Rattle.std.specs.List.{filter}
use Rattle.kasa_choose.specs.Views.{numbers}
use Rattle.kasa_choose.specs.Across.{is_further}
use Rattle.kasa_choose.proofs.sites.further_sites.Given as goal

abbrev pub invariant-loop-number : goal.invariant-loop-number
invariant-loop-number l = l.sites.items ≡ filter (is_further l.rule l.node l.but) (numbers l.number)
