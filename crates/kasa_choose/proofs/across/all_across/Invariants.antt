use Rattle.std.proofs.Common.{◌≡◌, [], take}
use Rattle.std.specs.List.{flat_map}
use Rattle.kasa_choose.specs.Kept.{keep_all}
use Rattle.kasa_choose.specs.Across.{over_rule}
use Rattle.kasa_choose.proofs.across.all_across.Given as goal

abbrev pub invariant-loop-rule : goal.invariant-loop-rule
invariant-loop-rule l = l.planned ≡ keep_all [] (flat_map (over_rule l.model.sig) (take l.rule-index l.model.rules))
