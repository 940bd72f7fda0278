use Rattle.std.proofs.Common.{◌≡◌}
use Rattle.std.specs.Prelude.{replicate}
use Rattle.kasa_rules.specs.Draft.{no_action}
use Rattle.kasa_rules.proofs.rule.SiteActions.none.Given as goal

abbrev pub invariant-loop : goal.invariant-loop
invariant-loop l = l.items.items ≡ replicate l.counter no_action
