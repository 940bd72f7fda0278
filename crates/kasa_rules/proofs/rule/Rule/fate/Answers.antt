use Rattle.std.proofs.Common.{◌<◌, length, refl}
use Rattle.std.proofs.lemmas.Option.{slice_get_read}
use Rattle.kasa_rules.proofs.RuleLemmas.{fate_at-of}
use Rattle.kasa_rules.proofs.rule.Rule.fate.Goals as goal

pub returns : goal.returns
returns c =
    let within : c.node.inside.0 < length c.self.inside.actions.items = rw (c.self.invariant.0.actions, c.node.view_is) (rw (← c.self.view_is) at c.requires) in
    rw (← c.self.view_is, ← c.node.view_is) (fate_at-of _ _ _ (slice_get_read c.self.inside.actions.items _ c.node.inside.0 c.index.result.now refl within c.index.ensures))
