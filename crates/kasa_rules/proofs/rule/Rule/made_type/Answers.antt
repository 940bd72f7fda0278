use Rattle.std.proofs.Common.{◌<◌, length, refl, rules}
use Rattle.std.proofs.lemmas.Option.{slice_get_read}
use Rattle.kasa_rules.proofs.RuleLemmas.{made_type-of}
use Rattle.kasa_rules.proofs.rule.Rule.made_type.Goals as goal

pub returns : goal.returns
returns c =
    let within : c.args.k < length c.self.inside.made.items = search rules in
    rw (← c.self.view_is) (made_type-of _ _ _ (slice_get_read c.self.inside.made.items _ c.args.k c.index.result.now refl within c.index.ensures))
