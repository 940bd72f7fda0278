use Rattle.kasa_polymers.proofs.GatherLemmas.{made_link_there}
use Rattle.kasa_polymers.proofs.gather.link_at_end.Goals as goal

pub returns-in-Made : goal.returns-in-Made
returns-in-Made c = made_link_there c.args.rule.now _ _ c.args.site _ c.in-Made.is c.requires.site c.made_link.ensures
