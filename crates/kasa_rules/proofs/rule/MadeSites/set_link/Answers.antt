use Rattle.kasa_rules.specs.declared.rule.MadeSite.{MadeSite}
use Rattle.kasa_lists.proofs.Updates.{slice_set-at}
use Rattle.kasa_rules.proofs.rule.MadeSites.set_link.Goals as goal

pub returns : goal.returns
returns c = rw (← c.self.view_is) (slice_set-at c.self.inside.items.items c.args.site c.index_mut.result.now (λ (x : MadeSite). record x { link = c.args.link }) c.index_mut.ensures.value (rw (← c.self.view_is) at c.requires))
