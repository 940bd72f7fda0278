use Rattle.std.specs.Prelude.{Some}
use Rattle.kasa_rules.specs.declared.rule.SiteAction.{SiteAction}
use Rattle.kasa_lists.proofs.Updates.{slice_set-at}
use Rattle.kasa_rules.proofs.rule.SiteActions.set_state.Goals as goal

pub returns : goal.returns
returns c = rw (← c.self.view_is) (slice_set-at c.self.inside.items.items c.args.site c.index_mut.result.now (λ (x : SiteAction). record x { state = Some c.args.state }) c.index_mut.ensures.value (rw (← c.self.view_is) at c.requires))
