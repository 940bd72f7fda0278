use Rattle.std.specs.Prelude.{Some}
use Rattle.kasa_lists.specs.Lists.{update}
use Rattle.kasa_rules.specs.declared.rule.SiteAction.{SiteAction}
use Rattle.kasa_rules.specs.declared.rule.NodeAction.{NodeAction}
use Rattle.kasa_lists.proofs.Elements.{then_bound}
use Rattle.kasa_lists.proofs.Updates.{slice_set-read}
use Rattle.kasa_rules.proofs.draft.put_action_state.Goals as goal

pub returns : goal.returns
returns c =
    let within = then_bound _ c.args.actions.now c.n.inside.0 (rw (← c.n.view_is) at c.requires) in
    rw (c.set_state.ensures, ← c.n.view_is, ← c.s.view_is) (slice_set-read c.args.actions.now c.n.inside.0 c.index-actions-n.result (λ (x : NodeAction). record x { sites = update x.sites c.s.inside.0 (λ (y : SiteAction). record y { state = Some c.args.state }) }) within)
