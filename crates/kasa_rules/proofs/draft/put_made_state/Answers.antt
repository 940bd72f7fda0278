use Rattle.std.specs.Prelude.{Some}
use Rattle.kasa_lists.specs.Lists.{update}
use Rattle.kasa_rules.specs.declared.rule.MadeSite.{MadeSite}
use Rattle.kasa_rules.specs.declared.rule.MadeAgent.{MadeAgent}
use Rattle.kasa_lists.proofs.Elements.{then_bound}
use Rattle.kasa_lists.proofs.Updates.{slice_set-read}
use Rattle.kasa_rules.proofs.draft.put_made_state.Goals as goal

pub returns : goal.returns
returns c =
    let within = then_bound _ c.args.made.now c.args.k c.requires in
    rw (c.set_state.ensures, ← c.s.view_is) (slice_set-read c.args.made.now c.args.k c.index-made-k.result (λ (x : MadeAgent). record x { sites = update x.sites c.s.inside.0 (λ (y : MadeSite). record y { state = Some c.args.state }) }) within)
