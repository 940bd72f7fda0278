use Rattle.std.proofs.Common.{◌≡◌, ◌<◌, length, refl}
use Rattle.std.specs.Prelude.{Some, slice_get}
use Rattle.std.proofs.lemmas.Option.{slice_get_read}
use Rattle.kasa_rules.proofs.DraftLemmas.{sites_listed}
use Rattle.kasa_rules.proofs.draft.RuleDraft.sites.Goals as goal
use Rattle.kasa_rules.proofs.draft.RuleDraft.sites.Goals.{After-len}

read : (c : After-len) → slice_get c.self.inside.actions.items c.node.inside.0 ≡ Some c.index.result.now
read c =
    let within : c.node.inside.0 < length c.self.inside.actions.items = rw (c.self.invariant.0.actions, c.node.view_is) (rw (← c.self.view_is) at c.requires) in
    slice_get_read c.self.inside.actions.items _ c.node.inside.0 c.index.result.now refl within c.index.ensures

pub returns-clause-count : goal.returns-clause-count
returns-clause-count c =
    let d = (goal.at.returns-clause-count c).After-len in
    rw (c.len.ensures, ← c.self.view_is, ← c.node.view_is) (sites_listed _ _ _ c.self.invariant.2 (read d)).0

pub returns-clause-few : goal.returns-clause-few
returns-clause-few c =
    let d = (goal.at.returns-clause-few c).After-len in
    rw c.len.ensures (sites_listed _ _ _ c.self.invariant.2 (read d)).1
