use Rattle.std.proofs.Common.{◌≡◌, None, rules}
use Rattle.std.proofs.lemmas.Result.{IfOk-weaker}
use Rattle.kasa_pre.specs.Before.{link_written}
use Rattle.kasa_columns.proofs.StandSites.{sources_are}
use Rattle.kasa_columns.proofs.fired.sources.Goals as goal

pub returns-in-Partner : goal.returns-in-Partner
returns-in-Partner c =
    let unwritten : link_written c.args.rule.now c.args.stand.now c.args.column.site ≡ None = search rules in
    IfOk-weaker c.touched_partners.result _ _
    (λ found. sources_are c.args.rule.now c.args.stand.now c.args.column c.in-Partner.agent c.in-Partner.«at» c.args.shown.now unwritten c.in-Partner.is found.items)
    c.touched_partners.ensures
