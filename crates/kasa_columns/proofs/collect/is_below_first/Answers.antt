use Rattle.std.proofs.Common.{◌∙◌, ap, sym}
use Rattle.std.specs.Option.{option_copied}
use Rattle.std.specs.Ordering.{is_lt}
use Rattle.kasa_columns.proofs.CollectLemmas.{below_first}
use Rattle.kasa_columns.proofs.collect.is_below_first.Goals as goal

pub returns-in-Some : goal.returns-in-Some
returns-in-Some c =
    below_first c.args.found.now.keys c.args.row.now c.in-Some.least.now (sym c.first.ensures.key ∙ ap option_copied c.in-Some.is) c.is_lt.result (c.is_lt.ensures ∙ ap is_lt c.cmp.ensures)
