use Rattle.std.proofs.Common.{◌≡◌, sym, ap, ◌∙◌, rules}
use Rattle.kasa_graph.specs.Lists.{Has}
use Rattle.kasa_columns.specs.declared.collect.Aim.TheVariants.{NewUpTo}
use Rattle.kasa_columns.specs.Ask.{Ask, stored}
use Rattle.kasa_columns.proofs.CollectLemmas.{wanted_new, settled_new}
use Rattle.kasa_columns.proofs.collect.is_wanted.Goals as goal

pub returns-then-not-has-clause-wanted : goal.returns-then-not-has-clause-wanted
returns-then-not-has-clause-wanted g c =
    let aim : c.args.search.now.aim ≡ NewUpTo c.in-NewUpTo.most = sym (ap (λ (a : Ask). a.aim) c.search.view_is) ∙ c.in-NewUpTo.is in
    let new : ¬ Has (stored c.args.search.now) c.args.row.now = rw (← c.search.view_is) (search rules) in
    rw aim (wanted_new (stored c.args.search.now) c.args.found.now.keys c.in-NewUpTo.most c.args.row.now c.is_open-then-not-has.result new c.is_open-then-not-has.ensures.open)

pub returns-then-not-has-clause-settled : goal.returns-then-not-has-clause-settled
returns-then-not-has-clause-settled g c =
    let aim : c.args.search.now.aim ≡ NewUpTo c.in-NewUpTo.most = sym (ap (λ (a : Ask). a.aim) c.search.view_is) ∙ c.in-NewUpTo.is in
    rw aim (settled_new (stored c.args.search.now) c.args.found.now.keys c.in-NewUpTo.most c.args.row.now c.is_open-then-not-has.result c.is_open-then-not-has.ensures.closed)
