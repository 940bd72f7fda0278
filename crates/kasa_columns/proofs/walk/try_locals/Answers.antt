use Rattle.std.proofs.Common.{ap}
use Rattle.kasa_columns.specs.Ask.{Ask, IsAsk}
use Rattle.kasa_columns.proofs.WalkLemmas.{AreFreed-asked, IsResult-stands}
use Rattle.kasa_columns.proofs.walk.try_locals.Goals as goal

pub stands_after-requires-clause-free : goal.stands_after-requires-clause-free
stands_after-requires-clause-free g c =
    let ok : IsAsk c.args.search.now = rw (← c.search.view_is) c.search.invariant in
    AreFreed-asked c.args.search.now ok c.args.stands.now (record { locals = c.args.locals; freed = c.args.freed.now }) c.requires.comes

pub keep-requires-clause-result : goal.keep-requires-clause-result
keep-requires-clause-result g c =
    let ok : IsAsk c.args.search.now = rw (← c.search.view_is) c.search.invariant in
    let valid = rw (ap (λ (a : Ask). a.sig) c.search.view_is, ap (λ (a : Ask). a.family) c.search.view_is) at (c.is_row.ensures.0 c.if-is_row.true) in
    IsResult-stands c.args.search.now ok c.args.stands.now (record { locals = c.args.locals; freed = c.args.freed.now }) c.requires.comes valid (c.in_ok-stands_after.ensures.0 c.if-branch.true)
