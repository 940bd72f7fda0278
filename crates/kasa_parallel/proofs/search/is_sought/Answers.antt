use Rattle.std.proofs.Common.{◌≡◌, true}
use Rattle.std.proofs.lemmas.Result.{IfOk-weaker}
use Rattle.kasa_graph.specs.Lists.{Has}
use Rattle.kasa_families.specs.Pattern.{row_pattern}
use Rattle.kasa_families.specs.Table.{rows_of}
use Rattle.kasa_parallel.proofs.SearchLemmas.{valid_asked, no_locals, IsSought-on, IsKnownRow-on}
use Rattle.kasa_parallel.proofs.search.is_sought.Goals.{else-search-via-then-search+else-has, else-search-via-else-search}
use Rattle.kasa_parallel.proofs.search.is_sought.Goals as goal

pub pattern-requires-clause-family : goal.pattern-requires-clause-family
pattern-requires-clause-family g c = valid_asked _ c.search.invariant

pub from_any-requires-clause-row : goal.from_any-requires-clause-row
from_any-requires-clause-row g c = no_locals c.args.search.now (rw (← c.search.view_is) c.search.invariant) c.args.row.now c.requires

pub returns-clause-yes : goal.returns-clause-yes
returns-clause-yes g c =
    let same : c.in_ok-v.v ≡ row_pattern c.args.search.now.sig c.args.search.now.family c.args.row.now = rw (← c.search.view_is) c.in_ok-v.ensures.pattern in
    let new : c.search.inside.only_new ≡ true → ¬ Has (rows_of (g.R.Rows.tables c.search.inside.rows.now) c.search.inside.number) c.args.row.now = elim c.else-search.branch [
      | else-search-via-then-search+else-has w ↦ λ yes has. let there = w.has.ensures.1 has in let none = w.if-has.false in absurd cc
      | else-search-via-else-search w ↦ λ yes has. let none = w.if-search.false in absurd cc
    ] in
    IfOk-weaker c.from_any.result _ _
    (λ b told. IsSought-on c.args.search.now (rw (← c.search.view_is) c.search.invariant) c.args.row.now c.requires c.in_ok-firsts.firsts.items b (rw (c.as_slice.ensures.value, same) at told) (rw (← c.search.view_is) new))
    c.from_any.ensures

pub returns-clause-no : goal.returns-clause-no
returns-clause-no g c =
    let same : c.in_ok-v.v ≡ row_pattern c.args.search.now.sig c.args.search.now.family c.args.row.now = rw (← c.search.view_is) c.in_ok-v.ensures.pattern in
    IfOk-weaker c.from_any.result _ _
    (λ b told. IsKnownRow-on c.args.search.now (rw (← c.search.view_is) c.search.invariant) c.args.row.now c.requires c.in_ok-firsts.firsts.items b (rw (c.as_slice.ensures.value, same) at told) c.in_ok-firsts.ensures)
    c.from_any.ensures
