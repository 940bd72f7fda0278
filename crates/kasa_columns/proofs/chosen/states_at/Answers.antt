use Rattle.std.proofs.Common.{◌≡◌, sym, ap, Some}
use Rattle.std.specs.Prelude.{slice_get}
use Rattle.std.proofs.lemmas.List.Filters.{dedup_is}
use Rattle.kasa_families.specs.Table.{rows_of}
use Rattle.kasa_columns.specs.Ask.{Ask}
use Rattle.kasa_columns.specs.Chosen.{ListsAt}
use Rattle.kasa_columns.proofs.Kept.{locals_kept}
use Rattle.kasa_columns.proofs.Pushing.{pushed_at, pushed_all, from_all, both_ways}
use Rattle.kasa_columns.proofs.chosen.states_at.Goals as goal

pub loop-k-preserved : goal.loop-k-preserved
loop-k-preserved g c =
    let tables = ap (λ (a : Ask). a.tables) c.search.view_is in
    let at : slice_get (rows_of c.args.search.now.tables c.args.f) c.loop-k.k ≡ Some c.in-Some.row.now = rw (← tables) (sym c.in-Some.ensures) in
    pushed_at (ListsAt c.args.place) _ (rows_of c.args.search.now.tables c.args.f) c.loop-k.k c.loop-k.items.items _ c.in-Some.row.now at c.loop-k.invariant c.in_ok-push_listed-in-Some.ensures

pub returns : goal.returns
returns g c =
    let tables = ap (λ (a : Ask). a.tables) c.search.view_is in
    let all = from_all (ListsAt c.args.place) (rows_of c.args.search.now.tables c.args.f) c.loop-k.items.items (rw c.new-items.ensures.items at (pushed_all (ListsAt c.args.place) _ (rows_of c.args.search.now.tables c.args.f) c.loop-k.k c.loop-k.items.items (rw (← tables, ← c.rows-k-end.ensures) c.loop-k-test.false) c.loop-k.invariant)) in
    rw (dedup_is _ _ _ c.dedup.ensures.filtered)
    (λ l. both_ways (locals_kept c.loop-k.items.items _ c.sort_unstable.ensures.permutation l) (all l))
