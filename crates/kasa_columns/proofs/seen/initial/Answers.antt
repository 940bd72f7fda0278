use Rattle.std.proofs.Common.{◌≡◌, ◌↔◌, ℕ, List, refl}
use Rattle.std.proofs.lemmas.List.Filters.{dedup_is}
use Rattle.std.proofs.lemmas.Option.{slice_get_read}
use Rattle.kasa_graph.specs.Lists.{Has}
use Rattle.kasa_graph.specs.Embedding.{IsEmbedding}
use Rattle.kasa_families.specs.declared.row.Row.{Row}
use Rattle.kasa_families.specs.Family.{root}
use Rattle.kasa_columns.specs.Seen.{row_in}
use Rattle.kasa_columns.proofs.Kept.{rows_ascend, rows_kept}
use Rattle.kasa_columns.proofs.SeenLemmas.{IsSmall-root, cells_within, seen_rows}
use Rattle.kasa_columns.proofs.Pushing.{pushed_none, pushed_next, pushed_all, from_all, adds_one}
use Rattle.kasa_columns.proofs.seen.initial.Goals as goal

pub embeddings-requires-clause-some : goal.embeddings-requires-clause-some
embeddings-requires-clause-some c = rw c.in_ok-root.ensures.pattern (IsSmall-root c.args.sig.now c.args.family.now c.requires.columns c.requires.valid).some

pub embeddings-requires-clause-few : goal.embeddings-requires-clause-few
embeddings-requires-clause-few c = rw c.in_ok-root.ensures.pattern (IsSmall-root c.args.sig.now c.args.family.now c.requires.columns c.requires.valid).few

pub embeddings-requires-clause-connected : goal.embeddings-requires-clause-connected
embeddings-requires-clause-connected c = rw c.in_ok-root.ensures.pattern (IsSmall-root c.args.sig.now c.args.family.now c.requires.columns c.requires.valid).connected

pub loop-cells-init : goal.loop-cells-init
loop-cells-init c = pushed_none (λ (cells : List ℕ) (x : Row). x ≡ row_in c.args.init.now c.in_ok-columns.columns.items cells) _

pub seen_row-requires-clause-nodes : goal.seen_row-requires-clause-nodes
seen_row-requires-clause-nodes c =
    let here = rw c.deref-cells-items.ensures.value at (slice_get_read c.deref-cells-items.result.now _ c.loop-cells.cells-index c.cells-item.result refl c.loop-cells-test.true c.cells-item.is) in
    let emb = rw c.in_ok-root.ensures.pattern at (c.in_ok-found.ensures.embedded c.cells-item.result (c.loop-cells.cells-index, here)) in
    rw (c.as_slice.ensures.value, c.in_ok-columns.ensures) (cells_within c.args.sig.now c.args.init.now c.requires.over c.args.family.now c.requires.columns c.requires.valid c.cells-item.result emb)

pub loop-cells-preserved : goal.loop-cells-preserved
loop-cells-preserved c =
    rw (c.in_ok-push.ensures.items, c.in_ok-seen_row.ensures, c.as_slice.ensures.value)
    (pushed_next (λ (cells : List ℕ) (x : Row). x ≡ row_in c.args.init.now c.in_ok-columns.columns.items cells) _ c.deref-cells-items.result.now c.loop-cells.cells-index c.loop-cells.rows.items _ c.cells-item.result c.loop-cells-test.true c.cells-item.is c.loop-cells.invariant (adds_one (λ (cells : List ℕ) (x : Row). x ≡ row_in c.args.init.now c.in_ok-columns.columns.items cells) c.loop-cells.rows.items c.cells-item.result _ refl (λ row e. e)))

pub returns-clause-rows : goal.returns-clause-rows
returns-clause-rows c =
    let all = from_all (λ (cells : List ℕ) (x : Row). x ≡ row_in c.args.init.now c.in_ok-columns.columns.items cells) c.deref-cells-items.result.now c.loop-cells.rows.items (rw c.in_ok-rows.ensures.items at (pushed_all (λ (cells : List ℕ) (x : Row). x ≡ row_in c.args.init.now c.in_ok-columns.columns.items cells) _ c.deref-cells-items.result.now c.loop-cells.cells-index c.loop-cells.rows.items c.loop-cells-test.false c.loop-cells.invariant)) in
    let each : (cells : List ℕ) → Has c.in_ok-found.found.items cells ↔ IsEmbedding (root c.args.sig.now c.args.family.now) c.args.init.now cells = rw (← c.in_ok-root.ensures.pattern) (λ cells. (c.in_ok-found.ensures.embedded cells, c.in_ok-found.ensures.all cells)) in
    let seen = seen_rows c.args.sig.now c.args.init.now c.requires.over c.args.family.now c.requires.columns c.requires.valid c.in_ok-found.found.items each in
    rw (dedup_is _ _ _ c.dedup.ensures.filtered)
    (λ row.
    let kept = rows_kept c.loop-cells.rows.items _ c.sort_unstable.ensures.permutation row in
    let from = rw (c.deref-cells-items.ensures.value, c.in_ok-columns.ensures) at (all row) in
    (λ has. (seen row).0 (from.0 (kept.0 has)), λ h. kept.1 (from.1 ((seen row).1 h))))

pub returns-clause-ascend : goal.returns-clause-ascend
returns-clause-ascend c = rw (dedup_is _ _ _ c.dedup.ensures.filtered) (rows_ascend _ c.sort_unstable.ensures.sorted)
