use Rattle.std.proofs.Common.{◌≡◌, ◌++◌, ℕ, length, ◌∙◌, ap, rules}
use Rattle.kasa_graph.specs.Lists.{Has}
use Rattle.kasa_families.specs.declared.row.Local.{Local}
use Rattle.kasa_tables.specs.Post.{post_at, has_at, number_if}
use Rattle.kasa_tables.specs.Index.{locals_of}
use Rattle.kasa_tables.proofs.RowSets.{insert_new}
use Rattle.kasa_tables.proofs.IndexLemmas.{IsIndexed-same, IsIndexed-push}
use Rattle.kasa_tables.proofs.indexed_table.IndexedTable.push.Goals as goal

pub invariant_of-self-in_err-insert : goal.invariant_of-self-in_err-insert
invariant_of-self-in_err-insert c =
    rw c.in_err-insert.ensures.err
    (IsIndexed-same c.self.inside.family c.self.inside.rows.keys c.self.inside.columns.items c.self.invariant c.reserve_all.new.columns.items c.reserve_all.ensures.width c.reserve_all.ensures.same)

pub invariant_of-self-2 : goal.invariant_of-self-2
invariant_of-self-2 c =
    let keys = c.self.inside.rows.keys in
    let columns = c.self.inside.columns.items in
    let new = c.push_all.new.columns.items in
    let fresh : ¬ Has keys c.args.row = rw (← c.self.view_is) at c.requires.new in
    let posts : (k : ℕ) (q : Local) → post_at new k q ≡ post_at columns k q ++ number_if (has_at k q (locals_of c.args.row)) (length keys) =
    λ k q.
    let pushed : post_at new k q ≡ post_at c.reserve_all.new.columns.items k q ++ number_if (has_at k q c.locals_of-2.result.now) c.len-number.result = c.push_all.ensures.posts k q in
    let row_is : c.locals_of-2.result.now ≡ locals_of c.args.row = c.locals_of-2.ensures ∙ ap locals_of c.copy-copy.ensures in
    let number_is : c.len-number.result ≡ length keys = c.len-number.ensures.len in
    rw (← number_is, ← row_is, ← c.reserve_all.ensures.same k q) pushed in
    rw (c.in_ok-insert.ensures.keys, insert_new keys c.args.row fresh)
    (IsIndexed-push c.self.inside.family keys columns c.self.invariant new c.args.row (rw (← c.self.view_is) at c.requires.shape) fresh (c.push_all.ensures.width ∙ c.reserve_all.ensures.width) posts)

pub returns-clause-ok : goal.returns-clause-ok
returns-clause-ok c =
    let keys = c.self.inside.rows.keys in
    let fresh : ¬ Has keys c.args.row = rw (← c.self.view_is) at c.requires.new in
    rw (c.in_ok-insert.ensures.keys, insert_new keys c.args.row fresh, ← c.self.view_is) (search rules)
