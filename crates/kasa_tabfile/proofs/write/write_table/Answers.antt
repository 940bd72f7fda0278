use Rattle.std.proofs.Common.{◌∙◌, append_assoc}
use Rattle.kasa_tabfile.proofs.WrittenLemmas.{differ_at, table_written, on_ok_then}
use Rattle.kasa_tabfile.proofs.write.write_table.Goals as goal

pub in_row_order-ordered-requires : goal.in_row_order-ordered-requires
in_row_order-ordered-requires g c = differ_at _ _ _ c.in-Some.ensures _ c.in_ok-copied_rows.ensures c.requires.shaped

pub returns : goal.returns
returns g c = on_ok_then c.write_rows.result
    (λ written. table_written _ _ _ c.in-Some.ensures _ c.in_ok-copied_rows.ensures c.as_slice.result.now c.args.out.now.items _ _
    (rw c.as_slice.ensures.value c.in_row_order-ordered.ensures)
    (c.in_ok-push.ensures.items ∙ rw c.in_ok-write_family_line.ensures (append_assoc c.args.out.now.items _ _)) written)
    c.write_rows.ensures
