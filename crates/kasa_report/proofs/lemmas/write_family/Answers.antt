use Rattle.std.proofs.Common.{◌∙◌, refl}
use Rattle.kasa_report.proofs.TableLemmas.{shaped_at, differ_at, few_at, family_at, rows_at, product_at, shown_at, on_ok_then}
use Rattle.kasa_report.proofs.lemmas.write_family.Goals as goal

pub is_product-requires-clause-shape : goal.is_product-requires-clause-shape
is_product-requires-clause-shape g c = shaped_at _ _ _ c.in-Some.ensures c.requires.shaped _ (c.as_slice.ensures.value ∙ c.in_ok-copied.ensures)

pub is_product-requires-clause-different : goal.is_product-requires-clause-different
is_product-requires-clause-different g c = differ_at _ _ _ c.in-Some.ensures c.requires.shaped _ (c.as_slice.ensures.value ∙ c.in_ok-copied.ensures)

pub is_product-requires-clause-few : goal.is_product-requires-clause-few
is_product-requires-clause-few g c = few_at _ _ _ c.in-Some.ensures c.requires.shaped _ (c.as_slice.ensures.value ∙ c.in_ok-copied.ensures)

pub returns-then-branch : goal.returns-then-branch
returns-then-branch g c = product_at _ _ _ c.in-Some.ensures _ c.requires.tables _ _ _ (c.as_slice.ensures.value ∙ c.in_ok-copied.ensures) (c.in_ok-is_product.ensures.0 c.if-branch.true) refl

pub in_row_order-ordered-requires : goal.in_row_order-ordered-requires
in_row_order-ordered-requires g c = differ_at _ _ _ c.in-Some.ensures c.requires.shaped _ c.in_ok-copied.ensures

pub write_table-requires-clause-family : goal.write_table-requires-clause-family
write_table-requires-clause-family g c = family_at _ _ _ c.in-Some.ensures _ c.requires.tables

pub write_table-requires-clause-rows : goal.write_table-requires-clause-rows
write_table-requires-clause-rows g c = rows_at _ _ _ c.in-Some.ensures _ c.requires.tables _ (rw (c.as_slice-2.ensures.value, ← c.in_ok-copied.ensures) c.in_row_order-ordered.ensures)

pub returns : goal.returns
returns g c = on_ok_then c.write_table.result
    (λ written. shown_at _ _ _ c.in-Some.ensures _ c.requires.tables _ c.as_slice-2.result.now _ _ (c.as_slice.ensures.value ∙ c.in_ok-copied.ensures)
    (λ product. let yes = c.in_ok-is_product.ensures.1 product in let unmet = c.if-branch.false in absurd cc)
    (rw (c.as_slice-2.ensures.value, ← c.in_ok-copied.ensures) c.in_row_order-ordered.ensures) written)
    c.write_table.ensures
