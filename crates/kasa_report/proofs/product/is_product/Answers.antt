use Rattle.std.proofs.Common.{length}
use Rattle.std.specs.Prelude.{IsTrue, ◌↔◌}
use Rattle.std.proofs.lemmas.Bool.Decides.{Decides-eqb}
use Rattle.std.proofs.lemmas.Result.{IfOk-weaker}
use Rattle.kasa_lists.specs.Lists.{Has}
use Rattle.kasa_families.specs.declared.family.Family.TheVariants.{Parallel}
use Rattle.kasa_families.specs.declared.row.Row.{Row}
use Rattle.kasa_families.specs.Table.{HasShape}
use Rattle.kasa_report.specs.Product.{IsProductOf, IsProductRows}
use Rattle.kasa_report.proofs.ProductLemmas.{AreWide-shaped, product_rows, two_are_both, both_are_two}
use Rattle.kasa_report.proofs.product.is_product.Goals as goal

pub returns-in-Parallel : goal.returns-in-Parallel
returns-in-Parallel c =
    let p = c.in-Parallel in
    let rows = c.args.rows.now in
    let shape : (row : Row) → Has rows row → HasShape (Parallel p.a p.x p.u p.b p.y p.w) row = rw p.is at c.requires.shape in
    let test = Decides-eqb (length rows) 2 in
    rw p.is (λ yes. two_are_both p.a p.x p.u p.b p.y p.w rows shape c.requires.different (test.0 yes), λ both. test.1 (both_are_two p.a p.x p.u p.b p.y p.w rows shape c.requires.different both))

pub is_full-requires-clause-wide : goal.is_full-requires-clause-wide
is_full-requires-clause-wide c = rw c.columns.ensures (AreWide-shaped c.args.family.now c.args.rows.now c.in_default.not-Parallel c.requires.shape)

pub returns-in_default : goal.returns-in_default
returns-in_default c =
    let rows = c.args.rows.now in
    let same = product_rows c.args.family.now rows c.in_default.not-Parallel in
    IfOk-weaker c.is_full.result (λ yes. IsTrue yes ↔ IsProductOf c.columns.result rows) (λ yes. IsTrue yes ↔ IsProductRows c.args.family.now rows)
    (λ yes told. (λ t. same.0 (rw c.columns.ensures at (told.0 t)), λ p. told.1 (rw c.columns.ensures (same.1 p)))) c.is_full.ensures
