-- The section `lemmas` in the midst of its steps.
use Rattle.std.specs.Prelude.{◌≡◌, ◌↔◌, ◌⊎◌, ℕ, ◌++◌, List}
use Rattle.kasa_graph.specs.Lists.{Has}
use Rattle.kasa_graph.specs.Signature.{TypeEntry}
use Rattle.kasa_families.specs.declared.family.Family.{Family}
use Rattle.kasa_families.specs.declared.row.Row.{Row}
use Rattle.kasa_families.specs.Row.{AreAscending}
use Rattle.kasa_families.specs.Table.{Table}
use Rattle.kasa_report.specs.Section.{all_lines}
use Rattle.kasa_report.specs.Product.{IsProduct}
use Rattle.kasa_report.specs.LemmasText.{IsOrdered, AreShown, table_lines, lemma_lines}

-- a family with these rows
abbrev pub with_rows : Family → List Row → Table
with_rows family rows = record { family = family; rows = rows }

-- the same rows, in row order
pub record AreInRowOrder (rows ordered : List Row) : Type 0 where
  pub same : (row : Row) → Has ordered row ↔ Has rows row
  pub ascend : AreAscending ordered

-- the lines of the tables that are shown stand behind what stood before, written as `put` says
abbrev pub AddsLemmas : List TypeEntry → List Table → (List (List ℕ) → List ℕ) → List ℕ → List ℕ → Type 0
AddsLemmas sig tables put old new = (shown : List Table) × AreShown tables shown × (new ≡ old ++ put (lemma_lines sig shown))

-- nothing is written of a product, and the lines of the table otherwise
abbrev pub IsShown : List TypeEntry → Table → List ℕ → List ℕ → Type 0
IsShown sig t old new =
    (IsProduct t × (new ≡ old)) ⊎
    ((¬ IsProduct t) × ((o : Table) × IsOrdered t o × (new ≡ old ++ all_lines (table_lines sig o))))
