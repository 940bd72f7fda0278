-- The section `lemmas`: the tables that aren't products, each with its rows in row order.
use Rattle.std.specs.Prelude.{◌≡◌, ◌↔◌, ◌⊎◌, ⊤, ℕ, List, [], ◌∷◌, ◌++◌, map, codes}
use Rattle.std.specs.List.{flat_map}
use Rattle.kasa_graph.specs.Lists.{Has}
use Rattle.kasa_graph.specs.Signature.{TypeEntry}
use Rattle.kasa_graph.specs.PatternText.{pattern_text}
use Rattle.kasa_families.specs.declared.family.Family.{Family}
use Rattle.kasa_families.specs.declared.row.Row.{Row}
use Rattle.kasa_families.specs.Family.{root}
use Rattle.kasa_families.specs.Pattern.{row_pattern}
use Rattle.kasa_families.specs.Row.{AreAscending}
use Rattle.kasa_families.specs.Table.{Table}
use Rattle.kasa_report.specs.Product.{IsProduct}

-- a table of the same family, whose rows are the same ones in row order
pub record IsOrdered (table ordered : Table) : Type 0 where
  pub family : ordered.family ≡ table.family
  pub rows : (row : Row) → Has ordered.rows row ↔ Has table.rows row
  pub ascend : AreAscending ordered.rows

-- the tables that are shown: those that aren't products, with their rows in row order
abbrev pub AreShown : List Table → List Table → Type 0
AreShown [] [] = ⊤
AreShown [] (o ∷ shown) = ⊥
AreShown (t ∷ tables) [] = IsProduct t × AreShown tables []
AreShown (t ∷ tables) (o ∷ shown) =
    (IsProduct t × AreShown tables (o ∷ shown)) ⊎ ((¬ IsProduct t) × IsOrdered t o × AreShown tables shown)

-- the pattern of a row, two spaces further in than the heading
unfoldable pub row_text : List TypeEntry → Family → Row → List ℕ
row_text sig family row = codes "  " ++ pattern_text sig (row_pattern sig family row)

-- a family without rows never occurs
abbrev pub row_lines : List TypeEntry → Family → List Row → List (List ℕ)
row_lines sig family [] = codes "  never" ∷ []
row_lines sig family (row ∷ rows) = map (row_text sig family) (row ∷ rows)

-- the pattern of the root, and below it the rows
unfoldable pub root_text : List TypeEntry → Family → List ℕ
root_text sig family = codes " " ++ pattern_text sig (root sig family)

abbrev pub table_lines : List TypeEntry → Table → List (List ℕ)
table_lines sig t = root_text sig t.family ∷ row_lines sig t.family t.rows

abbrev pub lemma_lines : List TypeEntry → List Table → List (List ℕ)
lemma_lines sig shown = flat_map (table_lines sig) shown
