-- The text of tables.
use Rattle.std.specs.Prelude.{◌≡◌, ◌↔◌, ⊤, ℕ, List, [], ◌∷◌, ◌++◌, Option, Some, None, codes, decimal}
use Rattle.std.specs.List.{flat_map}
use Rattle.kasa_lists.specs.Lists.{Has}
use Rattle.kasa_families.specs.declared.family.Family.{Family}
use Rattle.kasa_families.specs.declared.family.Family.TheVariants.{View, Across, Parallel, Chain}
use Rattle.kasa_families.specs.declared.row.LocalLink.{LocalLink}
use Rattle.kasa_families.specs.declared.row.LocalLink.TheVariants.{Free, Partner}
use Rattle.kasa_families.specs.declared.row.Local.{Local}
use Rattle.kasa_families.specs.declared.row.Row.{Row}
use Rattle.kasa_families.specs.declared.row.Row.TheVariants.{Locals, Same, Different}
use Rattle.kasa_families.specs.Row.{AreAscending}
use Rattle.kasa_families.specs.Table.{Table}

-- ---- words

abbrev pub state_text : Option ℕ → List ℕ
state_text None = codes "-"
state_text (Some s) = decimal s

abbrev pub link_text : LocalLink → List ℕ
link_text Free = codes "."
link_text (Partner t y) = decimal t ++ codes "." ++ decimal y

abbrev pub local_text : Local → List ℕ
local_text l = state_text l.state ++ codes "," ++ link_text l.link

-- ---- lines

-- words, each behind a space
abbrev pub spaced : {A : Type 0} → (A → List ℕ) → List A → List ℕ
spaced text xs = flat_map (λ x. codes " " ++ text x) xs

-- a line of a first word and others
abbrev pub line_text : {A : Type 0} → List ℕ → (A → List ℕ) → List A → List ℕ
line_text word text xs = word ++ spaced text xs

abbrev pub family_line : Family → List ℕ
family_line (View a sites) = line_text (codes "view") decimal (a ∷ sites)
family_line (Across a x p b y q) = line_text (codes "across") decimal (a ∷ x ∷ p ∷ b ∷ y ∷ q ∷ [])
family_line (Parallel a x u b y w) = line_text (codes "parallel") decimal (a ∷ x ∷ u ∷ b ∷ y ∷ w ∷ [])
family_line (Chain a x p b y z c w q) = line_text (codes "chain") decimal (a ∷ x ∷ p ∷ b ∷ y ∷ z ∷ c ∷ w ∷ q ∷ [])

abbrev pub row_line : Row → List ℕ
row_line (Locals locals) = line_text (codes "r") local_text locals
row_line Same = codes "r same"
row_line Different = codes "r different"

-- a line that LF ends
abbrev pub ended : List ℕ → List ℕ
ended line = line ++ codes "\n"

abbrev pub row_text : Row → List ℕ
row_text row = ended (row_line row)

-- ---- tables

abbrev pub table_text : Table → List ℕ
table_text t = ended (family_line t.family) ++ flat_map row_text t.rows

-- tables as they stand, families and rows in their order
abbrev pub tables_text : List Table → List ℕ
tables_text tables = codes "kasa tables 2\n" ++ flat_map table_text tables ++ codes "end\n"

-- a table of the same family, whose rows are the same ones in row order
pub record IsOrdered (table ordered : Table) : Type 0 where
  pub family : ordered.family ≡ table.family
  pub rows : (row : Row) → Has ordered.rows row ↔ Has table.rows row
  pub ascend : AreAscending ordered.rows

abbrev pub AreOrdered : List Table → List Table → Type 0
AreOrdered [] [] = ⊤
AreOrdered (t ∷ tables) (o ∷ ordered) = IsOrdered t o × AreOrdered tables ordered
AreOrdered _ _ = ⊥

-- the text that tables are written as: families in table order, rows in row order
abbrev pub IsTextOf : List Table → List ℕ → Type 0
IsTextOf tables text = (ordered : List Table) × AreOrdered tables ordered × (text ≡ tables_text ordered)
