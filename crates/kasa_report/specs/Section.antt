-- Sections of a report: a heading, and lines below it.
use Rattle.std.specs.Prelude.{ℕ, List, [], ◌∷◌, ◌++◌, codes}
use Rattle.std.specs.List.{flat_map}

-- a line: the text, and the line feed that ends it
unfoldable pub line : List ℕ → List ℕ
line text = text ++ 10 ∷ []

-- lines, one after another
abbrev pub all_lines : List (List ℕ) → List ℕ
all_lines lines = flat_map line lines

-- the lines below a heading, ` none` where there are none
abbrev pub below_heading : List (List ℕ) → List ℕ
below_heading [] = line (codes " none")
below_heading (l ∷ lines) = all_lines (l ∷ lines)

unfoldable pub section : List ℕ → List (List ℕ) → List ℕ
section heading lines = line heading ++ below_heading lines

-- texts with a separator between each two
abbrev pub joined : List ℕ → List (List ℕ) → List ℕ
joined separator [] = []
joined separator (t ∷ []) = t
joined separator (t ∷ u ∷ texts) = t ++ separator ++ joined separator (u ∷ texts)
