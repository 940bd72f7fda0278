-- What the index of a family's rows has to hold.
use Rattle.std.specs.Prelude.{◌≡◌, ℕ, suc, ◌<◌, ◌≤◌, ◌↔◌, Bool, false, nat_eq, min, List, [], ◌∷◌, ◌++◌, length, map, Vec, Option, Some, None, slice_get, option_map}
use Rattle.std.specs.Global.{Global}
use Rattle.std.specs.Option.{option_map_or, unwrap_or}
use Rattle.kasa_graph.specs.declared.pattern.Node.{Node}
use Rattle.kasa_graph.specs.Lists.{Has, AllDifferent}
use Rattle.kasa_families.specs.declared.row.Local.{Local}
use Rattle.kasa_families.specs.declared.row.Row.{Row}
use Rattle.kasa_families.specs.declared.row.Row.TheVariants.{Locals, Same, Different}
use Rattle.kasa_families.specs.declared.family.Family.{Family}
use Rattle.kasa_families.specs.Local.{LocalAgrees}
use Rattle.kasa_families.specs.Shape.{Nth}
use Rattle.kasa_families.specs.Family.{shape_of, family_types}
use Rattle.kasa_families.specs.Table.{Table, HasShape}
use Rattle.kasa_families.specs.Compatible.{IsCompatible}
use Rattle.kasa_tables.specs.Post.{ColumnView, post, post_at, has_at, number_if}

-- ---- numbers

-- the numbers of the elements that pass the test, where the first has the number n
abbrev pub numbers : {X : Type 0} → (X → Bool) → ℕ → List X → List ℕ
numbers test n [] = []
numbers test n (x ∷ xs) = number_if (test x) n ++ numbers test (suc n) xs

-- the numbers rise
abbrev pub IsRising : List ℕ → Type 0
IsRising xs = (i j x y : ℕ) → i < j → slice_get xs i ≡ Some x → slice_get xs j ≡ Some y → x < y

-- ---- rows

-- the local states of a row, none where it has no columns
abbrev pub locals_of : Row → List Local
locals_of (Locals locals) = locals
locals_of Same = []
locals_of Different = []

-- each list of each column has, ascending, the numbers of the rows that have its local state there
pub record IsIndexed (family : Family) (rows : List Row) (columns : List ColumnView) : Type 0 where
  pub narrow : length columns ≤ 16
  pub width : length columns ≡ length (shape_of family).columns
  pub different : AllDifferent rows
  pub shapes : (row : Row) → Has rows row → HasShape family row
  pub posts : (c : ℕ) (q : Local) → c < length columns → post_at columns c q ≡ numbers (λ row. has_at c q (locals_of row)) 0 rows

-- ---- rows that are looked for

-- the row of a number is there, and compatible with g at the place
abbrev pub IsMatch : List Row → List Node → Family → List ℕ → ℕ → Type 0
IsMatch rows g family place k = (row : Row) × (slice_get rows k ≡ Some row) × IsCompatible g family place row

-- the row is the only one there that is compatible, if any is
abbrev pub IsOnlyMatch : List Row → List Node → Family → List ℕ → Row → Type 0
IsOnlyMatch rows g family place row = (k : ℕ) → IsMatch rows g family place k ↔ (slice_get rows k ≡ Some row)

-- the local state doesn't contradict g at a column, where the root's nodes have these places in g
abbrev pub AgreesAt : List Node → Family → List ℕ → ℕ → Local → Type 0
AgreesAt g family place c l = Nth (shape_of family).columns c (λ s. Nth place s.node (λ n. LocalAgrees g n s.site l))

-- the row of a number is there, and its local state at a column doesn't contradict g
abbrev pub AgreesThere : List Row → List Node → Family → List ℕ → ℕ → ℕ → Type 0
AgreesThere rows g family place c k = (row : Row) × (l : Local) × (slice_get rows k ≡ Some row) × (slice_get (locals_of row) c ≡ Some l) × AgreesAt g family place c l

-- the lesser of two numbers, either of which may be missing
abbrev pub lesser : Option ℕ → Option ℕ → Option ℕ
lesser None b = b
lesser (Some j) None = Some j
lesser (Some j) (Some k) = Some (min j k)

-- ---- what a column's lists tell

-- the local state is the one of a number that has a list
abbrev pub IsKey : ColumnView → ℕ → Local → Type 0
IsKey v i l = option_map (λ e. e.0) (slice_get v.lists i) ≡ Some l

-- the local state of a number that has a list doesn't contradict g at a column
abbrev pub AgreesHere : ColumnView → ℕ → List Node → Family → List ℕ → ℕ → Local → Type 0
AgreesHere v i g family place c l = IsKey v i l × AgreesAt g family place c l

-- this is that local state, none where there is none or it contradicts g
abbrev pub IsHere : ColumnView → List Node → Family → List ℕ → ℕ → ℕ → Option Local → Type 0
IsHere v g family place c i None = (l : Local) → ¬ AgreesHere v i g family place c l
IsHere v g family place c i (Some l) = AgreesHere v i g family place c l

-- a row's number stands in the list of such a local state
abbrev pub ListedHere : ColumnView → ℕ → List Node → Family → List ℕ → ℕ → ℕ → Type 0
ListedHere v i g family place c k = (l : Local) × AgreesHere v i g family place c l × Has (post v l) k

abbrev pub Listed : ColumnView → List Node → Family → List ℕ → ℕ → ℕ → Type 0
Listed v g family place c k = (l : Local) × AgreesAt g family place c l × Has (post v l) k

-- no local state with a row but this one agrees with g at a column
pub record IsOnlyLocal (v : ColumnView) (g : List Node) (family : Family) (place : List ℕ) (c : ℕ) (l : Local) : Type 0 where
  pub agrees : AgreesAt g family place c l
  pub only : (m : Local) (k : ℕ) → AgreesAt g family place c m → Has (post v m) k → m ≡ l

-- ---- families by type

-- the list of a type, without numbers where there is none
abbrev pub listed_at : List (List ℕ) → ℕ → List ℕ
listed_at lists a = unwrap_or (slice_get lists a) []

abbrev pub listed_in : List (Vec ℕ Global) → ℕ → List ℕ
listed_in lists a = listed_at (map (λ list. list.items) lists) a

-- the first node of the root of the table's family has the type
abbrev pub is_rooted : ℕ → Table → Bool
is_rooted a t = option_map_or (λ b. nat_eq b a) (slice_get (family_types t.family) 0) false

-- each list has, ascending, the numbers of the families whose root begins with its type
abbrev pub AreRoots : List Table → List (List ℕ) → Type 0
AreRoots tables lists = (a : ℕ) → listed_at lists a ≡ numbers (is_rooted a) 0 tables
