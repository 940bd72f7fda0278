-- The line whose first words a head has, once the others have come.
use Rattle.std.specs.Prelude.{ℕ, List, [], ◌∷◌, ◌++◌, Bool, ◌&&◌, Option, Some, None, if◌then◌else◌, nat_lt, length, option_map, option_and_then}
use Rattle.kasa_families.specs.declared.row.LocalLink.{LocalLink}
use Rattle.kasa_families.specs.declared.row.Local.{Local}
use Rattle.kasa_families.specs.declared.row.Row.TheVariants.{Locals, Same, Different}
use Rattle.kasa_families.specs.declared.family.Family.TheVariants.{View}
use Rattle.kasa_tabfile.specs.Line.{is_small, is_small_local, fitting, numbers, groups, only, view, across_of, parallel_of, chain_of, row, version_of, header, line_of}
use Rattle.kasa_tabfile.specs.declared.line.Line.{Line}
use Rattle.kasa_tabfile.specs.declared.line.Line.TheVariants as line
use Rattle.kasa_tabfile.specs.declared.head.Bonds.{Bonds}
use Rattle.kasa_tabfile.specs.declared.head.Bonds.TheVariants as bonds
use Rattle.kasa_tabfile.specs.declared.head.Head.{Head}
use Rattle.kasa_tabfile.specs.declared.head.Head.TheVariants as head

-- x, if it passes the test
abbrev pub passing : {A : Type 0} → (A → Bool) → A → Option A
passing test x = if test x then Some x else None

-- the local state of these, if both are there
abbrev pub both : Option (Option ℕ) → Option LocalLink → Option Local
both (Some s) (Some l) = Some (record { state = s; link = l })
both _ _ = None

-- a list of at most sixteen that pass the test, with one more
abbrev pub one_more : {A : Type 0} → (A → Bool) → Option (List A) → A → Option (List A)
one_more test None x = None
one_more test (Some xs) x = if nat_lt (length xs) 16 && test x then Some (xs ++ x ∷ []) else None

-- such a list, with others
abbrev pub with_more : {A : Type 0} → (A → Bool) → Option (List A) → List A → Option (List A)
with_more test None more = None
with_more test (Some xs) more = fitting test (xs ++ more)

abbrev pub bonds_of : Bonds → List ℕ → Option Line
bonds_of bonds.Across ns = across_of ns
bonds_of bonds.Parallel ns = parallel_of ns
bonds_of bonds.Chain ns = chain_of ns

-- the lines of a view and of a row, if these are its sites and its local states
abbrev pub view_with : ℕ → Option (List ℕ) → Line
view_with a sites = line.Family (option_map (λ s. View a s) sites)

abbrev pub locals_with : Option (List Local) → Line
locals_with locals = line.Row (option_map (λ ls. Locals ls) locals)

abbrev pub complete : Head → List (List ℕ) → Option Line
complete head.Nothing ws = line_of ws
complete head.Kasa ws = header ws
complete head.Tables ws = version_of ws
complete (head.Header v) ws = only (line.Header v) ws
complete head.ViewWord ws = view ws
complete (head.View a sites) ws = option_map (λ ns. view_with a (with_more is_small sites ns)) (numbers ws)
complete (head.Bonds k before) ws = option_and_then (λ ns. bonds_of k (before.items ++ ns)) (numbers ws)
complete head.RowWord ws = row ws
complete (head.Locals locals) ws = option_map (λ gs. locals_with (with_more is_small_local locals gs)) (groups ws)
complete head.Same ws = only (line.Row (Some Same)) ws
complete head.Different ws = only (line.Row (Some Different)) ws
complete head.End ws = only line.End ws
complete head.Bad ws = None
