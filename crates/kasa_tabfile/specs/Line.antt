-- What a line says, by its words.
use Rattle.std.specs.Prelude.{ℕ, List, [], ◌∷◌, Option, Some, None, Bool, true, ◌&&◌, if◌then◌else◌, nat_le, length, codes, option_map, option_and_then}
use Rattle.std.specs.List.{list_all}
use Rattle.kasa_families.specs.declared.row.LocalLink.{LocalLink}
use Rattle.kasa_families.specs.declared.row.LocalLink.TheVariants.{Free, Partner}
use Rattle.kasa_families.specs.declared.row.Local.{Local}
use Rattle.kasa_families.specs.declared.row.Row.TheVariants.{Locals, Same, Different}
use Rattle.kasa_families.specs.declared.family.Family.{Family}
use Rattle.kasa_families.specs.declared.family.Family.TheVariants.{View, Across, Parallel, Chain}
use Rattle.kasa_tabfile.specs.Word.{is, number, group}
use Rattle.kasa_tabfile.specs.declared.line.Line.{Line}
use Rattle.kasa_tabfile.specs.declared.line.Line.TheVariants as line
use Rattle.kasa_tabfile.specs.declared.line.Version.TheVariants.{One, Two}

-- ---- what no signature has

-- sites of a type, and states of a site, have numbers of one byte
abbrev pub is_small : ℕ → Bool
is_small n = nat_le n 255

abbrev pub is_small_state : Option ℕ → Bool
is_small_state None = true
is_small_state (Some s) = is_small s

abbrev pub is_small_link : LocalLink → Bool
is_small_link Free = true
is_small_link (Partner t y) = is_small y

abbrev pub is_small_local : Local → Bool
is_small_local l = is_small_state l.state && is_small_link l.link

-- a list of at most sixteen, each of which passes the test
abbrev pub fitting : {A : Type 0} → (A → Bool) → List A → Option (List A)
fitting test xs = if nat_le (length xs) 16 && list_all test xs then Some xs else None

-- ---- words

-- all words are numbers
abbrev pub numbers : List (List ℕ) → Option (List ℕ)
numbers [] = Some []
numbers (w ∷ ws) = option_and_then (λ n. option_map (λ ns. n ∷ ns) (numbers ws)) (number w)

-- all words are groups
abbrev pub groups : List (List ℕ) → Option (List Local)
groups [] = Some []
groups (w ∷ ws) = option_and_then (λ g. option_map (λ gs. g ∷ gs) (groups ws)) (group w)

-- no word follows
abbrev pub only : Line → List (List ℕ) → Option Line
only l [] = Some l
only l (w ∷ ws) = None

-- ---- families

-- a type, and any number of sites; no family has more than sixteen
abbrev pub view_of : ℕ → List ℕ → Line
view_of a sites = line.Family (option_map (λ s. View a s) (fitting is_small sites))

abbrev pub view : List (List ℕ) → Option Line
view [] = None
view (w ∷ ws) = option_and_then (λ a. option_map (view_of a) (numbers ws)) (number w)

-- the family, if its sites have numbers that sites may have
abbrev pub over_sites : List ℕ → Family → Option Family
over_sites sites family = if list_all is_small sites then Some family else None

-- six numbers, or nine
abbrev pub across_of : List ℕ → Option Line
across_of (a ∷ x ∷ p ∷ b ∷ y ∷ q ∷ []) = Some (line.Family (over_sites (x ∷ p ∷ y ∷ q ∷ []) (Across a x p b y q)))
across_of _ = None

abbrev pub parallel_of : List ℕ → Option Line
parallel_of (a ∷ x ∷ u ∷ b ∷ y ∷ w ∷ []) = Some (line.Family (over_sites (x ∷ u ∷ y ∷ w ∷ []) (Parallel a x u b y w)))
parallel_of _ = None

abbrev pub chain_of : List ℕ → Option Line
chain_of (a ∷ x ∷ p ∷ b ∷ y ∷ z ∷ c ∷ w ∷ q ∷ []) = Some (line.Chain (over_sites (x ∷ p ∷ y ∷ z ∷ w ∷ q ∷ []) (Chain a x p b y z c w q)))
chain_of _ = None

-- ---- rows

-- any number of local states; no row has more than sixteen
abbrev pub locals_of : List Local → Line
locals_of locals = line.Row (option_map (λ ls. Locals ls) (fitting is_small_local locals))

abbrev pub row : List (List ℕ) → Option Line
row [] = Some (locals_of [])
row (w ∷ ws) =
    if is w (codes "same") then only (line.Row (Some Same)) ws
    else (if is w (codes "different") then only (line.Row (Some Different)) ws
    else option_map locals_of (groups (w ∷ ws)))

-- ---- lines

abbrev pub version_of : List (List ℕ) → Option Line
version_of [] = None
version_of (w ∷ ws) =
    if is w (codes "1") then only (line.Header One) ws
    else (if is w (codes "2") then only (line.Header Two) ws else None)

abbrev pub header : List (List ℕ) → Option Line
header [] = None
header (w ∷ ws) = if is w (codes "tables") then version_of ws else None

-- the line that has these words, `None` where no line has
abbrev pub line_of : List (List ℕ) → Option Line
line_of [] = None
line_of (w ∷ ws) =
    if is w (codes "view") then view ws
    else (if is w (codes "across") then option_and_then across_of (numbers ws)
    else (if is w (codes "parallel") then option_and_then parallel_of (numbers ws)
    else (if is w (codes "chain") then option_and_then chain_of (numbers ws)
    else (if is w (codes "r") then row ws
    else (if is w (codes "kasa") then header ws
    else (if is w (codes "end") then only line.End ws
    else None))))))
