use Rattle.std.specs.Prelude.{ℕ, List, Option, option_map, Vec, ◌==◌, Contains}
use Rattle.std.specs.Global.{Global}
use Rattle.std.specs.Map.{lookup}
use Rattle.std.specs.Cmp.Lexicographic.{pointwise}
use Rattle.kasa_edge.specs.Causes.{raised}
use Rattle.kasa_edge.specs.declared.shelf_mem.ShelfMem.{ShelfMem}

-- the text under a name
abbrev pub text_at : List (Vec ℕ Global × Vec ℕ Global) → List ℕ → Option (List ℕ)
text_at texts name = option_map (λ v. v.items) (lookup (λ k. pointwise ◌==◌ name k.items) texts)

-- what a shelf in memory holds under a name
abbrev pub text_of : ShelfMem → List ℕ → Option (List ℕ)
text_of shelf name = text_at shelf.texts.entries name

-- how many reads have failed
abbrev pub read_faults_of : ShelfMem → ℕ
read_faults_of shelf = shelf.read_faults

-- how many calls there were, up to 2^64 - 1
abbrev pub calls_of : ShelfMem → ℕ
calls_of shelf = shelf.calls

-- the numbers of the calls that fail
abbrev pub fails_of : ShelfMem → List ℕ
fails_of shelf = shelf.fails.items

-- the next call is one of those that fail
abbrev pub IsFailing : ShelfMem → Type 0
IsFailing shelf = Contains (fails_of shelf) (raised (calls_of shelf))
