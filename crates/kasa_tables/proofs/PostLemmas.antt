-- Laws of the lists of columns.
use Rattle.std.proofs.Common.{◌≡◌, ℕ, Bool, true, false, cond, List, [], ◌∷◌, map, refl, Some, Vec, Global, unwrap_or}
use Rattle.std.specs.Map.{lookup}
use Rattle.kasa_families.specs.declared.row.Local.{Local}
use Rattle.kasa_tables.specs.Post.{list_of, entry_of, local_eq}

-- the lists that a column is seen as are those of its map
pub lists_are : (es : List (Local × Vec ℕ Global)) (q : Local) → unwrap_or (lookup (local_eq q) (map entry_of es)) [] ≡ list_of (lookup (local_eq q) es)
lists_are [] q = refl
lists_are (e ∷ es) q = by (local_eq q e.0) (lists_are es q)
  where
    by : (b : Bool) → unwrap_or (lookup (local_eq q) (map entry_of es)) [] ≡ list_of (lookup (local_eq q) es) →
        unwrap_or (cond b (Some e.1.items) (lookup (local_eq q) (map entry_of es))) [] ≡ list_of (cond b (Some e.1) (lookup (local_eq q) es))
    by true rest = refl
    by false rest = rest
