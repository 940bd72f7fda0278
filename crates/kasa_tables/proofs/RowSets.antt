-- Sets of rows: which rows are among them, and what a new one comes to.
use Rattle.std.proofs.Common.{◌≡◌, ℕ, zero, suc, Bool, true, false, List, [], ◌∷◌, ◌++◌, refl, sym, ap, Some, ◌↔◌, ◌∙◌, get_or, position}
use Rattle.std.proofs.lemmas.List.Quantifiers.{position-Some}
use Rattle.std.proofs.lemmas.Option.{slice_get-get_or}
use Rattle.std.specs.Prelude.{slice_get, IsTrue}
use Rattle.std.specs.List.{list_any}
use Rattle.indexmap.specs.IndexSet.{insert_key}
use Rattle.kasa_graph.specs.Lists.{Has}
use Rattle.kasa_families.specs.declared.row.Row.{Row}
use Rattle.kasa_families.specs.contracts.row.RowPartialEq.TheImpl as rows
use Rattle.kasa_families.proofs.SameValue.{same_row}

-- the row is among them just where the test says so
pub has_any : (found : List Row) (row : Row) → list_any ((rows.ghosts).eq row) found ≡ true → Has found row
has_any [] row is = absurd cc
has_any (x ∷ found) row is = by ((rows.ghosts).eq row x) refl (has_any found row)
  where
    by : (b : Bool) → b ≡ (rows.ghosts).eq row x → (list_any ((rows.ghosts).eq row) found ≡ true → Has found row) → Has (x ∷ found) row
    by true e later = (0, ap Some (sym ((same_row row x).0 (sym e))))
    by false e later = let rest = later (rw (← e) at is) in (suc rest.0, rest.1)

pub none_any : (found : List Row) (row : Row) → list_any ((rows.ghosts).eq row) found ≡ false → ¬ Has found row
none_any [] row isnt h = let e = h.1 in cc
none_any (x ∷ found) row isnt (zero, at) = let e : x ≡ row = cc in let same = (same_row row x).1 (sym e) in let f : true ≡ false = rw same at isnt in cc
none_any (x ∷ found) row isnt (suc k, at) = by ((rows.ghosts).eq row x) refl (λ none. none_any found row none (k, at))
  where
    by : (b : Bool) → b ≡ (rows.ghosts).eq row x → (list_any ((rows.ghosts).eq row) found ≡ false → ⊥) → ⊥
    by true e later = let f : true ≡ false = rw (← e) at isnt in cc
    by false e later = later (rw (← e) at isnt)

pub is_among : (found : List Row) (row : Row) → IsTrue (list_any ((rows.ghosts).eq row) found) ↔ Has found row
is_among found row = by (list_any ((rows.ghosts).eq row) found) refl
  where
    by : (b : Bool) → b ≡ list_any ((rows.ghosts).eq row) found → IsTrue b ↔ Has found row
    by true e = (λ _. has_any found row (sym e), λ _. refl)
    by false e = (λ yes. absurd cc, λ has. absurd (none_any found row (sym e) has))

pub insert_new : (found : List Row) (row : Row) → ¬ Has found row → insert_key (rows.ghosts).eq found row ≡ found ++ row ∷ []
insert_new found row new = by (list_any ((rows.ghosts).eq row) found) refl
  where
    by : (b : Bool) → b ≡ list_any ((rows.ghosts).eq row) found → insert_key (rows.ghosts).eq found row ≡ found ++ row ∷ []
    by true e = absurd (new (has_any found row (sym e)))
    by false e = rw (← e) refl

-- the row is at its place among them
pub at_position : (found : List Row) (row : Row) (k : ℕ) → position ((rows.ghosts).eq row) found ≡ Some k → slice_get found k ≡ Some row
at_position found row k is =
    let p = position-Some ((rows.ghosts).eq row) found k row is in
    slice_get-get_or found k row p.0 ∙ ap Some (sym ((same_row row (get_or found k row)).0 p.1))
