-- Tables that have all rows of others have as many at least.
use Rattle.std.proofs.Common.{◌≡◌, ℕ, zero, suc, ◌+◌, ◌≤◌, List, [], ◌∷◌, length, arith}
use Rattle.std.proofs.lemmas.List.Sums.{sum_by-cons}
use Rattle.kasa_lists.proofs.Different.{length-within}
use Rattle.kasa_families.specs.Table.{Table, rows_of}
use Rattle.kasa_tables.specs.Insert.{row_count}
use Rattle.kasa_fixpoint.specs.Growing.{HaveDifferentRows, HaveRowsOf}

-- ---- rows of tables

row_count-cons : (t : Table) (tables : List Table) → row_count (t ∷ tables) ≡ length t.rows + row_count tables
row_count-cons t tables = sum_by-cons (λ (t : Table). length t.rows) t tables

-- all rows of tables are as many at least as those of one family
pub length-rows_of : (tables : List Table) (f : ℕ) → length (rows_of tables f) ≤ row_count tables
unfolding rows_of
length-rows_of [] f = omega arith
length-rows_of (t ∷ tables) zero = let e = row_count-cons t tables in omega arith
length-rows_of (t ∷ tables) (suc f) = let rest = length-rows_of tables f in let e = row_count-cons t tables in omega arith

pub row_count-within : (first second : List Table) → HaveDifferentRows first → HaveRowsOf first second → row_count first ≤ row_count second
unfolding rows_of
row_count-within [] second different have = omega arith
row_count-within (t ∷ first) [] different have =
    let here = length-within t.rows [] (different 0) (have 0) in
    let rest = row_count-within first [] (λ k. different (suc k)) (λ k. have (suc k)) in
    let e = row_count-cons t first in
    omega arith
row_count-within (t ∷ first) (u ∷ second) different have =
    let here = length-within t.rows u.rows (different 0) (have 0) in
    let rest = row_count-within first second (λ k. different (suc k)) (λ k. have (suc k)) in
    let e = row_count-cons t first in
    let d = row_count-cons u second in
    omega arith
