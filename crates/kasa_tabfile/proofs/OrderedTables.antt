-- Tables with their rows in row order: they are read back from the text, and there is one such text.
use Rattle.std.proofs.Common.{◌≡◌, ◌∙◌, ◌≤◌, ◌⊎◌, inl, inr, ℕ, List, [], ◌∷◌, length, refl, sym, ap, subst, arith, Ok}
use Rattle.std.specs.List.{AllByRecursion}
use Rattle.std.proofs.lemmas.List.Sums.{sum_by-cons}
use Rattle.kasa_lists.specs.Lists.{Has, AllDifferent}
use Rattle.kasa_lists.proofs.Having.{Has-[], Has-head, Has-later, Has-cons}
use Rattle.kasa_lists.proofs.Different.{AllDifferent-[], AllDifferent-cons, length-within}
use Rattle.kasa_lists.proofs.Every.{AllByRecursion-of}
use Rattle.kasa_graph.specs.Signature.{TypeEntry, IsSignature}
use Rattle.kasa_families.specs.declared.row.Row.{Row}
use Rattle.kasa_families.specs.Row.{IsRowBelow, AreAscending}
use Rattle.kasa_families.specs.Table.{Table, AreTables, AreShapedTables, families_of}
use Rattle.kasa_families.proofs.RowOrder.{IsRowBelow-trans, IsRowBelow-strict}
use Rattle.kasa_tables.specs.Insert.{row_count}
use Rattle.kasa_tabfile.specs.Outcome.{TablesOf}
use Rattle.kasa_tabfile.specs.TablesText.{tables_text, IsOrdered, AreOrdered, IsTextOf}
use Rattle.kasa_tabfile.proofs.RoundTrip.{IsGood, reads_back}

-- ---- ascending rows

below-later : (row : Row) (rows : List Row) → AreAscending (row ∷ rows) → (other : Row) → Has rows other → IsRowBelow row other
below-later row [] up other has = absurd (Has-[] other has)
below-later row (next ∷ rows) up other has = elim (Has-cons next rows other has) [
  | inl is ↦ subst (λ r. IsRowBelow row r) (sym is) up.0
  | inr more ↦ IsRowBelow-trans row next other up.0 (below-later next rows up.1 other more)
]

later : (row : Row) (rows : List Row) → AreAscending (row ∷ rows) → AreAscending rows
later row [] up = tt
later row (next ∷ rows) up = up.1

ascending-differ : (rows : List Row) → AreAscending rows → AllDifferent rows
ascending-differ [] up = AllDifferent-[]
ascending-differ (row ∷ rows) up = AllDifferent-cons row rows (λ i at. IsRowBelow-strict row (below-later row rows up row (i, at))) (ascending-differ rows (later row rows up))

-- the rows of one list are among those of the other, behind a first row that both have
tail-within : (row : Row) (rows others : List Row) → AreAscending (row ∷ rows) → ((r : Row) → Has (row ∷ rows) r → Has (row ∷ others) r) → (r : Row) → Has rows r → Has others r
tail-within row rows others up within r has = elim (Has-cons row others r (within r (Has-later row rows r has))) [
  | inl is ↦ absurd (IsRowBelow-strict row (subst (λ s. IsRowBelow row s) is (below-later row rows up r has)))
  | inr more ↦ more
]

-- ascending lists with the same rows are the same
same-rows : (rows others : List Row) → AreAscending rows → AreAscending others → ((row : Row) → Has rows row → Has others row) → ((row : Row) → Has others row → Has rows row) → rows ≡ others
same-rows [] [] up down there back = refl
same-rows [] (o ∷ others) up down there back = absurd (Has-[] o (back o (Has-head o others)))
same-rows (r ∷ rows) [] up down there back = absurd (Has-[] r (there r (Has-head r rows)))
same-rows (r ∷ rows) (o ∷ others) up down there back =
    let first : r ≡ o = heads (Has-cons o others r (there r (Has-head r rows))) (Has-cons r rows o (back o (Has-head o others))) in
    let at : Row → Type 0 = λ s. AreAscending (s ∷ others) in
    let there-at : Row → Type 0 = λ s. (row : Row) → Has (r ∷ rows) row → Has (s ∷ others) row in
    let back-at : Row → Type 0 = λ s. (row : Row) → Has (s ∷ others) row → Has (r ∷ rows) row in
    let same = same-rows rows others (later r rows up) (later o others down)
    (tail-within r rows others up (subst there-at (sym first) there))
    (tail-within r others rows (subst at (sym first) down) (subst back-at (sym first) back)) in
    λ i. first i ∷ same i
  where
    heads : (r ≡ o) ⊎ Has others r → (o ≡ r) ⊎ Has rows o → r ≡ o
    heads (inl e) b = e
    heads (inr h) (inl e) = sym e
    heads (inr h) (inr k) = absurd (IsRowBelow-strict r (IsRowBelow-trans r o r (below-later r rows up o k) (below-later o others down r h)))

-- ---- tables in order

ordered-good : (sig : List TypeEntry) (t o : Table) → IsOrdered t o → IsGood sig t → IsGood sig o
ordered-good sig t o order good = record {
  family = rw order.family good.family;
  rows = λ row has. rw order.family (good.rows row ((order.rows row).0 has));
  differ = ascending-differ o.rows order.ascend;
}

all-good : (sig : List TypeEntry) (tables ordered : List Table) → AreOrdered tables ordered → AllByRecursion (IsGood sig) tables → AllByRecursion (IsGood sig) ordered
all-good sig [] [] are good = tt
all-good sig [] (o ∷ ordered) are good = absurd are
all-good sig (t ∷ tables) [] are good = absurd are
all-good sig (t ∷ tables) (o ∷ ordered) are good = (ordered-good sig t o are.0 good.0, all-good sig tables ordered are.1 good.1)

families-same : (tables ordered : List Table) → AreOrdered tables ordered → families_of ordered ≡ families_of tables
families-same [] [] are = refl
families-same [] (o ∷ ordered) are = absurd are
families-same (t ∷ tables) [] are = absurd are
families-same (t ∷ tables) (o ∷ ordered) are = let rest = families-same tables ordered are.1 in λ i. are.0.family i ∷ rest i

length-same : (tables ordered : List Table) → AreOrdered tables ordered → length ordered ≡ length tables
length-same [] [] are = refl
length-same [] (o ∷ ordered) are = absurd are
length-same (t ∷ tables) [] are = absurd are
length-same (t ∷ tables) (o ∷ ordered) are = let rest = length-same tables ordered are.1 in omega arith

count-within : (tables ordered : List Table) → AreOrdered tables ordered → row_count ordered ≤ row_count tables
count-within [] [] are = omega arith
count-within [] (o ∷ ordered) are = absurd are
count-within (t ∷ tables) [] are = absurd are
count-within (t ∷ tables) (o ∷ ordered) are =
    let rest = count-within tables ordered are.1 in
    let here = length-within o.rows t.rows (ascending-differ o.rows are.0.ascend) (λ row has. (are.0.rows row).0 has) in
    let count = sum_by-cons (λ (u : Table). length u.rows) t tables in
    let other = sum_by-cons (λ (u : Table). length u.rows) o ordered in
    omega arith

pub ordered_read : (sig : List TypeEntry) (tables : List Table) (text : List ℕ) → IsSignature sig → AreTables sig tables → AreShapedTables tables → IsTextOf tables text →
    (read : List Table) × TablesOf sig text (Ok read) × AreOrdered tables read
ordered_read sig tables text is valid shaped (ordered, are, same) =
    let good = all-good sig tables ordered are (AllByRecursion-of (IsGood sig) tables (λ n t at. record { family = valid.families t (n, at); rows = valid.rows t (n, at); differ = valid.rows_differ t (n, at) })) in
    let count = count-within tables ordered are in
    let long = length-same tables ordered are in
    let at : List ℕ → Type 0 = λ bytes. TablesOf sig bytes (Ok ordered) in
    (ordered, subst at (sym same) (reads_back sig ordered is good (rw (families-same tables ordered are) valid.different) (omega (arith, shaped.few)) (omega (arith, shaped.few_rows))), are)

-- ---- one text

one-order : (tables first second : List Table) → AreOrdered tables first → AreOrdered tables second → first ≡ second
one-order [] [] [] a b = refl
one-order [] [] (p ∷ second) a b = absurd b
one-order [] (o ∷ first) second a b = absurd a
one-order (t ∷ tables) [] second a b = absurd a
one-order (t ∷ tables) (o ∷ first) [] a b = absurd b
one-order (t ∷ tables) (o ∷ first) (p ∷ second) a b =
    let family : o.family ≡ p.family = a.0.family ∙ sym b.0.family in
    let rows : o.rows ≡ p.rows = same-rows o.rows p.rows a.0.ascend b.0.ascend (λ row h. (b.0.rows row).1 ((a.0.rows row).0 h)) (λ row h. (a.0.rows row).1 ((b.0.rows row).0 h)) in
    let rest = one-order tables first second a.1 b.1 in
    λ i. (let t : Table = record { family = family i; rows = rows i } in t) ∷ rest i

pub one_text : (tables : List Table) (text other : List ℕ) → IsTextOf tables text → IsTextOf tables other → text ≡ other
one_text tables text other a b = a.2 ∙ ap tables_text (one-order tables a.0 b.0 a.1 b.1) ∙ sym b.2
