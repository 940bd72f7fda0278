-- The text of tables is read back.
use Rattle.std.proofs.Common.{◌≡◌, ◌∙◌, ◌<◌, ◌≤◌, ◌+◌, inr, ℕ, zero, suc, List, [], ◌∷◌, ◌++◌, length, length-append, refl, sym, ap, subst, arith, Some, None, Result, Ok, codes, append_assoc}
use Rattle.std.specs.Prelude.{slice_get}
use Rattle.std.specs.List.{AllByRecursion, flat_map}
use Rattle.std.proofs.lemmas.List.{append-nil, map-append}
use Rattle.std.proofs.lemmas.List.Sums.{sum_by-cons, sum_by-append}
use Rattle.std.proofs.lemmas.Option.{slice_get_within}
use Rattle.kasa_lists.specs.Lists.{Has, AllDifferent, update}
use Rattle.kasa_lists.proofs.Elements.{slice_get-append_left, slice_get-append_right, slice_get-last}
use Rattle.kasa_lists.proofs.Having.{Has-head, Has-later}
use Rattle.kasa_graph.specs.Signature.{TypeEntry, IsSignature}
use Rattle.kasa_families.specs.declared.family.Family.{Family}
use Rattle.kasa_families.specs.declared.family.Family.TheVariants.{View, Across, Parallel, Chain}
use Rattle.kasa_families.specs.declared.row.Row.{Row}
use Rattle.kasa_families.specs.Family.{IsFamily}
use Rattle.kasa_families.specs.Row.{IsRow}
use Rattle.kasa_families.specs.Table.{Table, families_of}
use Rattle.kasa_tables.specs.Insert.{with_last, with_row, row_count}
use Rattle.kasa_tabfile.specs.declared.fault.TabFault.{TabFault}
use Rattle.kasa_tabfile.specs.declared.line.Line.{Line}
use Rattle.kasa_tabfile.specs.declared.line.Line.TheVariants as line
use Rattle.kasa_tabfile.specs.declared.line.Version.TheVariants.{Two}
use Rattle.kasa_tabfile.specs.declared.stage.Stage.{Stage}
use Rattle.kasa_tabfile.specs.declared.stage.Stage.TheVariants.{Start, Body}
use Rattle.kasa_tabfile.specs.Text.{lines}
use Rattle.kasa_tabfile.specs.Outcome.{FamilyFault, last, FaultIs, stage_after, tables_after, IsOutcome, TablesOf}
use Rattle.kasa_tabfile.specs.TablesText.{family_line, row_line, ended, row_text, table_text, tables_text}
use Rattle.kasa_tabfile.proofs.LineTexts.{parts-at, Reads, said, family-reads, row-reads}
use Rattle.kasa_tabfile.proofs.ReadingLemmas.{parts-some}

-- a line without fault at the front
step : (sig : List TypeEntry) (n : ℕ) (s : Stage) (ts : List Table) (x y : List ℕ) (l : Line) (o : Result (List Table) TabFault) → Reads x l → FaultIs sig n s ts (Some l) None →
    IsOutcome sig (n + 1) (stage_after s (Some l)) (tables_after ts (Some l)) (lines y) o → IsOutcome sig n s ts (lines (x ++ 10 ∷ y)) o
step sig n s ts x y l o reads none h =
    let at : List (List ℕ) → Type 0 = λ ls. IsOutcome sig n s ts ls o in
    let some = parts-some 10 [] y in
    subst at (sym (parts-at 10 [] x y reads.whole)) (rw some.2 (go some.0 some.1 (rw some.2 at h)))
  where
    go : (m : List ℕ) (ms : List (List ℕ)) → IsOutcome sig (n + 1) (stage_after s (Some l)) (tables_after ts (Some l)) (m ∷ ms) o → IsOutcome sig n s ts (x ∷ m ∷ ms) o
    go m ms g = rw reads.line (None, none, g)

-- a line's text, and what follows
front : (x f rest : List ℕ) → (ended x ++ f) ++ rest ≡ x ++ 10 ∷ (f ++ rest)
front x f rest = append_assoc (ended x) f rest ∙ append_assoc x (codes "\n") (f ++ rest)

-- ---- lists with an element in the middle

not-before : {X : Type 0} (xs : List X) (y : X) (ys : List X) → AllDifferent (xs ++ y ∷ ys) → ¬ Has xs y
not-before xs y ys differ (k, at) =
    let within : k < length xs = slice_get_within xs k y at in
    let same : k ≡ length xs = differ k (length xs) y (slice_get-append_left xs (y ∷ ys) k within ∙ at) (slice_get-append_right xs (y ∷ ys) 0 (length xs) (omega arith)) in
    absurd (omega arith)

update-last : {X : Type 0} (xs : List X) (x : X) (n : ℕ) (f : X → X) → n ≡ length xs → update (xs ++ x ∷ []) n f ≡ xs ++ f x ∷ []
update-last [] x zero f e = refl
update-last [] x (suc n) f e = absurd (omega arith)
update-last (y ∷ xs) x zero f e = absurd (omega arith)
update-last (y ∷ xs) x (suc n) f e = ap (λ zs. y ∷ zs) (update-last xs x n f (omega arith))

last-is : (ts : List Table) (t : Table) → last (ts ++ t ∷ []) ≡ length ts
last-is ts t = let e = length-append ts (t ∷ []) in omega arith

-- ---- tables with a family and its rows at the end

abbrev held : Family → List Row → Table
held f rows = record { family = f; rows = rows }

rows-held : (done : List Table) (f : Family) (rows : List Row) → row_count (done ++ held f rows ∷ []) ≡ row_count done + length rows
rows-held done f rows =
    let e = sum_by-append (λ (t : Table). length t.rows) done (held f rows ∷ []) in
    let one = sum_by-cons (λ (t : Table). length t.rows) (held f rows) [] in
    omega arith

row-added : (done : List Table) (f : Family) (rows : List Row) (row : Row) →
    with_row (done ++ held f rows ∷ []) (last (done ++ held f rows ∷ [])) row ≡ done ++ held f (rows ++ row ∷ []) ∷ []
row-added done f rows row = update-last done (held f rows) (last (done ++ held f rows ∷ [])) (with_last row) (last-is done (held f rows))

rows-read : (sig : List TypeEntry) (n : ℕ) (done : List Table) (f : Family) (have rows : List Row) (rest : List ℕ) (o : Result (List Table) TabFault) →
    IsSignature sig → IsFamily sig f → ((row : Row) → Has rows row → IsRow sig f row) → AllDifferent (have ++ rows) → row_count done + length have + length rows ≤ 200000 →
    ((m : ℕ) → IsOutcome sig m (Body Two) (done ++ held f (have ++ rows) ∷ []) (lines rest) o) →
    IsOutcome sig n (Body Two) (done ++ held f have ∷ []) (lines (flat_map row_text rows ++ rest)) o
rows-read sig n done f have [] rest o is family each differ few more = rw (append-nil have) at (more n)
rows-read sig n done f have (r ∷ rows) rest o is family each differ few more =
    let ts : List Table = done ++ held f have ∷ [] in
    let valid = each r (Has-head r rows) in
    let room : row_count ts < 200000 = rw (rows-held done f have) (omega arith) in
    let there : slice_get ts (last ts) ≡ Some (held f have) = slice_get-last done (held f have) (last ts) (last-is done (held f have)) in
    let none : FaultIs sig n (Body Two) ts (Some (line.Row (Some r))) None = rw there (inr (valid, inr (not-before have r rows differ, inr (room, refl)))) in
    let regroup : (have ++ r ∷ []) ++ rows ≡ have ++ r ∷ rows = append_assoc have (r ∷ []) rows in
    let at : List Row → Type 0 = λ rs. AllDifferent rs in
    let at-end : List Row → Type 0 = λ rs. (m : ℕ) → IsOutcome sig m (Body Two) (done ++ held f rs ∷ []) (lines rest) o in
    let of-text : List ℕ → Type 0 = λ text. IsOutcome sig n (Body Two) ts (lines text) o in
    let of-tables : List Table → Type 0 = λ us. IsOutcome sig (n + 1) (Body Two) us (lines (flat_map row_text rows ++ rest)) o in
    subst of-text (sym (front (row_line r) (flat_map row_text rows) rest))
    (step sig n (Body Two) ts (row_line r) (flat_map row_text rows ++ rest) (line.Row (Some r)) o (row-reads sig f r is family valid) none
    (subst of-tables (sym (row-added done f have r))
    (rows-read sig (n + 1) done f (have ++ r ∷ []) rows rest o is family (λ row h. each row (Has-later r rows row h)) (subst at (sym regroup) differ) (rw length-append (omega arith)) (subst at-end (sym regroup) more))))

-- ---- tables

-- a valid family with different valid rows
pub record IsGood (sig : List TypeEntry) (t : Table) : Type 0 where
  pub family : IsFamily sig t.family
  pub rows : (row : Row) → Has t.rows row → IsRow sig t.family row
  pub differ : AllDifferent t.rows

said-fine : (sig : List TypeEntry) (n : ℕ) (ts : List Table) (f : Family) → FamilyFault sig n ts (Some f) None → FaultIs sig n (Body Two) ts (Some (said f)) None
said-fine sig n ts (View a sites) h = h
said-fine sig n ts (Across a x p b y q) h = h
said-fine sig n ts (Parallel a x u b y w) h = h
said-fine sig n ts (Chain a x p b y z c w q) h = h

said-adds : (ts : List Table) (f : Family) → tables_after ts (Some (said f)) ≡ ts ++ held f [] ∷ []
said-adds ts (View a sites) = refl
said-adds ts (Across a x p b y q) = refl
said-adds ts (Parallel a x u b y w) = refl
said-adds ts (Chain a x p b y z c w q) = refl

said-stays : (f : Family) → stage_after (Body Two) (Some (said f)) ≡ Body Two
said-stays (View a sites) = refl
said-stays (Across a x p b y q) = refl
said-stays (Parallel a x u b y w) = refl
said-stays (Chain a x p b y z c w q) = refl

-- a family's line at the front
family-step : (sig : List TypeEntry) (n : ℕ) (ts : List Table) (f : Family) (y : List ℕ) (o : Result (List Table) TabFault) → IsSignature sig → IsFamily sig f → ¬ Has (families_of ts) f → length ts < 8000 →
    IsOutcome sig (n + 1) (Body Two) (ts ++ held f [] ∷ []) (lines y) o → IsOutcome sig n (Body Two) ts (lines (family_line f ++ 10 ∷ y)) o
family-step sig n ts f y o is valid new room h =
    let of : Stage → List Table → Type 0 = λ s us. IsOutcome sig (n + 1) s us (lines y) o in
    step sig n (Body Two) ts (family_line f) y (said f) o (family-reads sig f is valid) (said-fine sig n ts f (inr (valid, inr (new, inr (room, refl)))))
    (rw (said-stays f, said-adds ts f) h)

tables-read : (sig : List TypeEntry) (n : ℕ) (done ts : List Table) (o : Result (List Table) TabFault) → IsSignature sig → AllByRecursion (IsGood sig) ts → AllDifferent (families_of (done ++ ts)) →
    length done + length ts ≤ 8000 → row_count done + row_count ts ≤ 200000 → o ≡ Ok (done ++ ts) → IsOutcome sig n (Body Two) done (lines (flat_map table_text ts ++ codes "end\n")) o
tables-read sig n done [] o is each differ few rows all = (None, refl, all ∙ ap (λ us. Ok us) (append-nil done))
tables-read sig n done (t ∷ ts) o is each differ few rows all =
    let good = each.0 in
    let count = sum_by-cons (λ (u : Table). length u.rows) t ts in
    let apart : AllDifferent (families_of done ++ t.family ∷ families_of ts) = rw (map-append (λ (u : Table). u.family) done (t ∷ ts)) at differ in
    let rest : List ℕ = flat_map table_text ts ++ codes "end\n" in
    let regroup : (done ++ t ∷ []) ++ ts ≡ done ++ t ∷ ts = append_assoc done (t ∷ []) ts in
    let at : List Table → Type 0 = λ us. AllDifferent (families_of us) in
    let of-text : List ℕ → Type 0 = λ text. IsOutcome sig n (Body Two) done (lines text) o in
    let next = λ (m : ℕ). tables-read sig m (done ++ t ∷ []) ts o is each.1 (subst at (sym regroup) differ) (rw length-append (omega arith)) (rw (rows-held done t.family t.rows) (omega arith)) (all ∙ ap (λ us. Ok us) (sym regroup)) in
    subst of-text (sym
    (append_assoc (table_text t) (flat_map table_text ts) (codes "end\n")
    ∙ front (family_line t.family) (flat_map row_text t.rows) rest))
    (family-step sig n done t.family (flat_map row_text t.rows ++ rest) o is good.family (not-before (families_of done) t.family (families_of ts) apart) (omega arith)
    (rows-read sig (n + 1) done t.family [] t.rows rest o is good.family good.rows good.differ (omega arith) next))

header-reads : Reads (codes "kasa tables 2") (line.Header Two)
header-reads = record { line = refl; whole = refl }

pub reads_back : (sig : List TypeEntry) (ts : List Table) → IsSignature sig → AllByRecursion (IsGood sig) ts → AllDifferent (families_of ts) → length ts ≤ 8000 → row_count ts ≤ 200000 → TablesOf sig (tables_text ts) (Ok ts)
reads_back sig ts is each differ few rows =
    step sig 1 Start [] (codes "kasa tables 2") (flat_map table_text ts ++ codes "end\n") (line.Header Two) (Ok ts) header-reads refl
    (tables-read sig 2 [] ts (Ok ts) is each differ (omega arith) (omega arith) refl)
