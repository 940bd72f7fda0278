-- Tables that hold the same have one report.
use Rattle.std.proofs.Common.{◌≡◌, ℕ, suc, ◌+◌, inl, inr, ◌↔◌, List, [], ◌∷◌, length, refl, sym, ap, subst, ◌∙◌, arith}
use Rattle.std.specs.Prelude.{Some, slice_get, ⊤}
use Rattle.std.proofs.lemmas.Option.{slice_get-map}
use Rattle.kasa_lists.specs.Lists.{Has, AllDifferent}
use Rattle.kasa_lists.proofs.Having.{Has-[], Has-cons}
use Rattle.kasa_rules.specs.declared.model.Model.{Model}
use Rattle.kasa_rules.specs.Reached.{IsModel}
use Rattle.kasa_rules.specs.Rule.{RuleParts}
use Rattle.kasa_families.specs.declared.family.Family.{Family}
use Rattle.kasa_families.specs.declared.family.Family.TheVariants.{View, Across, Parallel, Chain}
use Rattle.kasa_families.specs.declared.row.Local.{Local}
use Rattle.kasa_families.specs.declared.row.Row.{Row}
use Rattle.kasa_families.specs.declared.row.Row.TheVariants.{Locals}
use Rattle.kasa_families.specs.Row.{IsRowBelow, AreAscending}
use Rattle.kasa_families.specs.Table.{Table, families_of, AreTables, Holds, IsWithin}
use Rattle.kasa_families.proofs.RowOrder.{IsRowBelow-trans, IsRowBelow-strict}
use Rattle.kasa_polymers.specs.declared.map.Bond.{Bond}
use Rattle.kasa_polymers.specs.declared.map.StateSeen.{StateSeen}
use Rattle.kasa_polymers.specs.declared.map.ContactMap.{ContactMap}
use Rattle.kasa_polymers.specs.Order.{IsBondBelow, IsStateBelow}
use Rattle.kasa_polymers.proofs.OrderLemmas.{not_below_self, below-trans}
use Rattle.kasa_polymers.proofs.Verdicts.{one_verdict}
use Rattle.kasa_report.specs.LemmasText.{IsOrdered, AreShown}
use Rattle.kasa_report.specs.DeadText.{AreDeadLines}
use Rattle.kasa_report.specs.Product.{SomeLocal, IsMixed, IsProductOf, IsProductRows, IsProduct}
use Rattle.kasa_report.specs.Report.{IsContactMap, IsReport}
use Rattle.kasa_report.specs.CheckText.{IsCheckReport}
use Rattle.kasa_report.specs.SampleReport.{IsSampleReport}
use Rattle.kasa_report.specs.Same.{HoldTheSame}
use Rattle.kasa_report.proofs.InOrder.{AreBelow, AreBelow-pairs, ordered_same}
use Rattle.kasa_report.proofs.SameTables.{IsContactBond-within, IsContactState-within, IsDead-within, IsVerdict-same}

-- ---- one contact map

bonds_asym : (p q : Bond) → IsBondBelow p q → IsBondBelow q p → ⊥
bonds_asym p q h k = not_below_self p (below-trans p q p h k)

states_asym : (s t : StateSeen) → IsStateBelow s t → IsStateBelow t s → ⊥
states_asym s t (inl h) (inl k) = omega arith
states_asym s t (inl h) (inr (inl k)) = let e = k.0 in omega arith
states_asym s t (inl h) (inr (inr k)) = let e = k.0 in omega arith
states_asym s t (inr (inl h)) (inl k) = let e = h.0 in omega arith
states_asym s t (inr (inr h)) (inl k) = let e = h.0 in omega arith
states_asym s t (inr (inl h)) (inr (inl k)) = let f = h.1 in let e = k.1 in omega arith
states_asym s t (inr (inl h)) (inr (inr k)) = let f = h.1 in let e = k.1 in omega arith
states_asym s t (inr (inr h)) (inr (inl k)) = let f = h.1 in let e = k.1 in omega arith
states_asym s t (inr (inr h)) (inr (inr k)) = let f = h.2 in let e = k.2 in omega arith

module _ (model : Model) (first second : List Table) (same : HoldTheSame first second) where
  bond : (p : Bond) (m n : ContactMap) → IsContactMap model first m → IsContactMap model second n → Has m.bonds p ↔ Has n.bonds p
  bond p m n is are = (
    λ h. (are.bonds p).1 (IsContactBond-within model first second same.families same.there p ((is.bonds p).0 h)),
    λ h. (is.bonds p).1 (IsContactBond-within model second first (sym same.families) same.back p ((are.bonds p).0 h)),
  )

  state : (q : StateSeen) (m n : ContactMap) → IsContactMap model first m → IsContactMap model second n → Has m.states q ↔ Has n.states q
  state q m n is are = (
    λ h. (are.states q).1 (IsContactState-within model first second same.families same.there q ((is.states q).0 h)),
    λ h. (is.states q).1 (IsContactState-within model second first (sym same.families) same.back q ((are.states q).0 h)),
  )

  one_map : (m n : ContactMap) → IsContactMap model first m → IsContactMap model second n → m ≡ n
  one_map m n is are =
      let bonds : m.bonds ≡ n.bonds = ordered_same IsBondBelow bonds_asym m.bonds n.bonds
      (AreBelow-pairs IsBondBelow bonds_asym m.bonds is.bonds_ascend)
      (AreBelow-pairs IsBondBelow bonds_asym n.bonds are.bonds_ascend)
      (λ p. bond p m n is are) in
      let states : m.states ≡ n.states = ordered_same IsStateBelow states_asym m.states n.states
      (AreBelow-pairs IsStateBelow states_asym m.states is.states_ascend)
      (AreBelow-pairs IsStateBelow states_asym n.states are.states_ascend)
      (λ q. state q m n is are) in
      λ i. record { bonds = bonds i; states = states i }

  -- ---- one list of dead rules

  one_dead : (n : ℕ) (rules : List RuleParts) (a b : List (List ℕ)) → AreDeadLines model.sig first n rules a → AreDeadLines model.sig second n rules b → a ≡ b
  one_dead n [] [] [] p q = refl
  one_dead n [] [] (l ∷ b) p q = absurd q
  one_dead n [] (l ∷ a) b p q = absurd p
  one_dead n (r ∷ rules) [] [] p q = refl
  one_dead n (r ∷ rules) [] (l ∷ b) p (inl q) = absurd (p.0 (IsDead-within model first second same.families same.there r q.0))
  one_dead n (r ∷ rules) [] (l ∷ b) p (inr q) = one_dead (n + 1) rules [] (l ∷ b) p.1 q.1
  one_dead n (r ∷ rules) (l ∷ a) [] (inl p) q = absurd (q.0 (IsDead-within model second first (sym same.families) same.back r p.0))
  one_dead n (r ∷ rules) (l ∷ a) [] (inr p) q = one_dead (n + 1) rules (l ∷ a) [] p.1 q.1
  one_dead n (r ∷ rules) (l ∷ a) (k ∷ b) (inl p) (inl q) = let rest = one_dead (n + 1) rules a b p.2 q.2 in let here = p.1 in let there = q.1 in cc
  one_dead n (r ∷ rules) (l ∷ a) (k ∷ b) (inl p) (inr q) = absurd (q.0 (IsDead-within model second first (sym same.families) same.back r p.0))
  one_dead n (r ∷ rules) (l ∷ a) (k ∷ b) (inr p) (inl q) = absurd (p.0 (IsDead-within model first second same.families same.there r q.0))
  one_dead n (r ∷ rules) (l ∷ a) (k ∷ b) (inr p) (inr q) = one_dead (n + 1) rules (l ∷ a) (k ∷ b) p.1 q.1

-- ---- one list of shown tables

rows_asym : (row next : Row) → IsRowBelow row next → IsRowBelow next row → ⊥
rows_asym row next p q = IsRowBelow-strict row (IsRowBelow-trans row next row p q)

AreBelow-ascending : (rows : List Row) → AreAscending rows → AreBelow IsRowBelow rows_asym rows
AreBelow-ascending [] up = tt
AreBelow-ascending (row ∷ []) up = (λ y h. absurd (Has-[] y h), tt)
AreBelow-ascending (row ∷ next ∷ rows) up = (
  λ y h. elim (Has-cons next rows y h) [
    | inl is ↦ subst (λ z. IsRowBelow row z) (sym is) up.0
    | inr more ↦ IsRowBelow-trans row next y up.0 ((AreBelow-ascending (next ∷ rows) up.1).0 y more)
  ],
  AreBelow-ascending (next ∷ rows) up.1,
)

-- the same family with the same rows
record IsSame (t u : Table) : Type 0 where
  family : t.family ≡ u.family
  rows : (row : Row) → Has t.rows row ↔ Has u.rows row

turned : (t u : Table) → IsSame t u → IsSame u t
turned t u s = record { family = sym s.family; rows = λ row. ((s.rows row).1, (s.rows row).0) }

module _ (rows others : List Row) (same : (row : Row) → Has rows row ↔ Has others row) where
  local_there : (k : ℕ) (P : Local → Type 0) → SomeLocal others k P → SomeLocal rows k P
  local_there k P (locals, has, at) = (locals, (same (Locals locals)).1 has, at)

  IsMixed-same : (columns : ℕ) (locals : List Local) → IsMixed others columns locals → IsMixed rows columns locals
  IsMixed-same columns locals m = record {
    size = m.size;
    states = λ k l at. local_there k _ (m.states k l at);
    links = λ k l at. local_there k _ (m.links k l at);
  }

  product_of : (columns : ℕ) → IsProductOf columns rows → IsProductOf columns others
  product_of columns p = record {
    row = p.row;
    some = (same p.row).0 p.some;
    every = λ locals m. (same (Locals locals)).0 (p.every locals (IsMixed-same columns locals m));
  }

  product_rows : (family : Family) → IsProductRows family rows → IsProductRows family others
  product_rows (View a sites) p = product_of _ p
  product_rows (Across a x p b y q) is = product_of _ is
  product_rows (Parallel a x u b y w) is = ((same _).0 is.0, (same _).0 is.1)
  product_rows (Chain a x p b y z c w q) is = product_of _ is

IsProduct-same : (t u : Table) → IsSame t u → IsProduct t → IsProduct u
IsProduct-same t u s p = subst (λ family. IsProductRows family u.rows) s.family (product_rows t.rows u.rows s.rows t.family p)

abbrev AreSame : List Table → List Table → Type 0
AreSame [] [] = ⊤
AreSame (t ∷ tables) (u ∷ others) = IsSame t u × AreSame tables others
AreSame _ _ = ⊥

one_ordered : (t u o p : Table) → IsSame t u → IsOrdered t o → IsOrdered u p → o ≡ p
one_ordered t u o p s first second =
    let family : o.family ≡ p.family = first.family ∙ s.family ∙ sym second.family in
    let rows : o.rows ≡ p.rows = ordered_same IsRowBelow rows_asym o.rows p.rows (AreBelow-ascending o.rows first.ascend) (AreBelow-ascending p.rows second.ascend)
    (λ row. (
      λ h. (second.rows row).1 ((s.rows row).0 ((first.rows row).0 h)),
      λ h. (first.rows row).1 ((s.rows row).1 ((second.rows row).0 h)),
    )) in
    λ i. record { family = family i; rows = rows i }

one_shown : (tables others shown more : List Table) → AreSame tables others → AreShown tables shown → AreShown others more → shown ≡ more
one_shown [] [] [] [] s p q = refl
one_shown [] [] [] (o ∷ more) s p q = absurd q
one_shown [] [] (o ∷ shown) more s p q = absurd p
one_shown [] (u ∷ others) shown more s p q = absurd s
one_shown (t ∷ tables) [] shown more s p q = absurd s
one_shown (t ∷ tables) (u ∷ others) [] [] s p q = refl
one_shown (t ∷ tables) (u ∷ others) [] (o ∷ more) s p (inl q) = one_shown tables others [] (o ∷ more) s.1 p.1 q.1
one_shown (t ∷ tables) (u ∷ others) [] (o ∷ more) s p (inr q) = absurd (q.0 (IsProduct-same t u s.0 p.0))
one_shown (t ∷ tables) (u ∷ others) (o ∷ shown) [] s (inl p) q = one_shown tables others (o ∷ shown) [] s.1 p.1 q.1
one_shown (t ∷ tables) (u ∷ others) (o ∷ shown) [] s (inr p) q = absurd (p.0 (IsProduct-same u t (turned t u s.0) q.0))
one_shown (t ∷ tables) (u ∷ others) (o ∷ shown) (v ∷ more) s (inl p) (inl q) = one_shown tables others (o ∷ shown) (v ∷ more) s.1 p.1 q.1
one_shown (t ∷ tables) (u ∷ others) (o ∷ shown) (v ∷ more) s (inl p) (inr q) = absurd (q.0 (IsProduct-same t u s.0 p.0))
one_shown (t ∷ tables) (u ∷ others) (o ∷ shown) (v ∷ more) s (inr p) (inl q) = absurd (p.0 (IsProduct-same u t (turned t u s.0) q.0))
one_shown (t ∷ tables) (u ∷ others) (o ∷ shown) (v ∷ more) s (inr p) (inr q) =
    let first = one_ordered t u o v s.0 p.1 q.1 in
    let rest = one_shown tables others shown more s.1 p.2 q.2 in
    cc

-- ---- tables of different families, one by one

module _ (first second : List Table) (there : IsWithin first second) (different : AllDifferent (families_of second)) where
  -- a row of one table stands in the other's at its number
  row_there : (i : ℕ) (t u : Table) → slice_get first i ≡ Some t → slice_get second i ≡ Some u → t.family ≡ u.family → (row : Row) → Has t.rows row → Has u.rows row
  row_there i t u at to e row h =
      let held : Holds second t.family row = there t.family row (record { table = t; among = (i, at); of_family = refl; has_row = h }) in
      let j = held.among.0 in
      let far : slice_get (families_of second) j ≡ Some u.family = slice_get-map (λ (x : Table). x.family) second j ∙ rw held.among.1 (ap Some (held.of_family ∙ e)) in
      let here : slice_get (families_of second) i ≡ Some u.family = slice_get-map (λ (x : Table). x.family) second i ∙ rw to refl in
      let one : j ≡ i = different j i u.family far here in
      let table : held.table ≡ u = (let at_i : slice_get second i ≡ Some held.table = subst (λ (k : ℕ). slice_get second k ≡ Some held.table) one held.among.1 in cc) in
      subst (λ (x : Table). Has x.rows row) table held.has_row

AreSame-numbered : (tables others : List Table) → length tables ≡ length others → ((i : ℕ) (t u : Table) → slice_get tables i ≡ Some t → slice_get others i ≡ Some u → IsSame t u) → AreSame tables others
AreSame-numbered [] [] e same = tt
AreSame-numbered [] (u ∷ others) e same = absurd (omega arith)
AreSame-numbered (t ∷ tables) [] e same = absurd (omega arith)
AreSame-numbered (t ∷ tables) (u ∷ others) e same = (same 0 t u refl refl, AreSame-numbered tables others (omega arith) (λ i. same (suc i)))

module _ (first second : List Table) (same : HoldTheSame first second) (different : AllDifferent (families_of first)) where
  one_by_one : AreSame first second
  one_by_one = AreSame-numbered first second (sym (sym (length_of second) ∙ ap length same.families ∙ length_of first)) (λ i t u at to. let family = family_at i t u at to in record {
    family = family;
    rows = λ row. (
      row_there first second same.there (subst AllDifferent (sym same.families) different) i t u at to family row,
      row_there second first same.back different i u t to at (sym family) row,
    );
  })
    where
      length_of : (tables : List Table) → length (families_of tables) ≡ length tables
      length_of [] = refl
      length_of (t ∷ tables) = let rest = length_of tables in omega arith

      family_at : (i : ℕ) (t u : Table) → slice_get first i ≡ Some t → slice_get second i ≡ Some u → t.family ≡ u.family
      family_at i t u at to =
          let here : slice_get (families_of first) i ≡ Some t.family = slice_get-map (λ (x : Table). x.family) first i ∙ rw at refl in
          let far : slice_get (families_of second) i ≡ Some u.family = slice_get-map (λ (x : Table). x.family) second i ∙ rw to refl in
          let both : slice_get (families_of second) i ≡ slice_get (families_of first) i = ap (λ (xs : List Family). slice_get xs i) same.families in
          cc

-- ---- one report

pub one_report : (model : Model) (tables others : List Table) (a b : List ℕ) → IsModel model → AreTables model.sig tables → HoldTheSame tables others → IsReport model tables a → IsReport model others b → a ≡ b
one_report model tables others a b valid ok same p q =
    let map = one_map model tables others same p.map q.map p.is_map q.is_map in
    let shown = one_shown tables others p.shown q.shown (one_by_one tables others same ok.different) p.are_shown q.are_shown in
    let dead = one_dead model tables others same 1 model.rules p.dead q.dead p.are_dead q.are_dead in
    let verdict = one_verdict model others valid p.verdict q.verdict (IsVerdict-same model tables others same.families same.there same.back p.verdict p.is_verdict) q.is_verdict in
    p.printed ∙ rw (map, shown, dead, verdict) (sym q.printed)

-- ---- one report on closed tables, and one on the sample model

pub one_check_report : (model : Model) (tables others : List Table) (a b : List ℕ) → AreTables model.sig tables → HoldTheSame tables others → IsCheckReport model tables a → IsCheckReport model others b → a ≡ b
one_check_report model tables others a b ok same p q =
    let shown = one_shown tables others p.shown q.shown (one_by_one tables others same ok.different) p.are_shown q.are_shown in
    let dead = one_dead model tables others same 1 model.rules p.dead q.dead p.are_dead q.are_dead in
    p.printed ∙ rw (shown, dead) (sym q.printed)

holds_itself : (tables : List Table) → HoldTheSame tables tables
holds_itself tables = record { families = refl; there = λ family row held. held; back = λ family row held. held }

pub one_sample_report : (size : ℕ) (model : Model) (tables : List Table) (a b : List ℕ) → IsModel model → IsSampleReport size model tables a → IsSampleReport size model tables b → a ≡ b
one_sample_report size model tables a b valid p q =
    let dead = one_dead model tables tables (holds_itself tables) 1 model.rules p.dead q.dead p.are_dead q.are_dead in
    let verdict = one_verdict model tables valid p.verdict q.verdict p.is_verdict q.is_verdict in
    p.printed ∙ rw (dead, verdict) (sym q.printed)
