-- A text has an outcome.
use Rattle.std.proofs.Common.{◌≡◌, ◌≢◌, ◌<◌, ◌≤◌, ◌+◌, ◌⊎◌, inl, inr, ℕ, zero, suc, List, [], ◌∷◌, Bool, true, false, refl, sym, Some, None, Option, Result, length, arith, nat_lt, nat_le}
use Rattle.std.specs.Prelude.{⊤, slice_get}
use Rattle.std.specs.Bool.{Decides}
use Rattle.std.specs.List.{AllByRecursion}
use Rattle.std.proofs.lemmas.Bool.Decides.{nat_tests}
use Rattle.kasa_lists.specs.Lists.{Has}
use Rattle.kasa_lists.proofs.Having.{Has-[], Has-later, Has-cons}
use Rattle.kasa_lists.proofs.Every.{AllByRecursion-of, AllByRecursion-at}
use Rattle.kasa_lists.proofs.Numbers.{same_or_not}
use Rattle.kasa_graph.specs.Signature.{TypeEntry, HasSite, state_counts}
use Rattle.kasa_families.specs.declared.row.LocalLink.{LocalLink}
use Rattle.kasa_families.specs.declared.row.LocalLink.TheVariants.{Free, Partner}
use Rattle.kasa_families.specs.declared.row.Local.{Local}
use Rattle.kasa_families.specs.declared.row.Row.{Row}
use Rattle.kasa_families.specs.declared.row.Row.TheVariants.{Locals, Same, Different}
use Rattle.kasa_families.specs.declared.family.Family.{Family}
use Rattle.kasa_families.specs.declared.family.Family.TheVariants.{View, Across, Parallel, Chain}
use Rattle.kasa_families.specs.declared.shape.NodeSite.{NodeSite}
use Rattle.kasa_families.specs.Local.{IsLocalState, IsLocalLink, IsLocal}
use Rattle.kasa_families.specs.Shape.{Nth, AreColumns}
use Rattle.kasa_families.specs.Family.{Ascends, IsFamily, shape_of}
use Rattle.kasa_families.specs.Row.{IsRow}
use Rattle.kasa_families.specs.Table.{Table, families_of}
use Rattle.kasa_families.proofs.SameValue.{same_family, same_row}
use Rattle.kasa_tables.specs.Insert.{row_count}
use Rattle.kasa_tabfile.specs.declared.line.Line.{Line}
use Rattle.kasa_tabfile.specs.declared.line.Line.TheVariants as line
use Rattle.kasa_tabfile.specs.declared.line.Version.TheVariants.{One, Two}
use Rattle.kasa_tabfile.specs.declared.fault.TabFault.{TabFault}
use Rattle.kasa_tabfile.specs.declared.fault.TabFault.TheVariants.{BadLine, BadFamily, FamilyTwice, TooManyFamilies, BadRow, RowTwice, TooManyRows}
use Rattle.kasa_tabfile.specs.declared.stage.Stage.{Stage}
use Rattle.kasa_tabfile.specs.declared.stage.Stage.TheVariants.{Start, Body, Ended, Failed}
use Rattle.kasa_tabfile.specs.Text.{words}
use Rattle.kasa_tabfile.specs.Line.{line_of}
use Rattle.kasa_tabfile.specs.Outcome.{Unless, Fine, FamilyFault, last, RowAfter, start_fault, FaultIs, next_stage, next_tables, at_end, is_empty, IsOutcome, TablesOf}
use Rattle.kasa_tabfile.proofs.ReadingLemmas.{parts-some}

-- ---- what holds or doesn't

abbrev OrNot : Type 0 → Type 0
OrNot P = P ⊎ (¬ P)

yes : OrNot ⊤
yes = inl tt

no_way : OrNot ⊥
no_way = inr (λ h. h)

opposite : (P : Type 0) → OrNot P → OrNot (¬ P)
opposite P (inl p) = inr (λ n. n p)
opposite P (inr n) = inl n

both : (P Q : Type 0) → OrNot P → OrNot Q → OrNot (P × Q)
both P Q (inl p) (inl q) = inl (p, q)
both P Q (inl p) (inr n) = inr (λ h. n h.1)
both P Q (inr n) q = inr (λ h. n h.0)

along : (P Q : Type 0) → (P → Q) → (Q → P) → OrNot P → OrNot Q
along P Q to from (inl p) = inl (to p)
along P Q to from (inr n) = inr (λ q. n (from q))

-- several that hold or don't
module _ {A B C D : Type 0} where
  four : OrNot A → OrNot B → OrNot C → OrNot D → OrNot (A × B × C × D)
  four a b c d = along (A × (B × (C × D))) (A × B × C × D) (λ h. (h.0, h.1.0, h.1.1.0, h.1.1.1)) (λ h. (h.0, (h.1, (h.2, h.3)))) (both A (B × (C × D)) a (both B (C × D) b (both C D c d)))

module _ {A B C D E F : Type 0} where
  six : OrNot A → OrNot B → OrNot C → OrNot D → OrNot E → OrNot F → OrNot (A × B × C × D × E × F)
  six a b c d e f =
      along ((A × B × C × D) × (E × F)) (A × B × C × D × E × F) (λ h. (h.0.0, h.0.1, h.0.2, h.0.3, h.1.0, h.1.1)) (λ h. ((h.0, h.1, h.2, h.3), (h.4, h.5)))
      (both (A × B × C × D) (E × F) (four a b c d) (both E F e f))

module _ {A B C D E F G : Type 0} where
  seven : OrNot A → OrNot B → OrNot C → OrNot D → OrNot E → OrNot F → OrNot G → OrNot (A × B × C × D × E × F × G)
  seven a b c d e f g =
      along ((A × B × C × D × E × F) × G) (A × B × C × D × E × F × G) (λ h. (h.0.0, h.0.1, h.0.2, h.0.3, h.0.4, h.0.5, h.1)) (λ h. ((h.0, h.1, h.2, h.3, h.4, h.5), h.6))
      (both (A × B × C × D × E × F) G (six a b c d e f) g)

module _ {A B C D E F G H I : Type 0} where
  nine : OrNot A → OrNot B → OrNot C → OrNot D → OrNot E → OrNot F → OrNot G → OrNot H → OrNot I → OrNot (A × B × C × D × E × F × G × H × I)
  nine a b c d e f g h i =
      along ((A × B × C × D × E × F) × (G × (H × I))) (A × B × C × D × E × F × G × H × I) (λ x. (x.0.0, x.0.1, x.0.2, x.0.3, x.0.4, x.0.5, x.1.0, x.1.1.0, x.1.1.1)) (λ x. ((x.0, x.1, x.2, x.3, x.4, x.5), (x.6, (x.7, x.8))))
      (both (A × B × C × D × E × F) (G × (H × I)) (six a b c d e f) (both G (H × I) g (both H I h i)))

by-test : (b : Bool) (P : Type 0) → Decides b P → OrNot P
by-test true P d = inl (d.0 refl)
by-test false P d = inr (λ p. let e = d.1 p in absurd cc)

below : (m n : ℕ) → OrNot (m < n)
below m n = by (nat_lt m n) refl
  where
    by : (b : Bool) → nat_lt m n ≡ b → OrNot (m < n)
    by true e = inl (grind (arith, nat_tests, e))
    by false e = inr (λ h. grind (arith, nat_tests, e, h))

at-most : (m n : ℕ) → OrNot (m ≤ n)
at-most m n = by (nat_le m n) refl
  where
    by : (b : Bool) → nat_le m n ≡ b → OrNot (m ≤ n)
    by true e = inl (grind (arith, nat_tests, e))
    by false e = inr (λ h. grind (arith, nat_tests, e, h))

has : {X : Type 0} (same : (x y : X) → OrNot (x ≡ y)) (xs : List X) (x : X) → OrNot (Has xs x)
has same [] x = inr (λ h. Has-[] x h)
has same (y ∷ xs) x = by (same y x) (has same xs x)
  where
    by : OrNot (y ≡ x) → OrNot (Has xs x) → OrNot (Has (y ∷ xs) x)
    by (inl e) h = inl (0, let is : Some y ≡ Some x = cc in is)
    by (inr n) (inl h) = inl (Has-later y xs x h)
    by (inr n) (inr m) = inr (λ h. elim (Has-cons y xs x h) [ inl e ↦ n (sym e) | inr more ↦ m more ])

-- ---- families

every : (P : ℕ → Type 0) (one : (n : ℕ) → OrNot (P n)) (xs : List ℕ) → OrNot (AllByRecursion P xs)
every P one [] = yes
every P one (x ∷ xs) = both (P x) (AllByRecursion P xs) (one x) (every P one xs)

ascends : (xs : List ℕ) → OrNot (Ascends xs)
ascends [] = yes
ascends (x ∷ []) = yes
ascends (x ∷ y ∷ xs) = both (x < y) (Ascends (y ∷ xs)) (below x y) (ascends (y ∷ xs))

differ : (x y : ℕ) → OrNot (x ≢ y)
differ x y = opposite (x ≡ y) (same_or_not x y)

module _ (sig : List TypeEntry) where
  site : (a x : ℕ) → OrNot (HasSite sig a x)
  site a x = below x (length (state_counts sig a))

  sites : (a : ℕ) (xs : List ℕ) → OrNot ((k s : ℕ) → slice_get xs k ≡ Some s → HasSite sig a s)
  sites a xs = along (AllByRecursion (HasSite sig a) xs) ((k s : ℕ) → slice_get xs k ≡ Some s → HasSite sig a s)
      (λ all k s at. AllByRecursion-at (HasSite sig a) xs k s all at) (λ each. AllByRecursion-of (HasSite sig a) xs each) (every (HasSite sig a) (site a) xs)

  family : (f : Family) → OrNot (IsFamily sig f)
  family (View a ss) = four (below a (length sig)) (sites a ss) (ascends ss) (at-most (length ss) 16)
  family (Across a x p b y q) = six (site a x) (site a p) (site b y) (site b q) (differ p x) (differ q y)
  family (Parallel a x u b y w) = seven (site a x) (site a u) (site b y) (site b w) (differ a b) (differ x u) (differ y w)
  family (Chain a x p b y z c w q) = nine (site a x) (site a p) (site b y) (site b z) (site c w) (site c q) (differ p x) (differ y z) (differ q w)

  -- ---- rows

  state : (count u : Option ℕ) → OrNot (IsLocalState count u)
  state None u = no_way
  state (Some zero) None = inl refl
  state (Some zero) (Some u) = inr (λ h. absurd cc)
  state (Some (suc k)) None = inr (λ h. let e = h.1 in absurd cc)
  state (Some (suc k)) (Some u) = along (u < suc k) (IsLocalState (Some (suc k)) (Some u)) (λ low. (u, refl, low)) (λ h. let same : u ≡ h.0 = let e = h.1 in cc in let low : h.0 < suc k = h.2 in omega arith) (below u (suc k))

  link : (l : LocalLink) → OrNot (IsLocalLink sig l)
  link Free = yes
  link (Partner b y) = site b y

  local : (a s : ℕ) (l : Local) → OrNot (IsLocal sig a s l)
  local a s l =
      along (IsLocalState (slice_get (state_counts sig a) s) l.state × IsLocalLink sig l.link) (IsLocal sig a s l) (λ h. record { state = h.0; link = h.1 }) (λ h. (h.state, h.link))
      (both (IsLocalState (slice_get (state_counts sig a) s) l.state) (IsLocalLink sig l.link) (state (slice_get (state_counts sig a) s) l.state) (link l.link))

  at-node : (types : List ℕ) (n s : ℕ) (l : Local) → OrNot (Nth types n (λ a. IsLocal sig a s l))
  at-node [] n s l = no_way
  at-node (a ∷ types) zero s l = local a s l
  at-node (a ∷ types) (suc n) s l = at-node types n s l

  columns : (types : List ℕ) (cs : List NodeSite) (ls : List Local) → OrNot (AreColumns sig types cs ls)
  columns types [] [] = yes
  columns types [] (l ∷ ls) = no_way
  columns types (c ∷ cs) [] = no_way
  columns types (c ∷ cs) (l ∷ ls) = both (Nth types c.node (λ a. IsLocal sig a c.site l)) (AreColumns sig types cs ls) (at-node types c.node c.site l) (columns types cs ls)

  valid : (f : Family) (row : Row) → OrNot (IsRow sig f row)
  valid (Parallel a x u b y w) (Locals ls) = no_way
  valid (Parallel a x u b y w) Same = yes
  valid (Parallel a x u b y w) Different = yes
  valid (View a ss) (Locals ls) = columns (shape_of (View a ss)).types (shape_of (View a ss)).columns ls
  valid (View a ss) Same = no_way
  valid (View a ss) Different = no_way
  valid (Across a x p b y q) (Locals ls) = columns (shape_of (Across a x p b y q)).types (shape_of (Across a x p b y q)).columns ls
  valid (Across a x p b y q) Same = no_way
  valid (Across a x p b y q) Different = no_way
  valid (Chain a x p b y z c w q) (Locals ls) = columns (shape_of (Chain a x p b y z c w q)).types (shape_of (Chain a x p b y z c w q)).columns ls
  valid (Chain a x p b y z c w q) Same = no_way
  valid (Chain a x p b y z c w q) Different = no_way

-- ---- so one fault or none is the line's

same-family : (f g : Family) → OrNot (f ≡ g)
same-family f g = by-test _ (f ≡ g) (same_family f g)

same-row : (r s : Row) → OrNot (r ≡ s)
same-row r s = by-test _ (r ≡ s) (same_row r s)

unless-some : (P : Type 0) (fault : TabFault) (rest : Option TabFault → Type 0) → OrNot P → ((e : Option TabFault) × rest e) → (e : Option TabFault) × Unless P fault rest e
unless-some P fault rest (inl p) some = (some.0, inr (p, some.1))
unless-some P fault rest (inr n) some = (Some fault, inl (n, refl))

fine : (e : Option TabFault) × Fine e
fine = (None, refl)

family-some : (sig : List TypeEntry) (n : ℕ) (ts : List Table) (f : Option Family) → (e : Option TabFault) × FamilyFault sig n ts f e
family-some sig n ts None = (Some (BadFamily n), refl)
family-some sig n ts (Some f) =
    unless-some (IsFamily sig f) (BadFamily n) _ (family sig f)
    (unless-some (¬ Has (families_of ts) f) (FamilyTwice n) _ (opposite (Has (families_of ts) f) (has same-family (families_of ts) f))
    (unless-some (length ts < 8000) (TooManyFamilies n) Fine (below (length ts) 8000) fine))

row-some : (sig : List TypeEntry) (n rows : ℕ) (t : Option Table) (row : Row) → (e : Option TabFault) × RowAfter sig n rows t row e
row-some sig n rows None row = (Some (BadRow n), refl)
row-some sig n rows (Some t) row =
    unless-some (IsRow sig t.family row) (BadRow n) _ (valid sig t.family row)
    (unless-some (¬ Has t.rows row) (RowTwice n) _ (opposite (Has t.rows row) (has same-row t.rows row))
    (unless-some (rows < 200000) (TooManyRows n) Fine (below rows 200000) fine))

fault-some : (sig : List TypeEntry) (n : ℕ) (s : Stage) (ts : List Table) (l : Option Line) → (e : Option TabFault) × FaultIs sig n s ts l e
fault-some sig n Start ts None = (Some (BadLine n), refl)
fault-some sig n Start ts (Some l) = (start_fault n l, refl)
fault-some sig n (Body v) ts None = (Some (BadLine n), refl)
fault-some sig n (Body v) ts (Some (line.Header w)) = (Some (BadLine n), refl)
fault-some sig n (Body v) ts (Some (line.Family f)) = family-some sig n ts f
fault-some sig n (Body One) ts (Some (line.Chain f)) = (Some (BadLine n), refl)
fault-some sig n (Body Two) ts (Some (line.Chain f)) = family-some sig n ts f
fault-some sig n (Body v) ts (Some (line.Row None)) = (Some (BadRow n), refl)
fault-some sig n (Body v) ts (Some (line.Row (Some row))) = row-some sig n (row_count ts) (slice_get ts (last ts)) row
fault-some sig n (Body v) ts (Some line.End) = (None, refl)
fault-some sig n Ended ts l = (Some (BadLine n), refl)
fault-some sig n (Failed f) ts l = (Some f, refl)

outcome-some : (sig : List TypeEntry) (n : ℕ) (s : Stage) (ts : List Table) (l : List ℕ) (ls : List (List ℕ)) → (o : Result (List Table) TabFault) × IsOutcome sig n s ts (l ∷ ls) o
outcome-some sig n s ts l [] = (at_end n s ts (is_empty l), refl)
outcome-some sig n s ts l (m ∷ ls) =
    let said = line_of (words l) in
    let fault = fault-some sig n s ts said in
    let rest = outcome-some sig (n + 1) (next_stage fault.0 s said) (next_tables fault.0 ts said) m ls in
    (rest.0, (fault.0, fault.1, rest.1))

pub some : (sig : List TypeEntry) (text : List ℕ) → (o : Result (List Table) TabFault) × TablesOf sig text o
some sig text = let parts = parts-some 10 [] text in rw parts.2 (outcome-some sig 1 Start [] parts.0 parts.1)
