-- Where a row's pattern has a place, only this very row is compatible with its root's place there.
use Rattle.std.proofs.Common.{◌≡◌, ℕ, zero, suc, ◌<◌, List, [], ◌∷◌, refl, sym, ap, ◌∙◌, length, get_or, arith}
use Rattle.std.specs.Prelude.{Option, Some, None, slice_get}
use Rattle.std.proofs.lemmas.Option.{slice_get-get_or}
use Rattle.kasa_graph.specs.declared.pattern.StateTest.{StateTest}
use Rattle.kasa_graph.specs.declared.pattern.StateTest.TheVariants as state
use Rattle.kasa_graph.specs.declared.pattern.LinkTest.{LinkTest}
use Rattle.kasa_graph.specs.declared.pattern.LinkTest.TheVariants.{Free, Partner, To}
use Rattle.kasa_graph.specs.declared.pattern.Node.{Node}
use Rattle.kasa_graph.specs.Signature.{TypeEntry}
use Rattle.kasa_graph.specs.Signature.{state_counts}
use Rattle.kasa_graph.specs.Pattern.{state_test, link_test, StateImplies, StatesAgree, LinksAgree}
use Rattle.kasa_families.specs.declared.family.Family.{Family}
use Rattle.kasa_families.specs.declared.family.Family.TheVariants.{Parallel}
use Rattle.kasa_families.specs.declared.shape.NodeSite.{NodeSite}
use Rattle.std.specs.List.{AllZip}
use Rattle.kasa_families.specs.declared.row.LocalLink.{LocalLink}
use Rattle.kasa_families.specs.declared.row.LocalLink.TheVariants as local
use Rattle.kasa_families.specs.declared.row.Local.{Local}
use Rattle.kasa_families.specs.declared.row.Row.{Row}
use Rattle.kasa_families.specs.declared.row.Row.TheVariants.{Locals, Same, Different}
use Rattle.kasa_families.specs.Local.{IsLocalState, IsLocal, local_state_test, local_link_test}
use Rattle.kasa_families.specs.Shape.{AreColumns, ColumnsAgree}
use Rattle.kasa_families.specs.Family.{IsFamily, shape_of, same, different}
use Rattle.kasa_families.specs.Row.{IsRow}
use Rattle.kasa_families.specs.Pattern.{row_pattern}
use Rattle.kasa_pre.specs.Place.{ImpliesAt, IsPlace}
use Rattle.kasa_pre.specs.Compatible.{LocalAgrees, IsCompatible}
use Rattle.kasa_families.proofs.ColumnLemmas.{nth_of, TestsLocal, types_of-pattern}
use Rattle.kasa_families.proofs.FamilyShape.{IsShape-of, IsShape-same, IsShape-different}
use Rattle.kasa_families.proofs.RowPattern.{length_of, row_types, types_of-row_pattern, TestsBond-root_of, TestsLocals-pattern_of}
use Rattle.kasa_pre.proofs.CoverLemmas.{root_size}
use Rattle.kasa_pre.proofs.RowPlace.{through, places, through-first}

-- ---- one local state at a site

pub same_state : (count : Option ℕ) (a : StateTest) (x y : Option ℕ) → IsLocalState count x → IsLocalState count y → StateImplies a (local_state_test x) → StatesAgree a (local_state_test y) → x ≡ y
same_state None a x y p q implied agree = absurd p
same_state (Some zero) a x y p q implied agree = p ∙ sym q
same_state (Some (suc k)) a None y p q implied agree = absurd (let e = p.1 in cc)
same_state (Some (suc k)) a (Some u) None p q implied agree = absurd (let e = q.1 in cc)
same_state (Some (suc k)) state.Any (Some u) (Some w) p q implied agree = absurd implied
same_state (Some (suc k)) (state.Is v) (Some u) (Some w) p q implied agree = ap Some (sym implied ∙ agree)

pub same_link : (g : List Node) (place : ℕ → Option ℕ) (a : LinkTest) (x y : LocalLink) → ImpliesAt g place a (local_link_test x) → LinksAgree g a (local_link_test y) → x ≡ y
same_link g place a local.Free local.Free p q = refl
same_link g place Free local.Free (local.Partner c z) p q = absurd q
same_link g place a local.Free (local.Partner c z) p q = absurd p
same_link g place (Partner a x) (local.Partner b y) local.Free p q = absurd q
same_link g place (To m t) (local.Partner b y) local.Free p q = absurd q
same_link g place a (local.Partner b y) local.Free p q = absurd p
same_link g place (Partner a x) (local.Partner b y) (local.Partner c z) p q =
    let e : b ≡ c = sym p.0 ∙ q.0 in
    let f : y ≡ z = sym p.1 ∙ q.1 in
    cc
same_link g place (To m t) (local.Partner b y) (local.Partner c z) p q =
    let e : Some b ≡ Some c = sym p.0 ∙ q.0 in
    let f : y ≡ z = sym p.1 ∙ q.1 in
    cc
same_link g place a (local.Partner b y) (local.Partner c z) p q = absurd p

-- g implies a local state at a site
record ImpliesLocal (g : List Node) (place : ℕ → Option ℕ) (n s : ℕ) (l : Local) : Type 0 where
  state : StateImplies (state_test g n s) (local_state_test l.state)
  link : ImpliesAt g place (link_test g n s) (local_link_test l.link)

same_local : (sig : List TypeEntry) (g : List Node) (place : ℕ → Option ℕ) (a n s : ℕ) (l k : Local) → IsLocal sig a s l → IsLocal sig a s k → ImpliesLocal g place n s l → LocalAgrees g n s k → k ≡ l
same_local sig g place a n s l k p q implied agree =
    let state = same_state (slice_get (state_counts sig a) s) (state_test g n s) l.state k.state p.state q.state implied.state agree.state in
    let link = same_link g place (link_test g n s) l.link k.link implied.link agree.link in
    sym (ap (λ (x : Option ℕ). let r : Local = record { state = x; link = l.link } in r) state ∙ ap (λ (x : LocalLink). let r : Local = record { state = k.state; link = x } in r) link)

same_columns : (sig : List TypeEntry) (g : List Node) (qs types place : List ℕ) → ((k n : ℕ) → slice_get place k ≡ Some n → slice_get qs k ≡ Some n) →
    (columns : List NodeSite) (ls ks : List Local) → AreColumns sig types columns ls → AreColumns sig types columns ks → AllZip (λ s l. (n : ℕ) → slice_get qs s.node ≡ Some n → ImpliesLocal g (slice_get qs) n s.site l) columns ls → ColumnsAgree g place columns ks → ks ≡ ls
same_columns sig g qs types place on [] [] [] p q implied agree = refl
same_columns sig g qs types place on [] [] (k ∷ ks) p q implied agree = absurd q
same_columns sig g qs types place on [] (l ∷ ls) ks p q implied agree = absurd p
same_columns sig g qs types place on (s ∷ columns) [] ks p q implied agree = absurd p
same_columns sig g qs types place on (s ∷ columns) (l ∷ ls) [] p q implied agree = absurd q
same_columns sig g qs types place on (s ∷ columns) (l ∷ ls) (k ∷ ks) p q implied agree =
    let a = nth_of types s.node (λ a. IsLocal sig a s.site l) p.0 in
    let b = nth_of types s.node (λ a. IsLocal sig a s.site k) q.0 in
    let type : b.0 ≡ a.0 = let e = a.1 in let f = b.1 in cc in
    let n = nth_of place s.node (λ n. LocalAgrees g n s.site k) agree.0 in
    let first = same_local sig g (slice_get qs) a.0 n.0 s.site l k a.2 (rw type at b.2) (implied.0 n.0 (on s.node n.0 n.1)) n.2 in
    let rest = same_columns sig g qs types place on columns ls ks p.1 q.1 implied.1 agree.1 in
    rw (first, rest) refl

-- ---- a place of a pattern that tests for a local state implies it

place_locals : (v g : List Node) (qs : List ℕ) → IsPlace v g qs → (columns : List NodeSite) (ls : List Local) → AllZip (TestsLocal v) columns ls → AllZip (λ s l. (n : ℕ) → slice_get qs s.node ≡ Some n → ImpliesLocal g (slice_get qs) n s.site l) columns ls
place_locals v g qs at [] [] tests = tt
place_locals v g qs at [] (l ∷ ls) tests = tests
place_locals v g qs at (s ∷ columns) [] tests = tests
place_locals v g qs at (s ∷ columns) (l ∷ ls) tests =
    (λ n e. record { state = rw tests.0.state at (at.states s.node n s.site e); link = rw tests.0.link at (at.links s.node n s.site e) }, place_locals v g qs at columns ls tests.1)

place_bond : (v g : List Node) (qs : List ℕ) (at : IsPlace v g qs) (k n s j t : ℕ) → slice_get qs k ≡ Some n → link_test v k s ≡ To j t → (p : ℕ) × (slice_get qs j ≡ Some p) × (link_test g n s ≡ To p t)
place_bond v g qs at k n s j t e is = rw is at (at.links k n s e)

-- ---- rows

module _ (sig : List TypeEntry) (g : List Node) (qs : List ℕ) where
  same_parallel : (a x u b y w : ℕ) (row row' : Row) (n : ℕ) → IsFamily sig (Parallel a x u b y w) → IsRow sig (Parallel a x u b y w) row → IsRow sig (Parallel a x u b y w) row' → IsPlace (row_pattern sig (Parallel a x u b y w) row) g qs → slice_get qs 0 ≡ Some n → IsCompatible g (Parallel a x u b y w) (n ∷ []) row' → row' ≡ row
  same_parallel a x u b y w Same Same n valid ok ok' at here c = refl
  same_parallel a x u b y w Different Different n valid ok ok' at here c = refl
  same_parallel a x u b y w Same Different n valid ok ok' at here c =
      let bonds = TestsBond-root_of sig (same a x u b y w) (IsShape-same sig a x u b y w valid) in
      let p = place_bond _ g qs at 0 n x 1 y here bonds.0.first in
      let r = place_bond _ g qs at 0 n u 1 w here bonds.1.0.first in
      absurd (c.two p.0 r.0 y w p.2 r.2 (let same : Some p.0 ≡ Some r.0 = sym p.1 ∙ r.1 in cc))
  same_parallel a x u b y w Different Same n valid ok ok' at here c =
      let bonds = TestsBond-root_of sig (different a x u b y w) (IsShape-different sig a x u b y w valid) in
      let p = place_bond _ g qs at 0 n x 1 y here bonds.0.first in
      let r = place_bond _ g qs at 0 n u 2 w here bonds.1.0.first in
      let same : p.0 ≡ r.0 = c.one p.0 r.0 y w p.2 r.2 in
      let number : ◌≡◌ {A = ℕ} 1 2 = at.different 1 2 r.0 (p.1 ∙ ap Some same) r.1 in
      absurd cc
  same_parallel a x u b y w (Locals ls) row' n valid ok ok' at here c = absurd ok
  same_parallel a x u b y w row (Locals ls) n valid ok ok' at here c = absurd ok'

  -- only this very row is compatible there
  pub same_row : (family : Family) (row row' : Row) → IsFamily sig family → IsRow sig family row → IsRow sig family row' → IsPlace (row_pattern sig family row) g qs → IsCompatible g family (through qs (places 0 (root_size family))) row' → row' ≡ row
  same_row (Parallel a x u b y w) row row' valid ok ok' at c =
      let count = at.count ∙ length_of _ (row_types (Parallel a x u b y w) row) (types_of-row_pattern sig (Parallel a x u b y w) row ok) in
      same_parallel a x u b y w row row' (get_or qs 0 0) valid ok ok' at (slice_get-get_or qs 0 0 (some_node row count)) c
    where
      some_node : (row : Row) → length qs ≡ length (row_types (Parallel a x u b y w) row) → 0 < length qs
      some_node Same e = omega arith
      some_node Different e = omega arith
      some_node (Locals ls) e = omega arith
  same_row family (Locals ls) (Locals ks) valid ok ok' at c =
      let shape = shape_of family in
      let count = at.count ∙ length_of _ shape.types (types_of-pattern sig shape ls) in
      ap Locals (same_columns sig g qs shape.types (through qs (places 0 (length shape.types))) (through-first qs (length shape.types) count) shape.columns ls ks ok ok'
      (place_locals _ g qs at shape.columns ls (TestsLocals-pattern_of sig shape ls (IsShape-of sig family valid) ok)) c)
  same_row family (Locals ls) Same valid ok ok' at c = absurd ok'
  same_row family (Locals ls) Different valid ok ok' at c = absurd ok'
  same_row family row row' valid ok ok' at c = absurd ok
