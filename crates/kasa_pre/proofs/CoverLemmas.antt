-- Tables that hold all rows that occur in a mixture allow each pattern that stands there.
use Rattle.std.proofs.Common.{◌≡◌, ℕ, ◌<◌, List, [], ◌∷◌, ◌++◌, refl, sym, ap, ◌∙◌, length, map, get_or, arith}
use Rattle.std.specs.Prelude.{Option, Some, slice_get, option_map}
use Rattle.std.proofs.lemmas.Option.{slice_get-map, slice_get_within, slice_get-get_or}
use Rattle.kasa_graph.specs.declared.pattern.Node.{Node}
use Rattle.kasa_graph.specs.declared.mixture.Agent.{Agent}
use Rattle.kasa_graph.specs.Signature.{TypeEntry}
use Rattle.kasa_graph.specs.declared.pattern.LinkTest.{LinkTest}
use Rattle.kasa_graph.specs.declared.pattern.LinkTest.TheVariants.{Any, Free, Bound, Partner, To}
use Rattle.kasa_graph.specs.Pattern.{link_test, LinksAgree}
use Rattle.kasa_graph.specs.Mixture.{type_in, state_in, partner_in, IsMixtureOver}
use Rattle.kasa_graph.specs.Embedding.{IsEmbedding, MeetsLink}
use Rattle.kasa_families.specs.declared.family.Family.{Family}
use Rattle.kasa_families.specs.declared.family.Family.TheVariants.{Parallel}
use Rattle.kasa_families.specs.declared.shape.NodeSite.{NodeSite}
use Rattle.kasa_families.specs.declared.row.Local.{Local}
use Rattle.kasa_families.specs.declared.row.Row.{Row}
use Rattle.kasa_families.specs.declared.row.Row.TheVariants.{Locals, Same, Different}
use Rattle.std.specs.List.{AllZip}
use Rattle.kasa_families.specs.Local.{IsLocal}
use Rattle.kasa_families.specs.Shape.{at as site_of, AreColumns, ColumnsAgree, pattern_of}
use Rattle.kasa_families.specs.Family.{IsFamily, shape_of, same, different, root}
use Rattle.kasa_families.specs.Row.{IsRow}
use Rattle.kasa_families.specs.Pattern.{row_pattern}
use Rattle.kasa_families.specs.Table.{Table, AreTables}
use Rattle.kasa_graph.proofs.ListLemmas.{some_at, slice_get-append_left}
use Rattle.kasa_families.proofs.TableLemmas.{IsFamily-of_tables}
use Rattle.kasa_pre.specs.Place.{IsPlace}
use Rattle.kasa_pre.specs.Compatible.{LocalAgrees, CanBeSame, CanBeDifferent, IsCompatible}
use Rattle.kasa_pre.specs.Allowed.{IsAllowed}
use Rattle.kasa_pre.specs.Closed.{Cover}
use Rattle.kasa_pre.proofs.RootLemmas.{root_extends}
use Rattle.kasa_pre.proofs.EmbeddingLemmas.{StatesAgree-met, LinksAgree-met, same_partner, cells_at, IsEmbedding-place}
use Rattle.kasa_graph.proofs.ShapeLemmas.{agent_at-node, node_of_agent}
use Rattle.kasa_pre.proofs.LeftLemmas.{typed_node}
use Rattle.kasa_families.proofs.ColumnLemmas.{nth_of, to_nth, TestsLocal}
use Rattle.kasa_families.proofs.FamilyShape.{IsShape-of, IsShape-same, IsShape-different}
use Rattle.kasa_families.proofs.RowPattern.{length_of, root_types, types_of-family_root, TestsBond-root_of, TestsLocals-pattern_of}

-- ---- tests that are met at one site

module _ (g : List Node) (m : List (Option Agent)) (cells : List ℕ) (at : IsEmbedding g m cells) where
  -- a test that is met agrees with a bond that stands there
  pub LinksAgree-bond : (o : Option (ℕ × ℕ)) (a : LinkTest) (n t : ℕ) → MeetsLink m cells o a → MeetsLink m cells o (To n t) → LinksAgree g a (To n t)
  LinksAgree-bond o Any n t p q = tt
  LinksAgree-bond o Free n t p q = absurd (let e = q.1 in cc)
  LinksAgree-bond o Bound n t p q = tt
  LinksAgree-bond o (Partner a x) n t p q =
      let same = same_partner o p.0 x q.0 t p.1 q.1 in
      let b = typed_node g m cells at n q.0 q.2 in
      (b.1 ∙ sym b.2 ∙ ap (type_in m) (sym same.0) ∙ p.2, sym same.1)
  LinksAgree-bond o (To k u) n t p q =
      let same = same_partner o p.0 u q.0 t p.1 q.1 in
      (at.different k n q.0 (p.2 ∙ ap Some same.0) q.2, same.1)

  module _ (h : List Node) (others : List ℕ) (at_h : IsEmbedding h m others) where
    -- a local state that h tests for at a cell agrees with g there
    pub LocalAgrees-met : (n k c s : ℕ) (l : Local) → slice_get cells n ≡ Some c → slice_get others k ≡ Some c → TestsLocal h (site_of k s) l → LocalAgrees g n s l
    LocalAgrees-met n k c s l e f tests = record {
      state = StatesAgree-met (state_in m c s) _ _ (at.states n c s e) (rw tests.state at (at_h.states k c s f));
      link = LinksAgree-met g m cells at.types (partner_in m c s) others (link_test g n s) l.link (λ j d is. let b = typed_node g m cells at j d is in (b.0, b.1)) (at.links n c s e) (rw tests.link at (at_h.links k c s f));
    }

    -- where g and h both name the partner at a site, both name its cell
    pub same_bond : (n k c s i t j u : ℕ) → slice_get cells n ≡ Some c → slice_get others k ≡ Some c → link_test g n s ≡ To i t → link_test h k s ≡ To j u → (d : ℕ) × (slice_get cells i ≡ Some d) × (slice_get others j ≡ Some d) × (partner_in m c s ≡ Some (d, u))
    same_bond n k c s i t j u e f is is_h =
        let p : MeetsLink m cells (partner_in m c s) (To i t) = rw is at (at.links n c s e) in
        let q : MeetsLink m others (partner_in m c s) (To j u) = rw is_h at (at_h.links k c s f) in
        let same = same_partner (partner_in m c s) p.0 t q.0 u p.1 q.1 in
        (q.0, p.2 ∙ ap Some same.0, q.2, q.1)

-- how many nodes the root of a family has
abbrev pub root_size : Family → ℕ
root_size family = length (root_types family)

pub length-root : (sig : List TypeEntry) (family : Family) → length (root sig family) ≡ root_size family
length-root sig family = length_of (root sig family) (root_types family) (types_of-family_root sig family)

-- ---- a row that occurs where g stands is compatible with g

module _ (sig : List TypeEntry) (g : List Node) (m : List (Option Agent)) (over : IsMixtureOver sig m) (cells : List ℕ) (at : IsEmbedding g m cells) where
  -- the row of a parallel family with one partner, where the bonds lead to one cell
  module _ (n x u y w : ℕ) (h : List Node) (others : List ℕ) (at_h : IsEmbedding h m others) (c : ℕ) (here : slice_get cells n ≡ Some c) (there : slice_get others 0 ≡ Some c) where
    CanBeSame-met : link_test h 0 x ≡ To 1 y → link_test h 0 u ≡ To 1 w → CanBeSame g n x u y w
    CanBeSame-met first second = record {
      one = λ i k t v is is'.
          let p = same_bond g m cells at h others at_h n 0 c x i t 1 y here there is first in
          let q = same_bond g m cells at h others at_h n 0 c u k v 1 w here there is' second in
          let same : Some p.0 ≡ Some q.0 = sym p.2 ∙ q.2 in
          at.different i k q.0 (p.1 ∙ same) q.1;
      back_at_w = λ i t is.
          let p = same_bond g m cells at h others at_h n 0 c x i t 1 y here there is first in
          let q : MeetsLink m others (partner_in m c u) (To 1 w) = rw second at (at_h.links 0 c u there) in
          let same : Some q.0 ≡ Some p.0 = sym q.2 ∙ p.2 in
          let cell : q.0 ≡ p.0 = cc in
          let back : partner_in m p.0 w ≡ Some (c, u) = rw (← cell) (over.linked.both_ways c u q.0 w q.1) in
          LinksAgree-bond g m cells at (partner_in m p.0 w) (link_test g i w) n u (at.links i p.0 w p.1) (c, back, here);
      back_at_y = λ i t is.
          let p = same_bond g m cells at h others at_h n 0 c u i t 1 w here there is second in
          let q : MeetsLink m others (partner_in m c x) (To 1 y) = rw first at (at_h.links 0 c x there) in
          let same : Some q.0 ≡ Some p.0 = sym q.2 ∙ p.2 in
          let cell : q.0 ≡ p.0 = cc in
          let back : partner_in m p.0 y ≡ Some (c, x) = rw (← cell) (over.linked.both_ways c x q.0 y q.1) in
          LinksAgree-bond g m cells at (partner_in m p.0 y) (link_test g i y) n x (at.links i p.0 y p.1) (c, back, here);
    }

    CanBeDifferent-met : link_test h 0 x ≡ To 1 y → link_test h 0 u ≡ To 2 w → CanBeDifferent g n x u
    CanBeDifferent-met first second = record {
      two = λ i k t v is is' same.
          let p = same_bond g m cells at h others at_h n 0 c x i t 1 y here there is first in
          let q = same_bond g m cells at h others at_h n 0 c u k v 2 w here there is' second in
          let cell : Some p.0 ≡ Some q.0 = sym p.1 ∙ ap (slice_get cells) same ∙ q.1 in
          let number : 1 ≡ 2 = at_h.different 1 2 q.0 (p.2 ∙ cell) q.2 in
          cc;
    }

  module _ (place : List ℕ) (within : (n p : ℕ) → slice_get place n ≡ Some p → p < length cells) where
    -- the cells of a place come first
    place_cell : (k n : ℕ) (more : List ℕ) → slice_get place k ≡ Some n → (c : ℕ) × (slice_get cells n ≡ Some c) × (slice_get (cells_at cells place ++ more) k ≡ Some c)
    unfolding cells_at
    place_cell k n more e =
        let cell = slice_get-map (λ p. get_or cells p 0) place k ∙ ap (option_map (λ (p : ℕ). get_or cells p 0)) e in
        (get_or cells n 0, slice_get-get_or cells n 0 (within k n e), slice_get-append_left (map (λ p. get_or cells p 0) place) more k (slice_get_within (map (λ p. get_or cells p 0) place) k (get_or cells n 0) cell) ∙ cell)

  -- the local states that a pattern tests at the columns agree with g, where its nodes lie on the cells of a place
  ColumnsAgree-met : (h : List Node) (types place more : List ℕ) → length place ≡ length types → ((n p : ℕ) → slice_get place n ≡ Some p → p < length cells) → IsEmbedding h m (cells_at cells place ++ more) →
      (columns : List NodeSite) (locals : List Local) → AreColumns sig types columns locals → AllZip (TestsLocal h) columns locals → ColumnsAgree g place columns locals
  ColumnsAgree-met h types place more count within at_h [] [] ok tests = tt
  ColumnsAgree-met h types place more count within at_h [] (l ∷ locals) ok tests = absurd ok
  ColumnsAgree-met h types place more count within at_h (s ∷ columns) [] ok tests = absurd ok
  ColumnsAgree-met h types place more count within at_h (s ∷ columns) (l ∷ locals) ok tests =
      let a = nth_of types s.node (λ a. IsLocal sig a s.site l) ok.0 in
      let inside = slice_get_within types s.node a.0 a.1 in
      let n = some_at place s.node (omega arith) in
      let c = place_cell place within s.node n.0 more n.1 in (
        to_nth place s.node (λ n. LocalAgrees g n s.site l) n.0 n.1 (LocalAgrees-met g m cells at h (cells_at cells place ++ more) at_h n.0 s.node c.0 s.site l c.1 c.2 tests.0),
        ColumnsAgree-met h types place more count within at_h columns locals ok.1 tests.1,
      )

  IsCompatible-occurs : (family : Family) (row : Row) → IsFamily sig family → IsRow sig family row → (place : List ℕ) → length place ≡ root_size family → ((n p : ℕ) → slice_get place n ≡ Some p → p < length cells) → (more : List ℕ) → IsEmbedding (row_pattern sig family row) m (cells_at cells place ++ more) → IsCompatible g family place row
  IsCompatible-occurs (Parallel a x u b y w) Same valid ok (n ∷ []) count within more at_h =
      let c = place_cell (n ∷ []) within 0 n more refl in
      let bonds = TestsBond-root_of sig (same a x u b y w) (IsShape-same sig a x u b y w valid) in
      CanBeSame-met n x u y w _ (cells_at cells (n ∷ []) ++ more) at_h c.0 c.1 c.2 bonds.0.first bonds.1.0.first
  IsCompatible-occurs (Parallel a x u b y w) Different valid ok (n ∷ []) count within more at_h =
      let c = place_cell (n ∷ []) within 0 n more refl in
      let bonds = TestsBond-root_of sig (different a x u b y w) (IsShape-different sig a x u b y w valid) in
      CanBeDifferent-met n x u y w _ (cells_at cells (n ∷ []) ++ more) at_h c.0 c.1 c.2 bonds.0.first bonds.1.0.first
  IsCompatible-occurs (Parallel a x u b y w) (Locals locals) valid ok place count within more at_h = absurd ok
  IsCompatible-occurs (Parallel a x u b y w) row valid ok [] count within more at_h = absurd (omega arith)
  IsCompatible-occurs (Parallel a x u b y w) row valid ok (n ∷ i ∷ place) count within more at_h = absurd (omega arith)
  IsCompatible-occurs family (Locals locals) valid ok place count within more at_h =
      ColumnsAgree-met (pattern_of sig (shape_of family) locals) (shape_of family).types place more count within at_h (shape_of family).columns locals ok (TestsLocals-pattern_of sig (shape_of family) locals (IsShape-of sig family valid) ok)
  IsCompatible-occurs family row valid ok place count within more at_h = absurd ok

-- tables that cover a mixture allow each pattern that stands there
pub IsAllowed-cover : (sig : List TypeEntry) (tables : List Table) (m : List (Option Agent)) (g : List Node) (cells : List ℕ) → AreTables sig tables → IsMixtureOver sig m → Cover sig tables m → IsEmbedding g m cells → IsAllowed sig tables g
IsAllowed-cover sig tables m g cells ok over cover at = λ family has place is.
    let valid = IsFamily-of_tables sig tables ok family has in
    let in_root = place_within family place is in
    let row = root_extends sig family valid m over (cells_at cells place) (IsEmbedding-place (root sig family) g m cells place is at in_root) in
    (row.0, cover family has row.0 row.1 (cells_at cells place ++ row.2.0, row.2.1), IsCompatible-occurs sig g m over cells at family row.0 valid row.1 place (is.count ∙ length-root sig family) in_root row.2.0 row.2.1)
  where
    place_within : (family : Family) (place : List ℕ) → IsPlace (root sig family) g place → (n p : ℕ) → slice_get place n ≡ Some p → p < length cells
    place_within family place is n p e =
        let node = some_at (root sig family) n (rw (← is.count) (slice_get_within place n p e)) in
        let there = node_of_agent g p node.0.agent (is.types n p node.0.agent e (agent_at-node (root sig family) n node.0 node.1)) in
        rw at.count (slice_get_within g p there.0 there.1)
