-- Roots are orthogonal: each embedding of a root extends to one of just one valid row, in just one way.
use Rattle.std.proofs.Common.{◌≡◌, ◌≢◌, ℕ, zero, suc, ◌⊎◌, inl, inr, List, [], ◌∷◌, ◌++◌, refl, sym, ap, ◌∙◌, length, arith}
use Rattle.std.specs.Prelude.{Option, Some, slice_get}
use Rattle.std.specs.List.{AllByRecursion}
use Rattle.kasa_graph.specs.declared.mixture.Agent.{Agent}
use Rattle.kasa_graph.specs.declared.pattern.Node.{Node}
use Rattle.kasa_graph.specs.Signature.{TypeEntry}
use Rattle.kasa_graph.specs.declared.pattern.LinkTest.TheVariants.{Partner, To}
use Rattle.kasa_graph.specs.Mixture.{type_in, partner_in, IsMixtureOver}
use Rattle.kasa_graph.specs.Embedding.{IsEmbedding, MeetsLink}
use Rattle.kasa_graph.proofs.ListLemmas.{same_or_not, AllDifferent-[], AllDifferent-cons}
use Rattle.kasa_graph.proofs.TestLemmas.{HasNodeSite-blank, HasNodeSite-with_bond}
use Rattle.kasa_graph.proofs.EmbeddingLemmas.{IsEmbedding-blank, IsEmbedding-with_bond}
use Rattle.kasa_families.specs.declared.family.Family.{Family}
use Rattle.kasa_families.specs.declared.family.Family.TheVariants.{Parallel}
use Rattle.kasa_families.specs.declared.row.Local.{Local}
use Rattle.kasa_families.specs.declared.row.Row.{Row}
use Rattle.kasa_families.specs.declared.row.Row.TheVariants.{Locals, Same, Different}
use Rattle.kasa_families.specs.Shape.{pattern_of, AreColumns}
use Rattle.kasa_families.specs.Family.{IsFamily, shape_of, same, different, root}
use Rattle.kasa_families.specs.Row.{IsRow}
use Rattle.kasa_families.specs.Pattern.{row_pattern}
use Rattle.kasa_families.specs.Orthogonal.{ShapeExtendsOnce, ExtendsOnce}
use Rattle.kasa_families.proofs.ColumnLemmas.{types_of-root, TestsBond}
use Rattle.kasa_families.proofs.FamilyShape.{IsShape-of, IsShape-same, IsShape-different}
use Rattle.kasa_families.proofs.RowPattern.{types_of-parallel_root, link_test-parallel_root_first, link_test-parallel_root_second, TestsBond-root_of}
use Rattle.kasa_families.proofs.ShapeOnce.{length-cells, type_in-cells, append-[], shape_extends_once}

no_cells : (xs : List ℕ) → length xs ≡ 0 → xs ≡ []
no_cells [] e = refl
no_cells (x ∷ xs) e = absurd (omega arith)

just_one : (xs : List ℕ) (x : ℕ) → length xs ≡ 1 → slice_get xs 0 ≡ Some x → xs ≡ x ∷ []
just_one [] x e f = absurd cc
just_one (y ∷ xs) x e f = let same : y ≡ x = cc in rw (same, no_cells xs (omega arith))

just_two : (xs : List ℕ) (x y : ℕ) → length xs ≡ 2 → slice_get xs 0 ≡ Some x → slice_get xs 1 ≡ Some y → xs ≡ x ∷ y ∷ []
just_two [] x y e f g = absurd cc
just_two (z ∷ xs) x y e f g = let same : z ≡ x = cc in rw (same, just_one xs y (omega arith) g)

-- ---- parallel bonds

-- where a bond to a node is met, the node lies on the partner's cell
pub bond_leads : (m : List (Option Agent)) (cells : List ℕ) (at : Option (ℕ × ℕ)) (d t n v : ℕ) → at ≡ Some (d, t) → MeetsLink m cells at (To n v) → slice_get cells n ≡ Some d
bond_leads m cells at d t n v is met =
    let same : ◌≡◌ {A = ℕ × ℕ} (met.0, v) (d, t) = let e = met.1 in cc in
    met.2 ∙ ap (λ (pair : ℕ × ℕ). Some pair.0) same

module _ (sig : List TypeEntry) (m : List (Option Agent)) (over : IsMixtureOver sig m) (a x u b y w : ℕ) (ok : IsFamily sig (Parallel a x u b y w)) where
  abbrev asked : List Node
  asked = root sig (Parallel a x u b y w)

  -- both partners of the root's cell
  pub partners : (c : ℕ) → IsEmbedding asked m (c ∷ []) → (type_in m c ≡ Some a) × MeetsLink m (c ∷ []) (partner_in m c x) (Partner b y) × MeetsLink m (c ∷ []) (partner_in m c u) (Partner b w)
  partners c emb = (
    type_in-cells asked (a ∷ []) (types_of-parallel_root sig a x u b y w) m (c ∷ []) emb 0 c a refl refl,
    rw (link_test-parallel_root_first sig a x u b y w ok) at (emb.links 0 c x refl),
    rw (link_test-parallel_root_second sig a x u b y w ok) at (emb.links 0 c u refl),
  )

  -- what the rows test
  same_bonds : AllByRecursion (TestsBond (row_pattern sig (Parallel a x u b y w) Same)) (same a x u b y w).bonds
  same_bonds = TestsBond-root_of sig (same a x u b y w) (IsShape-same sig a x u b y w ok)

  different_bonds : AllByRecursion (TestsBond (row_pattern sig (Parallel a x u b y w) Different)) (different a x u b y w).bonds
  different_bonds = TestsBond-root_of sig (different a x u b y w) (IsShape-different sig a x u b y w ok)

  -- the cells of a row are those of the partners
  pub same_leads : (c : ℕ) (others : List ℕ) (d e : ℕ) → partner_in m c x ≡ Some (d, y) → partner_in m c u ≡ Some (e, w) → IsEmbedding (row_pattern sig (Parallel a x u b y w) Same) m (c ∷ others) → (others ≡ d ∷ []) × (d ≡ e)
  same_leads c others d e first second emb =
      let at_x = bond_leads m (c ∷ others) _ d y 1 y first (rw same_bonds.0.first at (emb.links 0 c x refl)) in
      let at_u = bond_leads m (c ∷ others) _ e w 1 w second (rw same_bonds.1.0.first at (emb.links 0 c u refl)) in (
        just_one others d (let count = length-cells _ (a ∷ b ∷ []) (types_of-root sig (same a x u b y w)) m (c ∷ others) emb in omega arith) at_x,
        cc,
      )

  pub different_leads : (c : ℕ) (others : List ℕ) (d e : ℕ) → partner_in m c x ≡ Some (d, y) → partner_in m c u ≡ Some (e, w) → IsEmbedding (row_pattern sig (Parallel a x u b y w) Different) m (c ∷ others) → (others ≡ d ∷ e ∷ []) × (d ≢ e)
  different_leads c others d e first second emb =
      let at_x = bond_leads m (c ∷ others) _ d y 1 y first (rw different_bonds.0.first at (emb.links 0 c x refl)) in
      let at_u = bond_leads m (c ∷ others) _ e w 2 w second (rw different_bonds.1.0.first at (emb.links 0 c u refl)) in (
        just_two others d e (let count = length-cells _ (a ∷ b ∷ b ∷ []) (types_of-root sig (different a x u b y w)) m (c ∷ others) emb in omega arith) at_x at_u,
        λ same. let clash = emb.different 1 2 d at_x (at_u ∙ ap Some (sym same)) in omega arith,
      )

  -- the cells of the partners are embedded
  module _ (c d e : ℕ) (is_a : type_in m c ≡ Some a) (is_b : type_in m d ≡ Some b) (also_b : type_in m e ≡ Some b) (first : partner_in m c x ≡ Some (d, y)) (second : partner_in m c u ≡ Some (e, w)) where
    apart : (d' : ℕ) → type_in m d' ≡ Some b → d' ≢ c
    apart d' is same = ok.4 (let h : Some a ≡ Some b = sym is_a ∙ ap (type_in m) (sym same) ∙ is in cc)

    one_cell : (i z v : ℕ) → slice_get (z ∷ []) i ≡ Some v → z ≡ v
    one_cell zero z v h = cc
    one_cell (suc i) z v h = absurd cc

    two_cells : (i z v r : ℕ) → slice_get (z ∷ v ∷ []) i ≡ Some r → (z ≡ r) ⊎ (v ≡ r)
    two_cells zero z v r h = inl cc
    two_cells (suc i) z v r h = inr (one_cell i v r h)

    embedded_same : d ≡ e → IsEmbedding (row_pattern sig (Parallel a x u b y w) Same) m (c ∷ d ∷ [])
    embedded_same same =
        let second' : partner_in m c u ≡ Some (d, w) = rw same second in
        IsEmbedding-with_bond _ m (c ∷ d ∷ []) 0 u 1 w c d (HasNodeSite-with_bond _ 0 x 1 y 0 u (HasNodeSite-blank sig (a ∷ b ∷ []) 0 u a refl ok.1)) (HasNodeSite-with_bond _ 0 x 1 y 1 w (HasNodeSite-blank sig (a ∷ b ∷ []) 1 w b refl ok.3)) refl refl second' (over.linked.both_ways c u d w second')
        (IsEmbedding-with_bond _ m (c ∷ d ∷ []) 0 x 1 y c d (HasNodeSite-blank sig (a ∷ b ∷ []) 0 x a refl ok.0) (HasNodeSite-blank sig (a ∷ b ∷ []) 1 y b refl ok.2) refl refl first (over.linked.both_ways c x d y first)
        (IsEmbedding-blank sig (a ∷ b ∷ []) m (c ∷ d ∷ []) refl
        (AllDifferent-cons c (d ∷ []) (λ i h. apart d is_b (one_cell i d c h)) (AllDifferent-cons d [] (λ i h. absurd cc) AllDifferent-[]))
        typed))
      where
        typed : (n v t : ℕ) → slice_get (c ∷ d ∷ []) n ≡ Some v → slice_get (a ∷ b ∷ []) n ≡ Some t → type_in m v ≡ Some t
        typed zero v t h k = let here : c ≡ v = cc in rw (← here) (is_a ∙ k)
        typed (suc zero) v t h k = let here : d ≡ v = cc in rw (← here) (is_b ∙ k)
        typed (suc (suc n)) v t h k = absurd cc

    embedded_different : d ≢ e → IsEmbedding (row_pattern sig (Parallel a x u b y w) Different) m (c ∷ d ∷ e ∷ [])
    embedded_different differ =
        IsEmbedding-with_bond _ m (c ∷ d ∷ e ∷ []) 0 u 2 w c e (HasNodeSite-with_bond _ 0 x 1 y 0 u (HasNodeSite-blank sig (a ∷ b ∷ b ∷ []) 0 u a refl ok.1)) (HasNodeSite-with_bond _ 0 x 1 y 2 w (HasNodeSite-blank sig (a ∷ b ∷ b ∷ []) 2 w b refl ok.3)) refl refl second (over.linked.both_ways c u e w second)
        (IsEmbedding-with_bond _ m (c ∷ d ∷ e ∷ []) 0 x 1 y c d (HasNodeSite-blank sig (a ∷ b ∷ b ∷ []) 0 x a refl ok.0) (HasNodeSite-blank sig (a ∷ b ∷ b ∷ []) 1 y b refl ok.2) refl refl first (over.linked.both_ways c x d y first)
        (IsEmbedding-blank sig (a ∷ b ∷ b ∷ []) m (c ∷ d ∷ e ∷ []) refl
        (AllDifferent-cons c (d ∷ e ∷ []) (λ i h. elim (two_cells i d e c h) [ inl k ↦ apart d is_b k | inr k ↦ apart e also_b k ])
        (AllDifferent-cons d (e ∷ []) (λ i h. differ (sym (one_cell i e d h))) (AllDifferent-cons e [] (λ i h. absurd cc) AllDifferent-[])))
        typed))
      where
        typed : (n v t : ℕ) → slice_get (c ∷ d ∷ e ∷ []) n ≡ Some v → slice_get (a ∷ b ∷ b ∷ []) n ≡ Some t → type_in m v ≡ Some t
        typed zero v t h k = let here : c ≡ v = cc in rw (← here) (is_a ∙ k)
        typed (suc zero) v t h k = let here : d ≡ v = cc in rw (← here) (is_b ∙ k)
        typed (suc (suc zero)) v t h k = let here : e ≡ v = cc in rw (← here) (also_b ∙ k)
        typed (suc (suc (suc n))) v t h k = absurd cc

    only_same : d ≡ e → (other : Row) (others : List ℕ) → IsRow sig (Parallel a x u b y w) other → IsEmbedding (row_pattern sig (Parallel a x u b y w) other) m (c ∷ others) → (other ≡ Same) × (others ≡ d ∷ [])
    only_same same Same others valid emb = (refl, (same_leads c others d e first second emb).0)
    only_same same Different others valid emb = absurd ((different_leads c others d e first second emb).1 same)
    only_same same (Locals locals) others valid emb = absurd valid

    only_different : d ≢ e → (other : Row) (others : List ℕ) → IsRow sig (Parallel a x u b y w) other → IsEmbedding (row_pattern sig (Parallel a x u b y w) other) m (c ∷ others) → (other ≡ Different) × (others ≡ d ∷ e ∷ [])
    only_different differ Same others valid emb = absurd (differ (same_leads c others d e first second emb).1)
    only_different differ Different others valid emb = (refl, (different_leads c others d e first second emb).0)
    only_different differ (Locals locals) others valid emb = absurd valid

    parallel_at : ExtendsOnce sig (Parallel a x u b y w) m (c ∷ [])
    parallel_at = elim (same_or_not d e) [
      | inl same ↦ record { row = Same; valid = tt; more = d ∷ []; embedded = embedded_same same; only = only_same same }
      | inr differ ↦ record { row = Different; valid = tt; more = d ∷ e ∷ []; embedded = embedded_different differ; only = only_different differ }
    ]

  parallel_once : (cells : List ℕ) → IsEmbedding asked m cells → ExtendsOnce sig (Parallel a x u b y w) m cells
  parallel_once (c ∷ []) emb =
      let two = partners c emb in
      parallel_at c two.1.0 two.2.0 two.0 two.1.2 two.2.2 two.1.1 two.2.1
  parallel_once [] emb = absurd (let e = length-cells asked (a ∷ []) (types_of-parallel_root sig a x u b y w) m [] emb in omega arith)
  parallel_once (c ∷ d ∷ cells) emb = absurd (let e = length-cells asked (a ∷ []) (types_of-parallel_root sig a x u b y w) m (c ∷ d ∷ cells) emb in omega arith)

-- ---- all kinds

-- what the law on the shape of a family says of its rows, where these are lists of local states alone
module _ (sig : List TypeEntry) (family : Family) (m : List (Option Agent)) (cells : List ℕ)
    (to : (locals : List Local) → AreColumns sig (shape_of family).types (shape_of family).columns locals → IsRow sig family (Locals locals))
    (from : (row : Row) → IsRow sig family row → (locals : List Local) × (row ≡ Locals locals) × AreColumns sig (shape_of family).types (shape_of family).columns locals)
    (pattern_is : (locals : List Local) → row_pattern sig family (Locals locals) ≡ pattern_of sig (shape_of family) locals) where
  by_shape : ShapeExtendsOnce sig (shape_of family) m cells → ExtendsOnce sig family m cells
  by_shape once = record {
    row = Locals once.locals;
    valid = to once.locals once.valid;
    more = [];
    embedded = rw (pattern_is once.locals, append-[]) once.embedded;
    only = λ other others valid emb.
        let row = from other valid in
        let alike = once.only row.0 others row.2 (rw (row.1, pattern_is row.0) at emb) in
        (row.1 ∙ ap Locals alike.0, alike.1);
  }

pub root_extends_once : (sig : List TypeEntry) (family : Family) (m : List (Option Agent)) (cells : List ℕ) → IsFamily sig family → IsMixtureOver sig m → IsEmbedding (root sig family) m cells → ExtendsOnce sig family m cells
root_extends_once sig (Parallel a x u b y w) m cells ok over emb = parallel_once sig m over a x u b y w ok cells emb
root_extends_once sig family m cells ok over emb =
    by_shape sig family m cells (λ locals valid. valid)
    (λ row. elim row as (λ row. IsRow sig family row → (locals : List Local) × (row ≡ Locals locals) × AreColumns sig (shape_of family).types (shape_of family).columns locals) [ Locals locals ↦ λ valid. (locals, refl, valid) | Same ↦ λ valid. absurd valid | Different ↦ λ valid. absurd valid ])
    (λ locals. refl) (shape_extends_once sig (shape_of family) m cells (IsShape-of sig family ok) over emb)

-- two valid rows to which the cells extend are equal, and so are the extensions
pub extensions_alike : (sig : List TypeEntry) (family : Family) (m : List (Option Agent)) (cells : List ℕ) → ExtendsOnce sig family m cells → (row other : Row) (more others : List ℕ) → IsRow sig family row → IsRow sig family other → IsEmbedding (row_pattern sig family row) m (cells ++ more) → IsEmbedding (row_pattern sig family other) m (cells ++ others) → (row ≡ other) × (more ≡ others)
extensions_alike sig family m cells once row other more others valid valid' emb emb' =
    let first = once.only row more valid emb in
    let second = once.only other others valid' emb' in
    (first.0 ∙ sym second.0, first.1 ∙ sym second.1)
