-- The patterns of roots and rows: the types of their nodes, what they test at each site, that a row implies its root, and
-- that each later node has a bond to an earlier one.
use Rattle.std.proofs.Common.{◌≡◌, ◌≢◌, ℕ, suc, ◌<◌, inl, inr, List, [], ◌∷◌, refl, sym, ap, ◌∙◌, length, map, arith}
use Rattle.std.specs.Prelude.{Some, slice_get}
use Rattle.std.specs.List.{AllByRecursion, AllZip}
use Rattle.std.proofs.lemmas.Slice.Zip.{AllZip-long}
use Rattle.std.proofs.lemmas.Option.{slice_get_within}
use Rattle.kasa_graph.proofs.ListLemmas.{some_map, some_at}
use Rattle.kasa_graph.specs.declared.pattern.Node.{Node}
use Rattle.kasa_graph.specs.Signature.{TypeEntry}
use Rattle.kasa_graph.specs.declared.pattern.StateTest.{StateTest}
use Rattle.kasa_graph.specs.declared.pattern.StateTest.TheVariants as state
use Rattle.kasa_graph.specs.declared.pattern.LinkTest.{LinkTest}
use Rattle.kasa_graph.specs.declared.pattern.LinkTest.TheVariants.{Any, Free, Bound, Partner, To}
use Rattle.kasa_graph.specs.Mixture.{agent_in, type_in}
use Rattle.kasa_graph.specs.Pattern.{agent_at, state_test, link_test, types_of, blank_node, StateImplies, LinkImplies}
use Rattle.kasa_graph.proofs.TestLemmas.{agent_at-types, length-types, types_of-with_link, types_of-blank, HasNodeSite-blank, state_test-blank, link_test-blank, state_test-with_link}
use Rattle.kasa_graph.proofs.PatternLemmas.{same_site_or_not, link_test-with_link_same, link_test-with_link_other, HasNodeSite-with_link}
use Rattle.kasa_graph.proofs.JoinedLemmas.{IsJoined}
use Rattle.kasa_families.specs.declared.family.Family.{Family}
use Rattle.kasa_families.specs.declared.family.Family.TheVariants.{Parallel}
use Rattle.kasa_families.specs.declared.row.Local.{Local}
use Rattle.kasa_families.specs.declared.row.Row.{Row}
use Rattle.kasa_families.specs.declared.row.Row.TheVariants.{Locals, Same, Different}
use Rattle.kasa_families.specs.declared.shape.NodeSite.{NodeSite}
use Rattle.kasa_families.specs.Shape.{Shape, at, ends, IsShape, root_of, pattern_of, AreColumns}
use Rattle.kasa_families.specs.Family.{IsFamily, shape_of, same, different, root}
use Rattle.kasa_families.specs.Row.{IsRow}
use Rattle.kasa_families.specs.Pattern.{row_pattern, Occurs}
use Rattle.kasa_families.proofs.ColumnLemmas.{AreApart-right, columns_in_root, TestsLocal, TestsLocals-with_columns, All-at, All-left, AreApart-left, apart_from_left, apart_from_right, one_or_apart, second_end, IsIn, IsIn-root, All-to, types_of-root, types_of-pattern, SameTests-with_columns, SameTests-with_bonds, state_test-with_bonds, TestsBond, TestsBond-with_bonds}
use Rattle.kasa_families.proofs.FamilyShape.{IsShape-of, IsShape-same, IsShape-different, some_types}

-- ---- what a shape's root tests

module _ (sig : List TypeEntry) (shape : Shape) where
  -- its bonds alone
  pub state_test-root_of : (k v : ℕ) → state_test (root_of sig shape) k v ≡ state.Any
  state_test-root_of k v = state_test-with_bonds _ shape.bonds k v ∙ state_test-blank sig shape.types k v

  pub link_test-root_of : (s : NodeSite) → AllByRecursion (λ t. s ≢ t) (ends shape.bonds) → link_test (root_of sig shape) s.node s.site ≡ Any
  link_test-root_of s out = (SameTests-with_bonds (map (blank_node sig) shape.types) shape.bonds s out).link ∙ link_test-blank sig shape.types s.node s.site

  pub TestsBond-root_of : IsShape sig shape → AllByRecursion (TestsBond (root_of sig shape)) shape.bonds
  TestsBond-root_of ok =
      TestsBond-with_bonds (map (blank_node sig) shape.types) shape.bonds (AreApart-left (ends shape.bonds) shape.columns ok.apart)
      (All-to _ (IsIn (map (blank_node sig) shape.types)) (ends shape.bonds) (IsIn-root sig (record { types = shape.types; bonds = []; columns = [] })) (All-left _ (ends shape.bonds) shape.columns ok.sites))

-- a row tests its local states at the columns
pub TestsLocals-pattern_of : (sig : List TypeEntry) (shape : Shape) (locals : List Local) → IsShape sig shape → AreColumns sig shape.types shape.columns locals → AllZip (TestsLocal (pattern_of sig shape locals)) shape.columns locals
TestsLocals-pattern_of sig shape locals ok valid =
    TestsLocals-with_columns (root_of sig shape) shape.columns locals (AllZip-long _ shape.columns locals valid) (AreApart-right (ends shape.bonds) shape.columns ok.apart) (columns_in_root sig shape ok)

-- ---- what a parallel family's root tests

pub types_of-parallel_root : (sig : List TypeEntry) (a x u b y w : ℕ) → types_of (root sig (Parallel a x u b y w)) ≡ a ∷ []
types_of-parallel_root sig a x u b y w = types_of-with_link _ 0 u (Partner b w) ∙ types_of-with_link _ 0 x (Partner b y) ∙ types_of-blank sig (a ∷ [])

module _ (sig : List TypeEntry) (a x u b y w : ℕ) (ok : IsFamily sig (Parallel a x u b y w)) where
  pub state_test-parallel_root : (k v : ℕ) → state_test (root sig (Parallel a x u b y w)) k v ≡ state.Any
  state_test-parallel_root k v = state_test-with_link _ 0 u (Partner b w) k v ∙ state_test-with_link _ 0 x (Partner b y) k v ∙ state_test-blank sig (a ∷ []) k v

  pub link_test-parallel_root_first : link_test (root sig (Parallel a x u b y w)) 0 x ≡ Partner b y
  link_test-parallel_root_first = link_test-with_link_other _ 0 u 0 x (Partner b w) (λ _ e. ok.5 (sym e)) ∙ link_test-with_link_same _ 0 x (Partner b y) (HasNodeSite-blank sig (a ∷ []) 0 x a refl ok.0)

  pub link_test-parallel_root_second : link_test (root sig (Parallel a x u b y w)) 0 u ≡ Partner b w
  link_test-parallel_root_second = link_test-with_link_same _ 0 u (Partner b w) (HasNodeSite-with_link _ 0 x 0 u (Partner b y) (HasNodeSite-blank sig (a ∷ []) 0 u a refl ok.1))

  pub link_test-parallel_root_other : (k v : ℕ) → (0 ≡ k → x ≢ v) → (0 ≡ k → u ≢ v) → link_test (root sig (Parallel a x u b y w)) k v ≡ Any
  link_test-parallel_root_other k v first second = link_test-with_link_other _ 0 u k v (Partner b w) second ∙ link_test-with_link_other _ 0 x k v (Partner b y) first ∙ link_test-blank sig (a ∷ []) k v

-- ---- the types of roots and rows

abbrev pub root_types : Family → List ℕ
root_types (Parallel a x u b y w) = a ∷ []
root_types family = (shape_of family).types

pub types_of-family_root : (sig : List TypeEntry) (family : Family) → types_of (root sig family) ≡ root_types family
types_of-family_root sig (Parallel a x u b y w) = types_of-parallel_root sig a x u b y w
types_of-family_root sig family = types_of-root sig (shape_of family)

abbrev pub row_types : Family → Row → List ℕ
row_types (Parallel a x u b y w) Different = (different a x u b y w).types
row_types family row = (shape_of family).types

pub types_of-row_pattern : (sig : List TypeEntry) (family : Family) (row : Row) → IsRow sig family row → types_of (row_pattern sig family row) ≡ row_types family row
types_of-row_pattern sig (Parallel a x u b y w) Same valid = types_of-root sig (same a x u b y w)
types_of-row_pattern sig (Parallel a x u b y w) Different valid = types_of-root sig (different a x u b y w)
types_of-row_pattern sig (Parallel a x u b y w) (Locals locals) valid = absurd valid
types_of-row_pattern sig family (Locals locals) valid = types_of-pattern sig (shape_of family) locals
types_of-row_pattern sig family row valid = absurd valid

-- ---- a row implies its root

pub StateImplies-refl : (t : StateTest) → StateImplies t t
StateImplies-refl state.Any = tt
StateImplies-refl (state.Is u) = refl

pub LinkImplies-refl : (g : List Node) (t : LinkTest) → LinkImplies g t t
LinkImplies-refl g Any = tt
LinkImplies-refl g Free = tt
LinkImplies-refl g Bound = tt
LinkImplies-refl g (Partner b y) = (refl, refl)
LinkImplies-refl g (To n t) = (refl, refl)

-- h's tests at a site imply g's
abbrev pub ImpliesThere : List Node → List Node → ℕ → ℕ → Type 0
ImpliesThere h g k v = StateImplies (state_test h k v) (state_test g k v) × LinkImplies h (link_test h k v) (link_test g k v)

no_tests : (h g : List Node) (k v : ℕ) → state_test g k v ≡ state.Any → link_test g k v ≡ Any → ImpliesThere h g k v
no_tests h g k v no_state no_link = (rw no_state tt, rw no_link tt)

same_tests : (h g : List Node) (k v : ℕ) → state_test h k v ≡ state_test g k v → link_test h k v ≡ link_test g k v → ImpliesThere h g k v
same_tests h g k v same_state same_link = (rw same_state (StateImplies-refl _), rw same_link (LinkImplies-refl h _))

-- the pattern of a shape's row implies its root
pattern_implies : (sig : List TypeEntry) (shape : Shape) → IsShape sig shape → (locals : List Local) (k v : ℕ) → ImpliesThere (pattern_of sig shape locals) (root_of sig shape) k v
pattern_implies sig shape ok locals k v =
    elim (one_or_apart (at k v) shape.columns) [
      | inl has ↦ no_tests _ _ k v (state_test-root_of sig shape k v) (link_test-root_of sig shape (at k v) (apart_from_left (ends shape.bonds) shape.columns (at k v) ok.apart has))
      | inr out ↦ let same = SameTests-with_columns (root_of sig shape) shape.columns locals (at k v) out in same_tests _ _ k v same.state same.link
    ]

-- a node with two bonds to nodes of type b implies the root
parallel_implies : (sig : List TypeEntry) (a x u b y w : ℕ) → IsFamily sig (Parallel a x u b y w) → (h : List Node) (i j : ℕ) → link_test h 0 x ≡ To i y → link_test h 0 u ≡ To j w → agent_at h i ≡ Some b → agent_at h j ≡ Some b → (k v : ℕ) → ImpliesThere h (root sig (Parallel a x u b y w)) k v
parallel_implies sig a x u b y w ok h i j first second is_b also_b k v = (
  rw (state_test-parallel_root sig a x u b y w ok k v) tt,
  elim (same_site_or_not 0 x k v) [
    | inl e ↦ rw (← e.0, ← e.1) (rw (link_test-parallel_root_first sig a x u b y w ok, first) (is_b, refl))
    | inr out_first ↦ elim (same_site_or_not 0 u k v) [
      | inl e ↦ rw (← e.0, ← e.1) (rw (link_test-parallel_root_second sig a x u b y w ok, second) (also_b, refl))
      | inr out_second ↦ rw (link_test-parallel_root_other sig a x u b y w ok k v out_first out_second) tt
    ]
  ],
)

pub typed_of : (g : List Node) (types : List ℕ) (n b : ℕ) → types_of g ≡ types → slice_get types n ≡ Some b → agent_at g n ≡ Some b
typed_of g types n b same is = agent_at-types g n ∙ ap (λ (ts : List ℕ). slice_get ts n) same ∙ is

-- at each site the row's tests imply the root's
pub row_implies_root : (sig : List TypeEntry) (family : Family) (row : Row) → IsFamily sig family → IsRow sig family row → (k v : ℕ) → ImpliesThere (row_pattern sig family row) (root sig family) k v
row_implies_root sig (Parallel a x u b y w) Same ok valid k v =
    let tests = TestsBond-root_of sig (same a x u b y w) (IsShape-same sig a x u b y w ok) in
    let typed = typed_of _ _ 1 b (types_of-root sig (same a x u b y w)) refl in
    parallel_implies sig a x u b y w ok _ 1 1 tests.0.first tests.1.0.first typed typed k v
row_implies_root sig (Parallel a x u b y w) Different ok valid k v =
    let tests = TestsBond-root_of sig (different a x u b y w) (IsShape-different sig a x u b y w ok) in
    parallel_implies sig a x u b y w ok _ 1 2 tests.0.first tests.1.0.first (typed_of _ _ 1 b (types_of-root sig (different a x u b y w)) refl) (typed_of _ _ 2 b (types_of-root sig (different a x u b y w)) refl) k v
row_implies_root sig (Parallel a x u b y w) (Locals locals) ok valid k v = absurd valid
row_implies_root sig family (Locals locals) ok valid k v = pattern_implies sig (shape_of family) (IsShape-of sig family ok) locals k v
row_implies_root sig family row ok valid k v = absurd valid

-- ---- each later node has a bond to an earlier one

pub length_of : (g : List Node) (types : List ℕ) → types_of g ≡ types → length g ≡ length types
length_of g types same = length-types g ∙ ap length same

IsJoined-pattern_of : (sig : List TypeEntry) (shape : Shape) → IsShape sig shape → (locals : List Local) → IsJoined (pattern_of sig shape locals)
IsJoined-pattern_of sig shape ok locals n within =
    let inside : suc n < length shape.types = let long = length_of _ _ (types_of-pattern sig shape locals) in omega arith in
    let b = ok.joined n inside in
    let tests = All-at (TestsBond (root_of sig shape)) shape.bonds b.1.0 b.0 (TestsBond-root_of sig shape ok) b.1.1 in
    let end = second_end shape.bonds b.1.0 b.0 b.1.1 in
    let kept = SameTests-with_columns (root_of sig shape) shape.columns locals b.0.second (apart_from_right (ends shape.bonds) shape.columns end.0 b.0.second ok.apart end.1) in
    (b.0.first.node, b.0.second.site, b.0.first.site, (let before = b.3 in omega arith), rw (← b.2) (kept.link ∙ tests.second))

pub IsJoined-row_pattern : (sig : List TypeEntry) (family : Family) (row : Row) → IsFamily sig family → IsRow sig family row → IsJoined (row_pattern sig family row)
IsJoined-row_pattern sig (Parallel a x u b y w) Same ok valid = IsJoined-pattern_of sig _ (IsShape-same sig a x u b y w ok) []
IsJoined-row_pattern sig (Parallel a x u b y w) Different ok valid = IsJoined-pattern_of sig _ (IsShape-different sig a x u b y w ok) []
IsJoined-row_pattern sig (Parallel a x u b y w) (Locals locals) ok valid = absurd valid
IsJoined-row_pattern sig family (Locals locals) ok valid = IsJoined-pattern_of sig (shape_of family) (IsShape-of sig family ok) locals
IsJoined-row_pattern sig family row ok valid = absurd valid

-- ---- the first node

some_within : (g : List Node) (n a : ℕ) → agent_at g n ≡ Some a → n < length g
unfolding agent_at
some_within g n a e = let node = some_map (λ (node : Node). node.agent) (slice_get g n) a e in slice_get_within g n node.0 node.1

nowhere : (c a : ℕ) → type_in [] c ≡ Some a → ⊥
unfolding type_in agent_in
nowhere c a e = cc

first_of_types : (g : List Node) (types : List ℕ) → types_of g ≡ types → 0 < length types → (a : ℕ) × (agent_at g 0 ≡ Some a)
first_of_types g types same some = let a = some_at types 0 some in (a.0, typed_of g types 0 a.0 same a.1)

pub first_node : (sig : List TypeEntry) (family : Family) (row : Row) → IsRow sig family row → (a : ℕ) × (agent_at (row_pattern sig family row) 0 ≡ Some a)
first_node sig (Parallel a x u b y w) Same valid = first_of_types _ _ (types_of-root sig (same a x u b y w)) (omega arith)
first_node sig (Parallel a x u b y w) Different valid = first_of_types _ _ (types_of-root sig (different a x u b y w)) (omega arith)
first_node sig (Parallel a x u b y w) (Locals locals) valid = absurd valid
first_node sig family (Locals locals) valid = first_of_types _ _ (types_of-pattern sig (shape_of family) locals) (some_types family)
first_node sig family row valid = absurd valid

-- no row occurs in the empty mixture
pub Occurs-[] : (sig : List TypeEntry) (family : Family) (row : Row) → IsRow sig family row → Occurs sig family row [] → ⊥
Occurs-[] sig family row valid occurs =
    let node = first_node sig family row valid in
    let emb = occurs.1 in
    let inside : 0 < length (row_pattern sig family row) = some_within (row_pattern sig family row) 0 node.0 node.1 in
    let cell = some_at occurs.0 0 (rw emb.count inside) in
    nowhere cell.0 node.0 (emb.types 0 cell.0 node.0 cell.1 node.1)
