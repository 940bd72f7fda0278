-- The patterns of roots and rows are valid over the signature.
use Rattle.std.proofs.Common.{◌≡◌, ℕ, zero, suc, ◌<◌, List, [], ◌∷◌, ◌++◌, length, map, refl, ap, ◌∙◌}
use Rattle.std.specs.Prelude.{Option, Some, None, slice_get}
use Rattle.std.specs.List.{AllByRecursion}
use Rattle.kasa_graph.specs.declared.pattern.StateTest.TheVariants as state
use Rattle.kasa_graph.specs.declared.pattern.LinkTest.TheVariants as link
use Rattle.kasa_graph.specs.declared.pattern.Node.{Node}
use Rattle.kasa_graph.specs.Signature.{TypeEntry, state_counts, HasSite, HasState}
use Rattle.kasa_graph.specs.Pattern.{agent_at, link_test, types_of, HasNodeSite, IsNoBond, blank_node, with_link, IsPatternOver}
use Rattle.kasa_graph.proofs.PatternLemmas.{link_test-with_link_other, HasNodeSite-with_link, link_test-with_state}
use Rattle.kasa_graph.proofs.TestLemmas.{agent_at-types, HasNodeSite-with_state, HasNodeSite-blank, link_test-blank}
use Rattle.kasa_graph.proofs.OverLemmas.{AreKnown-[], AreKnown, AreKnown-cons, IsPatternOver-blank, IsPatternOver-with_state, IsPatternOver-with_link, IsPatternOver-with_bond}
use Rattle.kasa_families.specs.declared.family.Family.{Family}
use Rattle.kasa_families.specs.declared.family.Family.TheVariants.{Parallel}
use Rattle.kasa_families.specs.declared.row.LocalLink.{LocalLink}
use Rattle.kasa_families.specs.declared.row.LocalLink.TheVariants.{Free, Partner}
use Rattle.kasa_families.specs.declared.row.Local.{Local}
use Rattle.kasa_families.specs.declared.row.Row.{Row}
use Rattle.kasa_families.specs.declared.row.Row.TheVariants.{Locals, Same, Different}
use Rattle.kasa_families.specs.declared.shape.NodeSite.{NodeSite}
use Rattle.kasa_families.specs.declared.shape.Bond.{Bond}
use Rattle.kasa_families.specs.Local.{IsLocalState, IsLocalLink, IsLocal, local_state_test, local_link_test, with_local}
use Rattle.kasa_families.specs.Join.{IsOpen}
use Rattle.kasa_families.specs.Shape.{Shape, ends, named, AreApart, IsShape, with_bonds, root_of, with_columns, pattern_of, AreColumns}
use Rattle.kasa_families.specs.Family.{IsFamily, shape_of, root}
use Rattle.kasa_families.specs.Row.{IsRow}
use Rattle.kasa_families.specs.Pattern.{row_pattern}
use Rattle.kasa_families.proofs.RowTests.{types_of-with_local}
use Rattle.kasa_families.proofs.ColumnLemmas.{nth_of, All-at, same_site, types_of-root, All-left, AreApart-left, AreApart-right, bonded, AreOpen-with_bond, AreOpen-with_local, AreOpen-blank}
use Rattle.kasa_families.proofs.LeftLemmas.{BondsLeft}
use Rattle.kasa_families.proofs.FamilyShape.{IsShape-of, IsShape-same, IsShape-different, HasSite-known}

-- ---- local states

pub IsNoBond-local_link_test : (l : LocalLink) → IsNoBond (local_link_test l)
IsNoBond-local_link_test Free = tt
IsNoBond-local_link_test (Partner b y) = tt

tested_state : (sig : List TypeEntry) (a s u : ℕ) (k l : Option ℕ) → slice_get (state_counts sig a) s ≡ k → IsLocalState k l → local_state_test l ≡ state.Is u → HasState sig a s u
tested_state sig a s u k None is ok e = absurd cc
tested_state sig a s u None (Some w) is ok e = absurd ok
tested_state sig a s u (Some zero) (Some w) is ok e = absurd cc
tested_state sig a s u (Some (suc k)) (Some w) is ok e =
    let same : w ≡ u = cc in
    let stands : ok.0 ≡ u = let h = ok.1 in cc in
    (suc k, is, rw stands at ok.2)

tested_link : (sig : List TypeEntry) (l : LocalLink) (b y : ℕ) → IsLocalLink sig l → local_link_test l ≡ link.Partner b y → HasSite sig b y
tested_link sig Free b y ok e = absurd cc
tested_link sig (Partner c z) b y ok e = let type : c ≡ b = cc in let site : z ≡ y = cc in rw (type, site) at ok

IsPatternOver-with_local : (sig : List TypeEntry) (n a : ℕ) (g : List Node) (s : ℕ) (l : Local) → IsPatternOver sig g → agent_at g n ≡ Some a → HasNodeSite g n s → IsNoBond (link_test g n s) → IsLocal sig a s l → IsPatternOver sig (with_local g n s l)
IsPatternOver-with_local sig n a g s l over typed has unbound ok =
    IsPatternOver-with_link sig _ n s (local_link_test l.link)
    (IsPatternOver-with_state sig g n s (local_state_test l.state) over has (λ u b e is. let same : a ≡ b = cc in rw same at (tested_state sig a s u _ l.state refl ok.state e)))
    (HasNodeSite-with_state g n s n s (local_state_test l.state) has)
    (rw (link_test-with_state g n s (local_state_test l.state) n s) unbound) (IsNoBond-local_link_test l.link) (λ b y e. tested_link sig l.link b y ok.link e)

-- ---- shapes

module _ (sig : List TypeEntry) where
  -- bonds between open sites; the columns stay open
  IsPatternOver-with_bonds : (g : List Node) (bonds : List Bond) (columns : List NodeSite) → AreApart (ends bonds ++ columns) → AllByRecursion (IsOpen g) (ends bonds ++ columns) → IsPatternOver sig g → IsPatternOver sig (with_bonds g bonds) × AllByRecursion (IsOpen (with_bonds g bonds)) columns
  IsPatternOver-with_bonds g [] columns apart are_open over = (over, are_open)
  IsPatternOver-with_bonds g (b ∷ bonds) columns apart are_open over =
      IsPatternOver-with_bonds (bonded g b) bonds columns apart.1.1 (AreOpen-with_bond g b (ends bonds ++ columns) apart.0.1 apart.1.0 are_open.1.1)
      (IsPatternOver-with_bond sig g b.first.node b.first.site b.second.node b.second.site over are_open.0.0 are_open.1.0.0 (λ e f. apart.0.0 (same_site b.first b.second e f)) are_open.0.1 are_open.1.0.1)

  IsPatternOver-with_columns : (types : List ℕ) (g : List Node) (columns : List NodeSite) (locals : List Local) → types_of g ≡ types → AreApart columns → AllByRecursion (IsOpen g) columns → AreColumns sig types columns locals → IsPatternOver sig g → IsPatternOver sig (with_columns g columns locals)
  IsPatternOver-with_columns types g [] locals same apart are_open valid over = over
  IsPatternOver-with_columns types g (s ∷ columns) [] same apart are_open valid over = over
  IsPatternOver-with_columns types g (s ∷ columns) (l ∷ locals) same apart are_open valid over =
      let a = nth_of types s.node (λ a. IsLocal sig a s.site l) valid.0 in
      let typed : agent_at g s.node ≡ Some a.0 = agent_at-types g s.node ∙ ap (λ (ts : List ℕ). slice_get ts s.node) same ∙ a.1 in
      IsPatternOver-with_columns types (with_local g s.node s.site l) columns locals (types_of-with_local g s.node s.site l ∙ same) apart.1 (AreOpen-with_local g s l columns apart.0 are_open.1) valid.1
      (IsPatternOver-with_local sig s.node a.0 g s.site l over typed are_open.0.0 are_open.0.1 a.2)

  module _ (shape : Shape) (ok : IsShape sig shape) where
    pub AreKnown-shape : AreKnown sig shape.types
    AreKnown-shape n a e = All-at (λ a. a < length sig) shape.types n a ok.types e

    pub AreOpen-named : AllByRecursion (IsOpen (map (blank_node sig) shape.types)) (named shape)
    AreOpen-named = AreOpen-blank sig shape.types (named shape) ok.sites

    -- all bonds are left to put in
    pub BondsLeft-root : BondsLeft (map (blank_node sig) shape.types) (map (blank_node sig) shape.types) shape.bonds shape.bonds
    BondsLeft-root = record { same = refl; apart = AreApart-left (ends shape.bonds) shape.columns ok.apart; unbound = All-left (IsOpen (map (blank_node sig) shape.types)) (ends shape.bonds) shape.columns AreOpen-named }

    over_root : IsPatternOver sig (root_of sig shape) × AllByRecursion (IsOpen (root_of sig shape)) shape.columns
    over_root = IsPatternOver-with_bonds (map (blank_node sig) shape.types) shape.bonds shape.columns ok.apart AreOpen-named (IsPatternOver-blank sig shape.types AreKnown-shape)

    pub IsPatternOver-root_of : IsPatternOver sig (root_of sig shape)
    IsPatternOver-root_of = over_root.0

    pub AreOpen-columns : AllByRecursion (IsOpen (root_of sig shape)) shape.columns
    AreOpen-columns = over_root.1

    pub IsPatternOver-pattern_of : (locals : List Local) → AreColumns sig shape.types shape.columns locals → IsPatternOver sig (pattern_of sig shape locals)
    IsPatternOver-pattern_of locals valid =
        IsPatternOver-with_columns shape.types (root_of sig shape) shape.columns locals (types_of-root sig shape) (AreApart-right (ends shape.bonds) shape.columns ok.apart) AreOpen-columns valid IsPatternOver-root_of

-- ---- parallel families

pub IsNoBond-blank : (sig : List TypeEntry) (types : List ℕ) (n s : ℕ) → IsNoBond (link_test (map (blank_node sig) types) n s)
IsNoBond-blank sig types n s = rw (link_test-blank sig types n s) tt

module _ (sig : List TypeEntry) (a x u b y w : ℕ) (ok : IsFamily sig (Parallel a x u b y w)) where
  pub AreKnown-alone : AreKnown sig (a ∷ [])
  AreKnown-alone = AreKnown-cons sig a [] (HasSite-known sig a x ok.0) (AreKnown-[] sig)

  -- the root's second test comes to a site without one
  pub HasNodeSite-parallel_second : HasNodeSite (with_link (map (blank_node sig) (a ∷ [])) 0 x (link.Partner b y)) 0 u
  HasNodeSite-parallel_second = HasNodeSite-with_link _ 0 x 0 u (link.Partner b y) (HasNodeSite-blank sig (a ∷ []) 0 u a refl ok.1)

  pub IsNoBond-parallel_second : IsNoBond (link_test (with_link (map (blank_node sig) (a ∷ [])) 0 x (link.Partner b y)) 0 u)
  IsNoBond-parallel_second = rw (link_test-with_link_other (map (blank_node sig) (a ∷ [])) 0 x 0 u (link.Partner b y) (λ _. ok.5)) (IsNoBond-blank sig (a ∷ []) 0 u)

  IsPatternOver-parallel_root : IsPatternOver sig (root sig (Parallel a x u b y w))
  IsPatternOver-parallel_root =
      IsPatternOver-with_link sig _ 0 u (link.Partner b w)
      (IsPatternOver-with_link sig _ 0 x (link.Partner b y) (IsPatternOver-blank sig (a ∷ []) AreKnown-alone) (HasNodeSite-blank sig (a ∷ []) 0 x a refl ok.0) (IsNoBond-blank sig (a ∷ []) 0 x) tt (partner_known y ok.2))
      HasNodeSite-parallel_second IsNoBond-parallel_second tt (partner_known w ok.3)
    where
      partner_known : (v : ℕ) → HasSite sig b v → (c z : ℕ) → link.Partner b v ≡ link.Partner c z → HasSite sig c z
      partner_known v has c z e = let type : b ≡ c = cc in let site : v ≡ z = cc in rw (type, site) at has

-- ---- families

pub IsPatternOver-root : (sig : List TypeEntry) (family : Family) → IsFamily sig family → IsPatternOver sig (root sig family)
IsPatternOver-root sig (Parallel a x u b y w) ok = IsPatternOver-parallel_root sig a x u b y w ok
IsPatternOver-root sig family ok = IsPatternOver-root_of sig (shape_of family) (IsShape-of sig family ok)

pub IsPatternOver-row_pattern : (sig : List TypeEntry) (family : Family) (row : Row) → IsFamily sig family → IsRow sig family row → IsPatternOver sig (row_pattern sig family row)
IsPatternOver-row_pattern sig (Parallel a x u b y w) Same ok valid = IsPatternOver-root_of sig _ (IsShape-same sig a x u b y w ok)
IsPatternOver-row_pattern sig (Parallel a x u b y w) Different ok valid = IsPatternOver-root_of sig _ (IsShape-different sig a x u b y w ok)
IsPatternOver-row_pattern sig (Parallel a x u b y w) (Locals locals) ok valid = absurd valid
IsPatternOver-row_pattern sig family (Locals locals) ok valid = IsPatternOver-pattern_of sig (shape_of family) (IsShape-of sig family ok) locals valid
IsPatternOver-row_pattern sig family row ok valid = absurd valid
