-- Which sites exist at the nodes where a root stands.
use Rattle.std.proofs.Common.{◌≡◌, ◌↔◌, ℕ, zero, suc, List, [], ◌∷◌, refl}
use Rattle.std.specs.Prelude.{Some, None, slice_get, IsTrue, false}
use Rattle.std.specs.Option.{option_map_or}
use Rattle.kasa_graph.specs.Lists.{Has}
use Rattle.kasa_graph.proofs.ListLemmas.{Has-left, Has-right}
use Rattle.kasa_graph.specs.declared.pattern.LinkTest.{LinkTest}
use Rattle.kasa_graph.specs.declared.pattern.LinkTest.TheVariants.{Partner, To}
use Rattle.kasa_graph.specs.declared.pattern.Node.{Node}
use Rattle.kasa_graph.specs.Signature.{TypeEntry, HasSite}
use Rattle.kasa_graph.specs.Pattern.{agent_at, link_test, HasNodeSite, LinkImplies}
use Rattle.kasa_families.specs.declared.family.Family.{Family}
use Rattle.kasa_families.specs.declared.family.Family.TheVariants.{View, Across, Parallel, Chain}
use Rattle.kasa_families.specs.declared.row.Row.{Row}
use Rattle.kasa_families.specs.declared.row.Row.TheVariants.{Locals, Same, Different}
use Rattle.kasa_families.specs.declared.shape.Bond.{Bond}
use Rattle.kasa_families.specs.Compatible.{IsCompatible}
use Rattle.kasa_families.specs.declared.shape.NodeSite.{NodeSite}
use Rattle.kasa_families.specs.Shape.{Shape, IsShape, Nth, at, ends, root_of}
use Rattle.kasa_families.specs.Place.{IsPlace}
use Rattle.kasa_families.specs.Family.{shape_of, root}
use Rattle.kasa_families.specs.Spot.{led_along, root_bonds, place_of, StandsAt, HasNamedSites}
use Rattle.kasa_families.proofs.ColumnLemmas.{nth_of, All-at, All-left, All-right, first_end, types_of-root}
use Rattle.kasa_families.proofs.FamilyShape.{IsShape-of}
use Rattle.kasa_families.proofs.RowPattern.{typed_of, types_of-parallel_root, link_test-parallel_root_first, link_test-parallel_root_second}

-- where the root of a shape stands, the sites of its columns exist
typed_column : (sig : List TypeEntry) (shape : Shape) → IsShape sig shape → (g : List Node) (place : List ℕ) → IsPlace (root_of sig shape) g place → (s : NodeSite) → Has shape.columns s → (n : ℕ) → slice_get place s.node ≡ Some n → (a : ℕ) × (slice_get shape.types s.node ≡ Some a) × (agent_at g n ≡ Some a)
typed_column sig shape ok g place stands s has n on =
    let sited = All-at _ shape.columns has.0 s (All-right _ (ends shape.bonds) shape.columns ok.sites) has.1 in
    let a = nth_of shape.types s.node (λ a. HasSite sig a s.site) sited in
    (a.0, a.1, stands.types s.node n a.0 on (typed_of (root_of sig shape) shape.types s.node a.0 (types_of-root sig shape) a.1))

pub HasNodeSite-column : (g : List Node) (family : Family) (place : List ℕ) → StandsAt g family place → HasNamedSites g family → (s : NodeSite) → Has (shape_of family).columns s → (n : ℕ) → slice_get place s.node ≡ Some n → HasNodeSite g n s.site
HasNodeSite-column g (Parallel a x u b y w) place stands named s has n on = absurd (let e = has.1 in cc)
HasNodeSite-column g family place stands named s has n on =
    let a = typed_column stands.sig (shape_of family) (IsShape-of stands.sig family stands.valid) g place stands.stands s has n on in
    named n a.0 s.site a.2 (s, Has-right (ends (shape_of family).bonds) (shape_of family).columns s has, a.1, refl)

-- where a root stands, each site of its bonds exists at the place of its node
pub HasNodeSite-bond : (g : List Node) (family : Family) (place : List ℕ) → StandsAt g family place → HasNamedSites g family → (k : ℕ) (b : Bond) → slice_get (root_bonds family) k ≡ Some b → (n : ℕ) → slice_get place b.first.node ≡ Some n → HasNodeSite g n b.first.site
HasNodeSite-bond g (Parallel a x u b' y w) place stands named k b is n on = absurd cc
HasNodeSite-bond g family place stands named k b is n on =
    let ok = IsShape-of stands.sig family stands.valid in
    let shape = shape_of family in
    let has = first_end shape.bonds k b is in
    let P : NodeSite → Type 0 = λ s. Nth shape.types s.node (λ a. HasSite stands.sig a s.site) in
    let sited = All-at P (ends shape.bonds) has.0 b.first (All-left P (ends shape.bonds) shape.columns ok.sites) has.1 in
    let a = nth_of shape.types b.first.node (λ a. HasSite stands.sig a b.first.site) sited in
    let typed = stands.stands.types b.first.node n a.0 on (typed_of (root_of stands.sig shape) shape.types b.first.node a.0 (types_of-root stands.sig shape) a.1) in
    named n a.0 b.first.site typed (b.first, Has-left (ends shape.bonds) shape.columns b.first has, a.1, refl)

-- a test that implies a partner leads to a node of its type
leads_to : (g : List Node) (l : LinkTest) (b y m t : ℕ) → LinkImplies g l (Partner b y) → l ≡ To m t → agent_at g m ≡ Some b
leads_to g l b y m t implied e = let h : LinkImplies g (To m t) (Partner b y) = rw e at implied in h.0

module _ (g : List Node) (a x u b y w n : ℕ) (stands : StandsAt g (Parallel a x u b y w) (n ∷ [])) (named : HasNamedSites g (Parallel a x u b y w)) where
  typed_first : agent_at g n ≡ Some a
  typed_first = stands.stands.types 0 n a refl (typed_of (root stands.sig (Parallel a x u b y w)) (a ∷ []) 0 a (types_of-parallel_root stands.sig a x u b y w) refl)

  pub HasNodeSite-first_bond : HasNodeSite g n x
  HasNodeSite-first_bond = named n a x typed_first (at 0 x, (0, refl), refl, refl)

  pub HasNodeSite-second_bond : HasNodeSite g n u
  HasNodeSite-second_bond = named n a u typed_first (at 0 u, (2, refl), refl, refl)

  -- the nodes to which the bonds lead have both far sites
  pub HasNodeSite-first_far : (m t : ℕ) → link_test g n x ≡ To m t → HasNodeSite g m w
  HasNodeSite-first_far m t e =
      let implied = rw (link_test-parallel_root_first stands.sig a x u b y w stands.valid) at (stands.stands.links 0 n x refl) in
      named m b w (leads_to g (link_test g n x) b y m t implied e) (at 1 w, (3, refl), refl, refl)

  pub HasNodeSite-second_far : (m t : ℕ) → link_test g n u ≡ To m t → HasNodeSite g m y
  HasNodeSite-second_far m t e =
      let implied = rw (link_test-parallel_root_second stands.sig a x u b y w stands.valid) at (stands.stands.links 0 n u refl) in
      named m b y (leads_to g (link_test g n u) b w m t implied e) (at 1 y, (1, refl), refl, refl)

-- a parallel family's root stands at one node
pub not_fits : (g : List Node) (a x u b y w n m : ℕ) (place : List ℕ) (row : Row) → IsTrue false ↔ IsCompatible g (Parallel a x u b y w) (n ∷ m ∷ place) row
not_fits g a x u b y w n m place (Locals locals) = (λ e. absurd cc, λ h. absurd h)
not_fits g a x u b y w n m place Same = (λ e. absurd cc, λ h. absurd h)
not_fits g a x u b y w n m place Different = (λ e. absurd cc, λ h. absurd h)

-- ---- the place of a spot

pub place_of-one : (g : List Node) (family : Family) (n : ℕ) → place_of g family (record { first = n; second = None }) ≡ n ∷ []
place_of-one g (View a sites) n = refl
place_of-one g (Across a x p b y q) n = refl
place_of-one g (Parallel a x u b y w) n = refl
place_of-one g (Chain a x p b y z c w q) n = refl

pub place_of-two : (g : List Node) (family : Family) (n m : ℕ) → place_of g family (record { first = n; second = Some m }) ≡ n ∷ m ∷ option_map_or (λ b. led_along g (n ∷ m ∷ []) b) (slice_get (root_bonds family) 1) []
place_of-two g (View a sites) n m = refl
place_of-two g (Across a x p b y q) n m = refl
place_of-two g (Parallel a x u b y w) n m = refl
place_of-two g (Chain a x p b y z c w q) n m = refl

-- the first two nodes of a place stand where they stood
pub first_two : (n m i p : ℕ) (more : List ℕ) → slice_get (n ∷ m ∷ []) i ≡ Some p → slice_get (n ∷ m ∷ more) i ≡ Some p
first_two n m zero p more e = e
first_two n m (suc zero) p more e = e
first_two n m (suc (suc i)) p more e = absurd cc

pub HasNodeSite-third : (g : List Node) (family : Family) (n m : ℕ) → StandsAt g family (place_of g family (record { first = n; second = Some m })) → HasNamedSites g family → (b : Bond) (p : ℕ) → slice_get (root_bonds family) 1 ≡ Some b → slice_get (n ∷ m ∷ []) b.first.node ≡ Some p → HasNodeSite g p b.first.site
HasNodeSite-third g family n m stands named b p is on = HasNodeSite-bond g family (n ∷ m ∷ option_map_or (λ b. led_along g (n ∷ m ∷ []) b) (slice_get (root_bonds family) 1) []) (rw (place_of-two g family n m) at stands) named 1 b is p (first_two n m b.first.node p (option_map_or (λ b. led_along g (n ∷ m ∷ []) b) (slice_get (root_bonds family) 1) []) on)
