-- What bonds and local states at columns change in a pattern.
use Rattle.std.proofs.Common.{arith, length, ◌≡◌, ◌≢◌, ℕ, zero, suc, ◌⊎◌, inl, inr, List, [], ◌∷◌, ◌++◌, refl, sym, ap, ◌∙◌, map, IsTrue, ◌↔◌, Bool, false}
use Rattle.std.specs.Prelude.{Some, None, slice_get}
use Rattle.std.specs.List.{AllByRecursion, AllZip}
use Rattle.kasa_graph.specs.declared.pattern.Node.{Node}
use Rattle.kasa_graph.specs.Signature.{TypeEntry, HasSite}
use Rattle.kasa_graph.specs.declared.pattern.LinkTest.TheVariants.{To}
use Rattle.kasa_graph.specs.Pattern.{blank_node, state_test, link_test, types_of, HasNodeSite, with_bond}
use Rattle.kasa_graph.proofs.TestLemmas.{types_of-blank, types_of-with_bond, HasNodeSite-blank, HasNodeSite-with_bond, link_test-blank, state_test-with_bond, link_test-with_bond_other, link_test-with_bond_first, link_test-with_bond_second}
use Rattle.kasa_graph.specs.Lists.{Has}
use Rattle.kasa_graph.proofs.PatternLemmas.{same_site_or_not}
use Rattle.kasa_families.specs.declared.row.Local.{Local}
use Rattle.kasa_families.specs.declared.shape.NodeSite.{NodeSite}
use Rattle.kasa_families.specs.declared.shape.Bond.{Bond}
use Rattle.kasa_families.specs.Local.{local_state_test, local_link_test, with_local}
use Rattle.kasa_families.specs.Join.{IsOpen}
use Rattle.kasa_families.specs.Shape.{Shape, Nth, ends, AreApart, IsShape, with_bonds, root_of, with_columns, pattern_of}
use Rattle.kasa_families.proofs.RowTests.{types_of-with_local, HasNodeSite-with_local, state_test-with_local_same, link_test-with_local_same, state_test-with_local_other, link_test-with_local_other}

-- ---- elements by number

pub nth_of : {X : Type 0} (xs : List X) (n : ℕ) (P : X → Type 0) → Nth xs n P → (x : X) × (slice_get xs n ≡ Some x) × P x
nth_of [] n P h = absurd h
nth_of (x ∷ xs) zero P h = (x, refl, h)
nth_of (x ∷ xs) (suc n) P h = nth_of xs n P h

pub to_nth : {X : Type 0} (xs : List X) (n : ℕ) (P : X → Type 0) (x : X) → slice_get xs n ≡ Some x → P x → Nth xs n P
to_nth [] n P x e h = absurd cc
to_nth (y ∷ xs) zero P x e h = let same : x ≡ y = cc in rw same at h
to_nth (y ∷ xs) (suc n) P x e h = to_nth xs n P x e h

pub Nth-to : {X : Type 0} (xs : List X) (n : ℕ) (P Q : X → Type 0) → ((x : X) → P x → Q x) → Nth xs n P → Nth xs n Q
Nth-to [] n P Q to h = h
Nth-to (x ∷ xs) zero P Q to h = to x h
Nth-to (x ∷ xs) (suc n) P Q to h = Nth-to xs n P Q to h

-- a test of the n-th element
pub nth_none : {X : Type 0} (xs : List X) (n : ℕ) (P : X → Type 0) → slice_get xs n ≡ None → IsTrue false ↔ Nth xs n P
nth_none xs n P e = (λ yes. absurd cc, λ h. absurd (let x = nth_of xs n P h in let f = x.1 in cc))

pub nth_some : {X : Type 0} (xs : List X) (n : ℕ) (P : X → Type 0) (x : X) (b : Bool) → slice_get xs n ≡ Some x → IsTrue b ↔ P x → IsTrue b ↔ Nth xs n P
nth_some xs n P x b e told = (λ yes. to_nth xs n P x e (told.0 yes), λ h. told.1 (let y = nth_of xs n P h in let same : y.0 ≡ x = let f = y.1 in cc in rw same at y.2))

pub All-left : {X : Type 0} (P : X → Type 0) (xs ys : List X) → AllByRecursion P (xs ++ ys) → AllByRecursion P xs
All-left P [] ys all = tt
All-left P (x ∷ xs) ys all = (all.0, All-left P xs ys all.1)

pub All-right : {X : Type 0} (P : X → Type 0) (xs ys : List X) → AllByRecursion P (xs ++ ys) → AllByRecursion P ys
All-right P [] ys all = all
All-right P (x ∷ xs) ys all = All-right P xs ys all.1

pub All-to : {X : Type 0} (P Q : X → Type 0) (xs : List X) → ((x : X) → P x → Q x) → AllByRecursion P xs → AllByRecursion Q xs
All-to P Q [] to all = tt
All-to P Q (x ∷ xs) to all = (to x all.0, All-to P Q xs to all.1)

pub AreApart-right : (xs ys : List NodeSite) → AreApart (xs ++ ys) → AreApart ys
AreApart-right [] ys apart = apart
AreApart-right (x ∷ xs) ys apart = AreApart-right xs ys apart.1

pub All-at : {X : Type 0} (P : X → Type 0) (xs : List X) (n : ℕ) (x : X) → AllByRecursion P xs → slice_get xs n ≡ Some x → P x
All-at P [] n x all e = absurd cc
All-at P (y ∷ xs) zero x all e = let same : y ≡ x = cc in rw same at all.0
All-at P (y ∷ xs) (suc n) x all e = All-at P xs n x all.1 e

pub same_site : (s t : NodeSite) → s.node ≡ t.node → s.site ≡ t.site → s ≡ t
same_site s t e f = λ i. record { node = e i; site = f i }

-- a site is one of a list, or stands apart from it
pub one_or_apart : (s : NodeSite) (sites : List NodeSite) → Has sites s ⊎ AllByRecursion (λ t. s ≢ t) sites
one_or_apart s [] = inr tt
one_or_apart s (t ∷ sites) =
    elim (same_site_or_not t.node t.site s.node s.site) [
      | inl e ↦ inl (0, ap Some (same_site t s e.0 e.1))
      | inr ne ↦ elim (one_or_apart s sites) [
        | inl has ↦ inl (suc has.0, has.1)
        | inr apart ↦ inr (λ e. ne (ap (λ (r : NodeSite). r.node) (sym e)) (ap (λ (r : NodeSite). r.site) (sym e)), apart)
      ]
    ]

-- a site of one list stands apart from the other
pub apart_from_left : (xs ys : List NodeSite) (s : NodeSite) → AreApart (xs ++ ys) → Has ys s → AllByRecursion (λ t. s ≢ t) xs
apart_from_left [] ys s apart has = tt
apart_from_left (x ∷ xs) ys s apart has = (λ e. All-at (λ t. x ≢ t) ys has.0 s (All-right (λ t. x ≢ t) xs ys apart.0) has.1 (sym e), apart_from_left xs ys s apart.1 has)

pub apart_from_right : (xs ys : List NodeSite) (n : ℕ) (s : NodeSite) → AreApart (xs ++ ys) → slice_get xs n ≡ Some s → AllByRecursion (λ t. s ≢ t) ys
apart_from_right [] ys n s apart e = absurd cc
apart_from_right (x ∷ xs) ys zero s apart e = let same : x ≡ s = cc in All-to (λ t. x ≢ t) (λ t. s ≢ t) ys (λ t ne f. ne (same ∙ f)) (All-right (λ t. x ≢ t) xs ys apart.0)
apart_from_right (x ∷ xs) ys (suc n) s apart e = apart_from_right xs ys n s apart.1 e

pub AreApart-left : (xs ys : List NodeSite) → AreApart (xs ++ ys) → AreApart xs
AreApart-left [] ys apart = tt
AreApart-left (x ∷ xs) ys apart = (All-left (λ t. x ≢ t) xs ys apart.0, AreApart-left xs ys apart.1)

-- an end is one of a bond
pub end_of : (bonds : List Bond) (s : NodeSite) → Has (ends bonds) s → (b : Bond) × Has bonds b × ((b.first ≡ s) ⊎ (b.second ≡ s))
end_of [] s (k, e) = absurd cc
end_of (b ∷ bonds) s (zero, e) = (b, (0, refl), inl cc)
end_of (b ∷ bonds) s (suc zero, e) = (b, (0, refl), inr cc)
end_of (b ∷ bonds) s (suc (suc k), e) = let c = end_of bonds s (k, e) in (c.0, (suc c.1.0, c.1.1), c.2)

-- the ends of a bond are among the ends of all
pub first_end : (bonds : List Bond) (n : ℕ) (b : Bond) → slice_get bonds n ≡ Some b → Has (ends bonds) b.first
first_end [] n b e = absurd cc
first_end (c ∷ bonds) zero b e = let same : c ≡ b = cc in (0, ap Some (ap (λ (r : Bond). r.first) same))
first_end (c ∷ bonds) (suc n) b e = let has = first_end bonds n b e in (suc (suc has.0), has.1)

pub second_end : (bonds : List Bond) (n : ℕ) (b : Bond) → slice_get bonds n ≡ Some b → Has (ends bonds) b.second
second_end [] n b e = absurd cc
second_end (c ∷ bonds) zero b e = let same : c ≡ b = cc in (1, ap Some (ap (λ (r : Bond). r.second) same))
second_end (c ∷ bonds) (suc n) b e = let has = second_end bonds n b e in (suc (suc has.0), has.1)

-- ---- the sites of a pattern

-- the pattern has the site
abbrev pub IsIn : List Node → NodeSite → Type 0
IsIn g s = HasNodeSite g s.node s.site

pub types_of-with_bonds : (g : List Node) (bonds : List Bond) → types_of (with_bonds g bonds) ≡ types_of g
types_of-with_bonds g [] = refl
types_of-with_bonds g (b ∷ bonds) = types_of-with_bonds (with_bond g b.first.node b.first.site b.second.node b.second.site) bonds ∙ types_of-with_bond g b.first.node b.first.site b.second.node b.second.site

pub types_of-root : (sig : List TypeEntry) (shape : Shape) → types_of (root_of sig shape) ≡ shape.types
types_of-root sig shape = types_of-with_bonds _ shape.bonds ∙ types_of-blank sig shape.types

pub types_of-with_columns : (g : List Node) (columns : List NodeSite) (locals : List Local) → types_of (with_columns g columns locals) ≡ types_of g
types_of-with_columns g [] locals = refl
types_of-with_columns g (s ∷ columns) [] = refl
types_of-with_columns g (s ∷ columns) (l ∷ locals) = types_of-with_columns (with_local g s.node s.site l) columns locals ∙ types_of-with_local g s.node s.site l

pub types_of-pattern : (sig : List TypeEntry) (shape : Shape) (locals : List Local) → types_of (pattern_of sig shape locals) ≡ shape.types
types_of-pattern sig shape locals = types_of-with_columns (root_of sig shape) shape.columns locals ∙ types_of-root sig shape

pub IsIn-with_bonds : (g : List Node) (bonds : List Bond) (s : NodeSite) → IsIn g s → IsIn (with_bonds g bonds) s
IsIn-with_bonds g [] s has = has
IsIn-with_bonds g (b ∷ bonds) s has = IsIn-with_bonds (with_bond g b.first.node b.first.site b.second.node b.second.site) bonds s (HasNodeSite-with_bond g b.first.node b.first.site b.second.node b.second.site s.node s.site has)

-- the root has the sites that the shape names
pub IsIn-root : (sig : List TypeEntry) (shape : Shape) (s : NodeSite) → Nth shape.types s.node (λ a. HasSite sig a s.site) → IsIn (root_of sig shape) s
IsIn-root sig shape s h =
    let a = nth_of shape.types s.node (λ a. HasSite sig a s.site) h in
    IsIn-with_bonds _ shape.bonds s (HasNodeSite-blank sig shape.types s.node s.site a.0 a.1 a.2)

pub columns_in_root : (sig : List TypeEntry) (shape : Shape) → IsShape sig shape → AllByRecursion (IsIn (root_of sig shape)) shape.columns
columns_in_root sig shape ok =
    All-to _ (IsIn (root_of sig shape)) shape.columns (IsIn-root sig shape) (All-right _ (ends shape.bonds) shape.columns ok.sites)

pub AreIn-with_local : (g : List Node) (s : NodeSite) (l : Local) (columns : List NodeSite) → AllByRecursion (IsIn g) columns → AllByRecursion (IsIn (with_local g s.node s.site l)) columns
AreIn-with_local g s l columns has = All-to (IsIn g) (IsIn (with_local g s.node s.site l)) columns (λ t. HasNodeSite-with_local g s.node s.site l t.node t.site) has

-- ---- what a pattern tests

-- h tests at a site what g tests there
pub record SameTests (h g : List Node) (s : NodeSite) : Type 0 where
  pub state : state_test h s.node s.site ≡ state_test g s.node s.site
  pub link : link_test h s.node s.site ≡ link_test g s.node s.site

-- g tests a local state at a site
pub record TestsLocal (g : List Node) (s : NodeSite) (l : Local) : Type 0 where
  pub state : state_test g s.node s.site ≡ local_state_test l.state
  pub link : link_test g s.node s.site ≡ local_link_test l.link

-- local states elsewhere change nothing
pub SameTests-with_columns : (g : List Node) (columns : List NodeSite) (locals : List Local) (s : NodeSite) → AllByRecursion (λ t. s ≢ t) columns → SameTests (with_columns g columns locals) g s
SameTests-with_columns g [] locals s out = record { state = refl; link = refl }
SameTests-with_columns g (t ∷ columns) [] s out = record { state = refl; link = refl }
SameTests-with_columns g (t ∷ columns) (l ∷ locals) s out =
    let rest = SameTests-with_columns (with_local g t.node t.site l) columns locals s out.1 in
    let ne = λ (e : t.node ≡ s.node) (f : t.site ≡ s.site). out.0 (sym (same_site t s e f)) in record {
      state = rest.state ∙ state_test-with_local_other g t.node t.site l s.node s.site ne;
      link = rest.link ∙ link_test-with_local_other g t.node t.site l s.node s.site ne;
    }

-- the first of the local states stands at the first column
pub TestsLocal-with_columns : (g : List Node) (columns : List NodeSite) (locals : List Local) (s : NodeSite) (l : Local) → AllByRecursion (λ t. s ≢ t) columns → IsIn g s → TestsLocal (with_columns g (s ∷ columns) (l ∷ locals)) s l
TestsLocal-with_columns g columns locals s l out has =
    let rest = SameTests-with_columns (with_local g s.node s.site l) columns locals s out in record {
      state = rest.state ∙ state_test-with_local_same g s.node s.site l has;
      link = rest.link ∙ link_test-with_local_same g s.node s.site l has;
    }

-- each local state stands at its column
pub TestsLocals-with_columns : (g : List Node) (columns : List NodeSite) (locals : List Local) → length locals ≡ length columns → AreApart columns → AllByRecursion (IsIn g) columns → AllZip (TestsLocal (with_columns g columns locals)) columns locals
TestsLocals-with_columns g [] [] long apart has = tt
TestsLocals-with_columns g [] (l ∷ locals) long apart has = absurd (omega arith)
TestsLocals-with_columns g (s ∷ columns) [] long apart has = absurd (omega arith)
TestsLocals-with_columns g (s ∷ columns) (l ∷ locals) long apart has =
    (TestsLocal-with_columns g columns locals s l apart.0 has.0, TestsLocals-with_columns (with_local g s.node s.site l) columns locals (omega arith) apart.1 (AreIn-with_local g s l columns has.1))

-- ---- what bonds change

abbrev pub bonded : List Node → Bond → List Node
bonded g b = with_bond g b.first.node b.first.site b.second.node b.second.site

pub SameTests-with_bonds : (g : List Node) (bonds : List Bond) (s : NodeSite) → AllByRecursion (λ t. s ≢ t) (ends bonds) → SameTests (with_bonds g bonds) g s
SameTests-with_bonds g [] s out = record { state = refl; link = refl }
SameTests-with_bonds g (b ∷ bonds) s out =
    let rest = SameTests-with_bonds (bonded g b) bonds s out.1.1 in record {
      state = rest.state ∙ state_test-with_bond g b.first.node b.first.site b.second.node b.second.site s.node s.site;
      link = rest.link ∙ link_test-with_bond_other g b.first.node b.first.site b.second.node b.second.site s.node s.site (λ e f. out.0 (sym (same_site b.first s e f))) (λ e f. out.1.0 (sym (same_site b.second s e f)));
    }

pub state_test-with_bonds : (g : List Node) (bonds : List Bond) (k v : ℕ) → state_test (with_bonds g bonds) k v ≡ state_test g k v
state_test-with_bonds g [] k v = refl
state_test-with_bonds g (b ∷ bonds) k v = state_test-with_bonds (bonded g b) bonds k v ∙ state_test-with_bond g b.first.node b.first.site b.second.node b.second.site k v

-- both ends of a bond test it
pub record TestsBond (g : List Node) (b : Bond) : Type 0 where
  pub first : link_test g b.first.node b.first.site ≡ To b.second.node b.second.site
  pub second : link_test g b.second.node b.second.site ≡ To b.first.node b.first.site

pub TestsBond-with_bonds : (g : List Node) (bonds : List Bond) → AreApart (ends bonds) → AllByRecursion (IsIn g) (ends bonds) → AllByRecursion (TestsBond (with_bonds g bonds)) bonds
TestsBond-with_bonds g [] apart has = tt
TestsBond-with_bonds g (b ∷ bonds) apart has = (
  record {
    first = (SameTests-with_bonds (bonded g b) bonds b.first apart.0.1).link ∙ link_test-with_bond_first g b.first.node b.first.site b.second.node b.second.site has.0 (λ e f. apart.0.0 (same_site b.first b.second e f));
    second = (SameTests-with_bonds (bonded g b) bonds b.second apart.1.0).link ∙ link_test-with_bond_second g b.first.node b.first.site b.second.node b.second.site has.1.0;
  },
  TestsBond-with_bonds (bonded g b) bonds apart.1.1 (All-to (IsIn g) (IsIn (bonded g b)) (ends bonds) (λ s. HasNodeSite-with_bond g b.first.node b.first.site b.second.node b.second.site s.node s.site) has.1.1),
)

-- ---- open sites: those that have no bond to a node

pub AreOpen-with_bond : (g : List Node) (b : Bond) (sites : List NodeSite) → AllByRecursion (λ t. b.first ≢ t) sites → AllByRecursion (λ t. b.second ≢ t) sites → AllByRecursion (IsOpen g) sites → AllByRecursion (IsOpen (bonded g b)) sites
AreOpen-with_bond g b [] first second open_before = tt
AreOpen-with_bond g b (s ∷ sites) first second open_before = (
  (
    HasNodeSite-with_bond g b.first.node b.first.site b.second.node b.second.site s.node s.site open_before.0.0,
    rw (link_test-with_bond_other g b.first.node b.first.site b.second.node b.second.site s.node s.site (λ e f. first.0 (same_site b.first s e f)) (λ e f. second.0 (same_site b.second s e f))) open_before.0.1,
  ),
  AreOpen-with_bond g b sites first.1 second.1 open_before.1,
)

pub AreOpen-with_local : (g : List Node) (s : NodeSite) (l : Local) (sites : List NodeSite) → AllByRecursion (λ t. s ≢ t) sites → AllByRecursion (IsOpen g) sites → AllByRecursion (IsOpen (with_local g s.node s.site l)) sites
AreOpen-with_local g s l [] out open_before = tt
AreOpen-with_local g s l (t ∷ sites) out open_before = (
  (
    HasNodeSite-with_local g s.node s.site l t.node t.site open_before.0.0,
    rw (link_test-with_local_other g s.node s.site l t.node t.site (λ e f. out.0 (same_site s t e f))) open_before.0.1,
  ),
  AreOpen-with_local g s l sites out.1 open_before.1,
)

pub AreOpen-blank : (sig : List TypeEntry) (types : List ℕ) (sites : List NodeSite) → AllByRecursion (λ s. Nth types s.node (λ a. HasSite sig a s.site)) sites → AllByRecursion (IsOpen (map (blank_node sig) types)) sites
AreOpen-blank sig types sites sited = All-to _ (IsOpen (map (blank_node sig) types)) sites (λ s h.
    let a = nth_of types s.node (λ a. HasSite sig a s.site) h in
    (HasNodeSite-blank sig types s.node s.site a.0 a.1 a.2, rw (link_test-blank sig types s.node s.site) tt)) sited
