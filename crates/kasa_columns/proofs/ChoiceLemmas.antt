-- The choices of each column come from one view for each, or from none.
use Rattle.std.proofs.Common.{◌≡◌, ◌≢◌, ℕ, ◌⊎◌, ◌↔◌, inl, inr, List, [], ◌∷◌, refl, sym, ◌∙◌, Option, Some, None}
use Rattle.std.specs.Prelude.{slice_get}
use Rattle.std.specs.List.{AllByRecursion, AllZip}
use Rattle.std.proofs.lemmas.Option.{same_Some}
use Rattle.kasa_graph.specs.Lists.{Has}
use Rattle.kasa_graph.proofs.PatternLemmas.{same_site_or_not}
use Rattle.kasa_families.specs.declared.family.Family.TheVariants.{View}
use Rattle.kasa_families.specs.declared.row.Local.{Local}
use Rattle.kasa_families.specs.declared.shape.NodeSite.{NodeSite}
use Rattle.kasa_families.specs.Family.{shape_of}
use Rattle.kasa_families.specs.Shape.{Nth, AreApart, IsShape}
use Rattle.kasa_families.specs.Table.{families_of}
use Rattle.kasa_families.proofs.ColumnLemmas.{nth_of, to_nth, same_site}
use Rattle.kasa_families.proofs.FamilyShape.{IsShape-of}
use Rattle.kasa_families.proofs.TableLemmas.{IsFamily-of_tables}
use Rattle.kasa_pre.specs.declared.Stand.{Stand}
use Rattle.kasa_pre.specs.declared.Stand.TheVariants.{Left, Made, Outside}
use Rattle.kasa_columns.specs.Forward.{LeavesBonds}
use Rattle.kasa_columns.specs.Choices.{IsChoice, IsChosen, AreViews, MayHaveShown}
use Rattle.kasa_columns.specs.Ask.{Ask, IsAsk}
use Rattle.kasa_columns.specs.Chosen.{IsChoiceOf, IsColumnChoice, AreColumnChoices, IsAmong, AreAmong, MayBe}
use Rattle.kasa_columns.proofs.ShapeTests.{columns_apart}
use Rattle.kasa_columns.proofs.Zips.{zip_get}

-- ---- a function of sites, of which each column's value is known

abbrev pick : {Y : Type 0} (n s k u : ℕ) → (n ≡ k) × (s ≡ u) ⊎ (n ≡ k → s ≢ u) → Y → Y → Y
pick n s k u (inl e) y z = y
pick n s k u (inr ne) y z = z

module _ {Y Z : Type 0} (none : Y) (R : NodeSite → Y → Z → Type 0) where
  abbrev changed : NodeSite → Y → (NodeSite → Y) → NodeSite → Y
  changed c y f d = pick c.node c.site d.node d.site (same_site_or_not c.node c.site d.node d.site) y (f d)

  changed-same : (c : NodeSite) (y : Y) (f : NodeSite → Y) → changed c y f c ≡ y
  changed-same c y f = by (same_site_or_not c.node c.site c.node c.site)
    where
      by : (o : (c.node ≡ c.node) × (c.site ≡ c.site) ⊎ (c.node ≡ c.node → c.site ≢ c.site)) → pick c.node c.site c.node c.site o y (f c) ≡ y
      by (inl e) = refl
      by (inr ne) = absurd (ne refl refl)

  changed-other : (c : NodeSite) (y : Y) (f : NodeSite → Y) (d : NodeSite) → c ≢ d → changed c y f d ≡ f d
  changed-other c y f d other = by (same_site_or_not c.node c.site d.node d.site)
    where
      by : (o : (c.node ≡ d.node) × (c.site ≡ d.site) ⊎ (c.node ≡ d.node → c.site ≢ d.site)) → pick c.node c.site d.node d.site o y (f d) ≡ f d
      by (inl e) = absurd (other (same_site c d e.0 e.1))
      by (inr ne) = refl

  others_stay : (c : NodeSite) (y : Y) (f : NodeSite → Y) (columns : List NodeSite) (zs : List Z) → AllByRecursion (λ d. c ≢ d) columns → AllZip (λ d z. R d (f d) z) columns zs → AllZip (λ d z. R d (changed c y f d) z) columns zs
  others_stay c y f [] [] apart all = tt
  others_stay c y f [] (z ∷ zs) apart all = absurd all
  others_stay c y f (d ∷ columns) [] apart all = absurd all
  others_stay c y f (d ∷ columns) (z ∷ zs) apart all = (rw (changed-other c y f d apart.0) all.0, others_stay c y f columns zs apart.1 all.1)

  -- where each column has a value with its part, there is a function that gives it
  pub choose : (columns : List NodeSite) (zs : List Z) → AreApart columns → AllZip (λ c z. (y : Y) × R c y z) columns zs → (f : NodeSite → Y) × AllZip (λ c z. R c (f c) z) columns zs
  choose [] [] apart all = (λ _. none, tt)
  choose [] (z ∷ zs) apart all = absurd all
  choose (c ∷ columns) [] apart all = absurd all
  choose (c ∷ columns) (z ∷ zs) apart all =
      let rest = choose columns zs apart.1 all.1 in
      (changed c all.0.0 rest.0, (rw (changed-same c all.0.0 rest.0) all.0.1, others_stay c all.0.0 rest.0 columns zs apart.0 rest.1))

-- ---- a view for each column

module _ (a : Ask) (ok : IsAsk a) where
  abbrev IsViewOf : NodeSite → Option (List ℕ) → Type 0
  IsViewOf c view = (sites : List ℕ) → view ≡ Some sites → Has sites c.site × Nth (shape_of a.family).types c.node (λ t. Has (families_of a.tables) (View t sites))

  abbrev IsOfView : NodeSite → Option (List ℕ) → List Local → Type 0
  IsOfView c view states = IsViewOf c view × Nth (shape_of a.family).types c.node (λ t. (l : Local) → Has states l ↔ IsChoice a.sig a.tables view t c.site l)

  one_view : (c : NodeSite) (states : List Local) → IsColumnChoice a c states → (view : Option (List ℕ)) × IsOfView c view states
  one_view c states choice = let t = nth_of (shape_of a.family).types c.node _ choice in by t.0 t.1 t.2
    where
      by : (t : ℕ) → slice_get (shape_of a.family).types c.node ≡ Some t → IsChoiceOf a t c.site states → (view : Option (List ℕ)) × IsOfView c view states
      by t typed (inl (sites, has, family, each)) = (
        Some sites,
        (
          λ others e. let same : sites ≡ others = same_Some sites others e in rw (← same) (has, to_nth (shape_of a.family).types c.node _ t typed family),
          to_nth (shape_of a.family).types c.node _ t typed each,
        ),
      )
      by t typed (inr each) = (None, (λ others e. absurd cc, to_nth (shape_of a.family).types c.node _ t typed each))

  each_view : (columns : List NodeSite) (choices : List (List Local)) → AllZip (IsColumnChoice a) columns choices → AllZip (λ c states. (view : Option (List ℕ)) × IsOfView c view states) columns choices
  each_view [] [] all = tt
  each_view [] (states ∷ choices) all = absurd all
  each_view (c ∷ columns) [] all = absurd all
  each_view (c ∷ columns) (states ∷ choices) all = (one_view c states all.0, each_view columns choices all.1)

  -- what is chosen by the views is among the choices
  module _ (view : NodeSite → Option (List ℕ)) (stands : List Stand) where
    among_one : (c : NodeSite) (states : List Local) (l : Local) → IsOfView c (view c) states → Nth (shape_of a.family).types c.node (λ t. Nth stands c.node (IsChosen a.sig a.tables (view c) t c.site l)) → Nth stands c.node (IsAmong states l)
    among_one c states l of chosen =
        let t = nth_of (shape_of a.family).types c.node _ chosen in
        let u = nth_of (shape_of a.family).types c.node _ of.1 in
        let same : u.0 ≡ t.0 = same_Some u.0 t.0 (sym u.1 ∙ t.1) in
        let stand = nth_of stands c.node _ t.2 in
        to_nth stands c.node _ stand.0 stand.1 (by t.0 (rw same at u.2) stand.0 stand.2)
      where
        by : (t : ℕ) → ((l : Local) → Has states l ↔ IsChoice a.sig a.tables (view c) t c.site l) → (stand : Stand) → IsChosen a.sig a.tables (view c) t c.site l stand → IsAmong states l stand
        by t each (Left n) choice = (each l).1 choice
        by t each (Made k) choice = choice
        by t each Outside choice = (each l).1 choice

    among : (columns : List NodeSite) (choices : List (List Local)) (shown : List Local) → AllZip (λ c states. IsOfView c (view c) states) columns choices → AllZip (λ c l. Nth (shape_of a.family).types c.node (λ t. Nth stands c.node (IsChosen a.sig a.tables (view c) t c.site l))) columns shown → AreAmong stands columns choices shown
    among [] [] [] of chosen = tt
    among [] [] (l ∷ shown) of chosen = absurd chosen
    among [] (states ∷ choices) shown of chosen = absurd of
    among (c ∷ columns) [] shown of chosen = absurd of
    among (c ∷ columns) (states ∷ choices) [] of chosen = absurd chosen
    among (c ∷ columns) (states ∷ choices) (l ∷ shown) of chosen = (among_one c states l of.0 chosen.0, among columns choices shown of.1 chosen.1)

  abbrev pub Views : List (List Stand) → List (List Local) → Type 0
  Views all choices = (view : NodeSite → Option (List ℕ)) × AreViews a.tables (shape_of a.family) view × ((stands : List Stand) → Has all stands → (shown : List Local) → MayHaveShown a.sig a.tables a.rule a.family view stands shown → MayBe a choices stands shown)

  IsShape-family : IsShape a.sig (shape_of a.family)
  IsShape-family = IsShape-of a.sig a.family (IsFamily-of_tables a.sig a.tables ok.valid a.family (a.number, ok.numbered))

  from_choices : (all : List (List Stand)) (choices : List (List Local)) → AreColumnChoices a choices → Views all choices
  from_choices all choices are =
      let each = each_view (shape_of a.family).columns choices (rw ok.listed at are) in
      let v = choose None IsOfView (shape_of a.family).columns choices (columns_apart a.sig (shape_of a.family) IsShape-family []) each in
      (v.0, views v.0 v.1, λ stands has shown may. by v.0 v.1 stands shown may)
    where
      views : (view : NodeSite → Option (List ℕ)) → AllZip (λ c states. IsOfView c (view c) states) (shape_of a.family).columns choices → AreViews a.tables (shape_of a.family) view
      views view of c sites has e = let h = zip_get _ (shape_of a.family).columns choices has.0 c of has.1 in h.2.0 sites e

      by : (view : NodeSite → Option (List ℕ)) → AllZip (λ c states. IsOfView c (view c) states) (shape_of a.family).columns choices → (stands : List Stand) (shown : List Local) → MayHaveShown a.sig a.tables a.rule a.family view stands shown → MayBe a choices stands shown
      by view of stands shown (inl was) = inl was
      by view of stands shown (inr (writes, chosen)) = inr (writes, rw ok.listed (among view stands (shape_of a.family).columns choices shown of chosen))

  pub views_of : (all : List (List Stand)) (choices : List (List Local)) → AreColumnChoices a choices ⊎ ((stands : List Stand) → Has all stands → LeavesBonds a.rule (shape_of a.family).bonds stands) → Views all choices
  views_of all choices (inl are) = from_choices all choices are
  views_of all choices (inr leave) = (λ _. None, λ c sites has e. absurd cc, by)
    where
      by : (stands : List Stand) → Has all stands → (shown : List Local) → MayHaveShown a.sig a.tables a.rule a.family (λ _. None) stands shown → MayBe a choices stands shown
      by stands has shown (inl was) = inl was
      by stands has shown (inr (writes, chosen)) = absurd (writes (leave stands has))
