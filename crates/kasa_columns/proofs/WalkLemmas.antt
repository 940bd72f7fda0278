-- The steps of a search for the rows that a rule yields.
use Rattle.std.proofs.Common.{◌≡◌, ℕ, suc, ◌<◌, ◌≤◌, ◌+◌, ◌⊎◌, ◌↔◌, inl, inr, Bool, List, [], ◌∷◌, refl, sym, ap, ◌∙◌, subst, length, map, arith, below_more, Option, Some, None}
use Rattle.std.specs.Prelude.{slice_get, option_map, IsTrue}
use Rattle.std.specs.List.{AllZip}
use Rattle.std.proofs.lemmas.List.{length-map}
use Rattle.std.proofs.lemmas.Option.{same_Some, slice_get_within}
use Rattle.std.proofs.lemmas.Slice.Zip.{AllZip-long}
use Rattle.kasa_graph.specs.declared.pattern.Node.{Node}
use Rattle.kasa_graph.specs.Lists.{Has}
use Rattle.kasa_graph.specs.Signature.{TypeEntry, HasSite}
use Rattle.kasa_graph.proofs.ListLemmas.{some_at}
use Rattle.kasa_graph.proofs.TestLemmas.{length-types}
use Rattle.kasa_families.specs.declared.family.Family.{Family}
use Rattle.kasa_families.specs.declared.family.Family.TheVariants.{View, Across, Parallel, Chain}
use Rattle.kasa_families.specs.declared.row.LocalLink.{LocalLink}
use Rattle.kasa_families.specs.declared.row.LocalLink.TheVariants.{Free}
use Rattle.kasa_families.specs.declared.row.Local.{Local}
use Rattle.kasa_families.specs.declared.row.Row.{Row}
use Rattle.kasa_families.specs.declared.row.Row.TheVariants.{Locals, Same, Different}
use Rattle.kasa_families.specs.declared.shape.NodeSite.{NodeSite}
use Rattle.kasa_families.specs.Family.{IsFamily, shape_of}
use Rattle.kasa_families.specs.Shape.{at, IsShape, pattern_of}
use Rattle.kasa_families.specs.Row.{IsRow}
use Rattle.kasa_families.specs.Pattern.{row_pattern}
use Rattle.kasa_families.specs.Table.{Table, Holds}
use Rattle.kasa_families.proofs.ColumnLemmas.{nth_of, All-at, types_of-pattern}
use Rattle.kasa_families.proofs.FamilyShape.{IsShape-of}
use Rattle.kasa_families.proofs.TableLemmas.{IsFamily-of_tables}
use Rattle.kasa_rules.specs.Rule.{RuleParts}
use Rattle.kasa_pre.specs.declared.Stand.{Stand}
use Rattle.kasa_pre.specs.declared.Stand.TheVariants.{Left, Made, Outside}
use Rattle.kasa_pre.specs.declared.FreedBy.{FreedBy}
use Rattle.kasa_pre.specs.Allowed.{IsAllowed}
use Rattle.kasa_pre.specs.Before.{FitsStand, outside_types, link_written, AreFreed, IsBefore}
use Rattle.kasa_pre.specs.Yields.{Yields}
use Rattle.kasa_columns.specs.Comes.{Outcome, ComesOut, link_shown}
use Rattle.kasa_columns.specs.Forward.{HasColumns, LeavesBonds, IsStored, YieldsAt, ComesForward}
use Rattle.kasa_columns.specs.Choices.{MayHaveShown}
use Rattle.kasa_columns.specs.declared.plan.Effect.{Effect}
use Rattle.kasa_columns.specs.Along.{AreJoined, LeadsAlong, LeavesColumns}
use Rattle.kasa_columns.specs.Plan.{AreEffects, AreAfter, AreFreeing, HasNoFreeing}
use Rattle.kasa_columns.specs.Ask.{Ask, IsAsk, stored, IsResultOf, IsSettled, IsStoredRow, GoesOn}
use Rattle.kasa_columns.specs.Chosen.{MayBe, AreAmong, AreColumnChoices}
use Rattle.kasa_columns.specs.Settled.{FollowsBonds, StandsAfter, IsOutcomeSettled, IsShownSettled, IsAgreeingSettled, IsRowSettled, AreStandsSettled}
use Rattle.kasa_columns.proofs.Rows.{ReadsColumns, reads_columns, locals_of}
use Rattle.kasa_columns.proofs.ShapeTests.{columns_have}
use Rattle.kasa_columns.proofs.Held.{Has-held, IsRow-stored}
use Rattle.kasa_columns.proofs.FreedColumns as freed_columns
use Rattle.kasa_columns.proofs.Along.{leads_along, stays}
use Rattle.kasa_columns.proofs.PlanLemmas.{frees_at, leaves_open, only_kept}
use Rattle.kasa_columns.proofs.Zips.{zip_get}
use Rattle.kasa_columns.proofs.Choices.{yields-chosen}
use Rattle.kasa_columns.proofs.ChoiceLemmas.{Views, views_of}

-- ---- families

pub few_columns_of : (sig : List TypeEntry) (family : Family) → IsFamily sig family → length (shape_of family).columns ≤ 16
few_columns_of sig (View a sites) ok = let same = length-map sites (at 0) in let few = ok.3 in omega arith
few_columns_of sig (Across a x p b y q) ok = omega arith
few_columns_of sig (Parallel a x u b y w) ok = omega arith
few_columns_of sig (Chain a x p b y z c w q) ok = omega arith

pub few_nodes_of : (family : Family) → length (shape_of family).types ≤ 3
few_nodes_of (View a sites) = omega arith
few_nodes_of (Across a x p b y q) = omega arith
few_nodes_of (Parallel a x u b y w) = omega arith
few_nodes_of (Chain a x p b y z c w q) = omega arith

-- at most as many nodes are outside as there are
pub few_outside : (v : List Node) (stands : List Stand) → length (outside_types v stands) ≤ length v
few_outside [] stands = omega arith
few_outside (node ∷ v) [] = omega arith
few_outside (node ∷ v) (Left n ∷ stands) = let rest = few_outside v stands in omega arith
few_outside (node ∷ v) (Made k ∷ stands) = let rest = few_outside v stands in omega arith
few_outside (node ∷ v) (Outside ∷ stands) = let rest = few_outside v stands in omega arith

module _ (a : Ask) (ok : IsAsk a) where
  pub IsFamily-asked : IsFamily a.sig a.family
  IsFamily-asked = IsFamily-of_tables a.sig a.tables ok.valid a.family (a.number, ok.numbered)

  pub IsShape-asked : IsShape a.sig (shape_of a.family)
  IsShape-asked = IsShape-of a.sig a.family IsFamily-asked

  reads : ReadsColumns a.sig a.family
  reads = reads_columns a.sig a.family ok.columned

  pub few_columns : length a.columns ≤ 16
  few_columns = rw ok.listed (few_columns_of a.sig a.family IsFamily-asked)

  -- each column's node has a type, and a stand
  pub typed_column : (k : ℕ) (c : NodeSite) → slice_get a.columns k ≡ Some c → (t : ℕ) × (slice_get (shape_of a.family).types c.node ≡ Some t) × HasSite a.sig t c.site
  typed_column k c at =
      let h = All-at _ (shape_of a.family).columns k c (columns_have a.sig (shape_of a.family) IsShape-asked []) (rw ok.listed at at) in
      let t = nth_of (shape_of a.family).types c.node _ h in
      (t.0, t.1, t.2)

  -- the type that was read of a column's node is its type, and there is one
  pub column_agent : (c : NodeSite) → Has a.columns c → (o : Option ℕ) → o ≡ slice_get (shape_of a.family).types c.node → (t : ℕ) → o ≡ Some t → (slice_get (shape_of a.family).types c.node ≡ Some t) × HasSite a.sig t c.site
  column_agent c has o e t is =
      let typed = typed_column has.0 c has.1 in
      let same : typed.0 ≡ t = same_Some typed.0 t (sym typed.1 ∙ sym e ∙ is) in
      (sym e ∙ is, subst (λ (x : ℕ). HasSite a.sig x c.site) same typed.2)

  pub column_has_agent : (c : NodeSite) → Has a.columns c → (o : Option ℕ) → o ≡ slice_get (shape_of a.family).types c.node → o ≡ None → ⊥
  column_has_agent c has o e none = let typed = typed_column has.0 c has.1 in let f : None ≡ Some typed.0 = sym none ∙ e ∙ typed.1 in cc

  pub node_stands : (stands : List Stand) → AllZip (FitsStand a.rule) stands (shape_of a.family).types → (k : ℕ) (c : NodeSite) → slice_get a.columns k ≡ Some c → c.node < length stands
  node_stands stands fit k c at =
      let t = typed_column k c at in
      let within = slice_get_within (shape_of a.family).types c.node t.0 t.1 in
      let long = AllZip-long (FitsStand a.rule) stands (shape_of a.family).types fit in
      omega arith

  -- a row's pattern has a node for each type
  pub length-asked : (row : Row) → IsRow a.sig a.family row → length (row_pattern a.sig a.family row) ≡ length (shape_of a.family).types
  length-asked row is = by a.family ok.columned row is
    where
      by : (family : Family) → HasColumns family → (row : Row) → IsRow a.sig family row → length (row_pattern a.sig family row) ≡ length (shape_of family).types
      by (Parallel x y z u v w) columned row is = absurd columned
      by family columned (Locals locals) is = length-types (row_pattern a.sig family (Locals locals)) ∙ ap length (types_of-pattern a.sig (shape_of family) locals)
      by family columned Same is = absurd is
      by family columned Different is = absurd is

  pub length-row : (locals : List Local) → IsRow a.sig a.family (Locals locals) → length locals ≡ length a.columns
  length-row locals is = rw ok.listed (AllZip-long _ (shape_of a.family).columns locals (reads.row locals is))

  pub length-among : (stands : List Stand) (choices : List (List Local)) (shown : List Local) → AreAmong stands a.columns choices shown → length shown ≡ length a.columns
  length-among stands choices shown among = by a.columns choices shown among
    where
      by : (columns : List NodeSite) (choices : List (List Local)) (shown : List Local) → AreAmong stands columns choices shown → length shown ≡ length columns
      by [] [] [] among = refl
      by [] [] (l ∷ shown) among = absurd among
      by [] (choice ∷ choices) shown among = absurd among
      by (c ∷ columns) [] shown among = absurd among
      by (c ∷ columns) (choice ∷ choices) [] among = absurd among
      by (c ∷ columns) (choice ∷ choices) (l ∷ shown) among = ap suc (by columns choices shown among.1)

  pub length-stored : (shown : List Local) → IsStoredRow a shown → length shown ≡ length a.columns
  length-stored shown has = length-row shown (IsRow-stored a.sig a.tables ok.valid a.number a.family ok.numbered (Locals shown) has)

  -- ---- one outcome

  module _ (stands : List Stand) (out : Outcome) (comes : (shown : List Local) × ComesOut a.rule stands a.columns shown out) where
    pub few_locals : length out.locals ≤ 16
    few_locals = let long = freed_columns.length-outcome a.rule stands a.columns comes.0 out comes.1 in let few = few_columns in omega arith

    pub AreFreed-asked : AreFreed a.rule (row_pattern a.sig a.family (Locals out.locals)) stands out.freed
    AreFreed-asked = rw (reads.pattern out.locals) (freed_columns.AreFreed-outcome a.rule stands a.sig (shape_of a.family) IsShape-asked comes.0 out (rw ok.listed at comes.1))

    -- an outcome that is a valid row and stands after a firing is a result
    pub IsResult-stands : IsRow a.sig a.family (Locals out.locals) → StandsAfter a (row_pattern a.sig a.family (Locals out.locals)) stands out.freed → IsResultOf a (Locals out.locals)
    IsResult-stands valid after = record {
      family = a.family;
      numbered = ok.numbered;
      valid = valid;
      yielded = record {
        stands = stands;
        freed = out.freed;
        pattern = after.0;
        free = AreFreed-asked;
        before = after.1;
        allowed = after.2;
      };
    }

-- where the most general pattern before is allowed, and only there, some allowed pattern stood before
pub answer_decides : (sig : List TypeEntry) (tables : List Table) (r : RuleParts) (v : List Node) (stands : List Stand) (freed : List FreedBy) (answer : Option (List Node)) (g : List Node) → answer ≡ Some g → (b : Bool) → IsTrue b ↔ IsAllowed sig tables g →
    ((g : List Node) × IsBefore sig r v stands freed g × IsAllowed sig tables g) ↔ ((h : List Node) × (answer ≡ Some h) × IsAllowed sig tables h) → IsTrue b ↔ ((g : List Node) × IsBefore sig r v stands freed g × IsAllowed sig tables g)
answer_decides sig tables r v stands freed answer g is b allowed decides = (λ t. decides.1 (g, is, allowed.0 t), λ s. back (decides.0 s))
  where
    back : (h : List Node) × (answer ≡ Some h) × IsAllowed sig tables h → IsTrue b
    back (h, same, fine) = allowed.1 (subst (IsAllowed sig tables) (same_Some h g (sym same ∙ is)) fine)

-- ---- how far a search went

-- the first elements of a list are settled
abbrev pub FirstSettled : {X : Type 0} → (List Row → X → Type 0) → List X → ℕ → List Row → Type 0
FirstSettled {X} P xs n found = (k : ℕ) → k < n → (x : X) → slice_get xs k ≡ Some x → P found x

pub settled_none : {X : Type 0} (P : List Row → X → Type 0) (xs : List X) (found : List Row) → FirstSettled P xs 0 found
settled_none P xs found k less = absurd (omega arith)

pub settled_all : {X : Type 0} (P : List Row → X → Type 0) (xs : List X) (n : ℕ) (found : List Row) → length xs ≤ n → FirstSettled P xs n found → (x : X) → Has xs x → P found x
settled_all P xs n found end first x has = let within = slice_get_within xs has.0 x has.1 in first has.0 (omega arith) x has.1

module _ (a : Ask) where
  module _ (old new : List Row) (on : GoesOn a old new) where
    pub IsOutcomeSettled-on : (stands : List Stand) (out : Outcome) → IsOutcomeSettled a stands old out → IsOutcomeSettled a stands new out
    IsOutcomeSettled-on stands out h are yields = on.settled (Locals out.locals) (h are yields)

    pub IsShownSettled-on : (stands : List Stand) (shown : List Local) → IsShownSettled a stands old shown → IsShownSettled a stands new shown
    IsShownSettled-on stands shown h out comes = IsOutcomeSettled-on stands out (h out comes)

    pub IsAgreeingSettled-on : (stands : List Stand) (shown : List Local) → IsAgreeingSettled a stands old shown → IsAgreeingSettled a stands new shown
    IsAgreeingSettled-on stands shown h agrees = IsShownSettled-on stands shown (h agrees)

    pub AreStandsSettled-on : (stands : List Stand) (may : List Local → Type 0) → AreStandsSettled a may old stands → AreStandsSettled a may new stands
    AreStandsSettled-on stands may h shown was agrees = IsShownSettled-on stands shown (h shown was agrees)

  -- a loop over elements, of which each stays settled
  module _ {X : Type 0} (P : List Row → X → Type 0) (stays : (old new : List Row) → GoesOn a old new → (x : X) → P old x → P new x) (xs : List X) where
    pub settled_next : (n : ℕ) (old new : List Row) (x : X) → FirstSettled P xs n old → GoesOn a old new → slice_get xs n ≡ Some x → P new x → FirstSettled P xs (n + 1) new
    settled_next n old new x first on is settled =
        below_more _ n (λ k less other there. stays old new on other (first k less other there)) (λ other there. subst (P new) (same_Some x other (sym is ∙ there)) settled)

  pub IsRowSettled-on : (stands : List Stand) (old new : List Row) → GoesOn a old new → (row : Row) → IsRowSettled a stands old row → IsRowSettled a stands new row
  IsRowSettled-on stands old new on row h shown e agrees = IsShownSettled-on old new on stands shown (h shown e agrees)

  -- ---- a stored row, by the plan for the stands

  module _ (ok : IsAsk a) (stands : List Stand) (links : List LocalLink) (freeing : AreFreeing a.rule links) (effects : List Effect) (are : AreEffects a.rule stands a.columns effects) (shown : List Local) (no : HasNoFreeing links effects shown) where
    none_freed : (out : Outcome) → ComesOut a.rule stands a.columns shown out → YieldsAt a.sig a.tables a.rule (row_pattern a.sig a.family (Locals out.locals)) stands out.freed → out.freed ≡ []
    none_freed out comes y = by out.freed refl
      where
        by : (freed : List FreedBy) → freed ≡ out.freed → freed ≡ []
        by [] e = refl
        by (f ∷ freed) e =
            let has : Has out.freed f = rw (← e) (0, refl) in
            let h = frees_at a.rule stands a.columns shown out comes f has in
            let effect = zip_get _ a.columns effects h.index h.column are h.listed in
            let is = nth_of stands h.column.node _ effect.2 in
            let same : h.stand ≡ is.0 = same_Some h.stand is.0 (sym h.stood ∙ is.1) in
            let none : effect.0.link ≡ None = is.2.link ∙ ap (option_map (link_shown a.rule)) (ap (λ (s : Stand). link_written a.rule s h.column.site) (sym same) ∙ h.source.unwritten) in
            let leaves = leaves_open a.sig a.rule ok.over (row_pattern a.sig a.family (Locals out.locals)) stands out.freed y.pattern y.free y.before f has in
            let listed = freeing f.from h.source.agent f.«at» (h.source.typed, h.source.exists, h.source.by_touched) leaves in
            absurd (no h.index effect.0 h.showed effect.1 h.there none (rw h.source.partner listed))

    -- where nothing is written it comes out as the stored row
    pub idle_settled : (found : List Row) → LeavesColumns a.rule a.columns stands → ((row : Row) → Has (stored a) row → IsSettled a found row) → IsStoredRow a shown → IsShownSettled a stands found shown
    idle_settled found leaves settled has out comes valid y =
        subst (λ (ls : List Local). IsSettled a found (Locals ls)) (sym (stays a.rule stands a.columns shown out leaves comes (none_freed out comes y))) (settled (Locals shown) has)

    -- and else as the one that the plan makes of it
    pub kept_settled : (found : List Row) (kept : List Local) → length kept ≡ length shown → AreAfter effects shown kept → IsOutcomeSettled a stands found (record { locals = kept; freed = [] }) → IsShownSettled a stands found shown
    kept_settled found kept long afters settled out comes valid y =
        let none = none_freed out comes y in
        let same = only_kept a.rule stands a.columns effects shown kept out are long afters comes none in
        rw same (settled (rw same at valid) (rw (none, same) at y))

  -- ---- from what was tried to all that may have been

  module _ (ok : IsAsk a) (stands : List Stand) (choices : List (List Local)) (found : List Row) where
    holds_of : (tables : List Table) (family : Family) (stands : List Stand) (shown : List Local) → ((k : ℕ) → stands ≡ Made k ∷ [] → ⊥) → IsStored tables family stands shown → Holds tables family (Locals shown)
    holds_of tables family [] shown other stored = stored
    holds_of tables family (Left n ∷ stands) shown other stored = stored
    holds_of tables family (Outside ∷ stands) shown other stored = stored
    holds_of tables family (Made k ∷ []) shown other stored = absurd (other k refl)
    holds_of tables family (Made k ∷ stand ∷ stands) shown other stored = stored

    pub stored_settled : LeavesBonds a.rule (shape_of a.family).bonds stands → ((k : ℕ) → stands ≡ Made k ∷ [] → ⊥) → AreStandsSettled a (IsStoredRow a) found stands → AreStandsSettled a (MayBe a choices stands) found stands
    stored_settled leaves other settled shown (inl was) = settled shown (Has-held a.sig a.tables ok.valid a.number a.family ok.numbered (Locals shown) (holds_of a.tables a.family stands shown other was.1))
    stored_settled leaves other settled shown (inr was) = absurd (was.0 leaves)

    pub created_settled : LeavesBonds a.rule (shape_of a.family).bonds stands → (k : ℕ) → stands ≡ Made k ∷ [] → AreStandsSettled a (λ shown. shown ≡ map (λ _. record { state = None; link = Free }) a.columns) found stands → AreStandsSettled a (MayBe a choices stands) found stands
    created_settled leaves k e settled shown (inl was) = settled shown (blank (rw e at was.1))
      where
        blank : IsStored a.tables a.family (Made k ∷ []) shown → shown ≡ map (λ _. record { state = None; link = Free }) a.columns
        blank is = rw ok.listed is
    created_settled leaves k e settled shown (inr was) = absurd (was.0 leaves)

    pub chosen_settled : (¬ LeavesBonds a.rule (shape_of a.family).bonds stands) → AreStandsSettled a (AreAmong stands a.columns choices) found stands → AreStandsSettled a (MayBe a choices stands) found stands
    chosen_settled writes settled shown (inl was) = absurd (writes was.0)
    chosen_settled writes settled shown (inr was) = settled shown was.1

  -- ---- each result is settled

  module _ (ok : IsAsk a) (all : List (List Stand)) (choices : List (List Local)) (found : List Row) where
    -- where a row is yielded, the stands follow the bonds
    follow_yielded : (locals : List Local) (stands : List Stand) (freed : List FreedBy) → YieldsAt a.sig a.tables a.rule (row_pattern a.sig a.family (Locals locals)) stands freed → FollowsBonds a.rule (shape_of a.family).bonds stands
    follow_yielded locals stands freed y b has first second =
        let s = some_at stands b.first.node first in
        let t = some_at stands b.second.node second in
        (along b.first b.second (b, has, inl (refl, refl)) s.0 s.1, along b.second b.first (b, has, inr (refl, refl)) t.0 t.1)
      where
        shaped : YieldsAt a.sig a.tables a.rule (pattern_of a.sig (shape_of a.family) locals) stands freed
        shaped = let e = (reads a ok).pattern locals in rw e at y

        along : (s t : NodeSite) → AreJoined (shape_of a.family).bonds s t → (stand : Stand) → slice_get stands s.node ≡ Some stand → LeadsAlong a.rule stands s t
        along s t joined stand at = leads_along a.sig a.rule ok.over (shape_of a.family) (IsShape-asked a ok) locals stands freed shaped.pattern shaped.free shaped.before s t joined stand at

    pub all_settled :
        ((stands : List Stand) → AllZip (FitsStand a.rule) stands (shape_of a.family).types → FollowsBonds a.rule (shape_of a.family).bonds stands → Has all stands) →
        AreColumnChoices a choices ⊎ ((stands : List Stand) → Has all stands → LeavesBonds a.rule (shape_of a.family).bonds stands) →
        ((stands : List Stand) → Has all stands → AreStandsSettled a (MayBe a choices stands) found stands) →
        (row : Row) → IsResultOf a row → IsSettled a found row
    all_settled complete chosen settled row is =
        let same : is.family ≡ a.family = same_Some is.family a.family (sym is.numbered ∙ ok.numbered) in
        by row (subst (λ (x : Family). IsRow a.sig x row) same is.valid) (subst (λ (x : Family). Yields a.sig a.tables a.rule x row) same is.yielded)
      where
        views : Views a ok all choices
        views = views_of a ok all choices chosen

        settled_row : (locals : List Local) → IsRow a.sig a.family (Locals locals) → ComesForward a.sig a.tables a.rule a.family (MayHaveShown a.sig a.tables a.rule a.family views.0) locals → IsSettled a found (Locals locals)
        settled_row locals valid c =
            let among = complete c.stands c.fit (follow_yielded locals c.stands c.out.freed c.yields) in
            subst (λ (ls : List Local). IsSettled a found (Locals ls)) c.is (settled c.stands among c.shown (views.2 c.stands among c.shown c.was) (rw ok.listed c.agrees) c.out (rw ok.listed c.comes) (rw c.is valid) (rw c.is c.yields))

        by : (row : Row) → IsRow a.sig a.family row → Yields a.sig a.tables a.rule a.family row → IsSettled a found row
        by (Locals locals) valid y = settled_row locals valid (yields-chosen a.sig a.tables ok.valid a.rule ok.over a.family (a.number, ok.numbered) ok.columned locals valid views.0 views.1 y)
        by Same valid y = absurd (let e = (locals_of a.sig a.family ok.columned Same valid).1 in cc)
        by Different valid y = absurd (let e = (locals_of a.sig a.family ok.columned Different valid).1 in cc)
