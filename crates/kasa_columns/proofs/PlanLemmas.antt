-- A plan for some stands: how stored rows come out of a firing, and which of them need not be looked at.
use Rattle.std.proofs.Common.{◌≡◌, ℕ, zero, suc, ◌+◌, ◌<◌, ◌≤◌, ◌⊎◌, inl, inr, Bool, true, false, List, [], ◌∷◌, ◌++◌, refl, sym, ap, ◌∙◌, length, take, eqb, arith, Option, Some, None, subst}
use Rattle.std.specs.Prelude.{slice_get, slice_set, option_map}
use Rattle.std.specs.Bool.{OnTrue, OnFalse}
use Rattle.std.proofs.lemmas.Bool.Decides.{Decides-eqb}
use Rattle.std.proofs.lemmas.Option.{same_Some, slice_get_within}
use Rattle.kasa_graph.specs.declared.pattern.Node.{Node}
use Rattle.kasa_graph.specs.declared.pattern.LinkTest.{LinkTest}
use Rattle.kasa_graph.specs.declared.pattern.LinkTest.TheVariants.{Any, Free, Bound, Partner, To}
use Rattle.kasa_graph.specs.Signature.{TypeEntry}
use Rattle.kasa_graph.specs.Lists.{Has}
use Rattle.kasa_graph.specs.Pattern.{link_test, HasNodeSite, LinkImplies}
use Rattle.kasa_graph.proofs.ListLemmas.{Has-left}
use Rattle.kasa_graph.proofs.SiteLemmas.{type_of_node_site}
use Rattle.kasa_families.specs.declared.row.LocalLink.{LocalLink}
use Rattle.kasa_families.specs.declared.row.LocalLink.TheVariants as local
use Rattle.kasa_families.specs.declared.row.Local.{Local}
use Rattle.kasa_families.specs.declared.shape.NodeSite.{NodeSite}
use Rattle.kasa_families.specs.Shape.{Nth}
use Rattle.kasa_families.proofs.ColumnLemmas.{nth_of, to_nth}
use Rattle.kasa_families.proofs.PlaceLists.{slice_get-set_same, slice_get-set_before}
use Rattle.kasa_rules.specs.declared.rule.Written.{Written}
use Rattle.kasa_rules.specs.Rule.{RuleParts, IsRuleOver, touched}
use Rattle.kasa_pre.specs.declared.Stand.{Stand}
use Rattle.kasa_pre.specs.declared.Stand.TheVariants.{Left, Made, Outside}
use Rattle.kasa_pre.specs.declared.FreedBy.{FreedBy}
use Rattle.kasa_pre.specs.Acts.{LeavesOpen}
use Rattle.kasa_pre.specs.Before.{FitsStand, place_of, link_written, AreFreed, IsBefore}
use Rattle.kasa_columns.specs.declared.plan.Effect.{Effect}
use Rattle.kasa_columns.specs.declared.plan.Asked.{Asked}
use Rattle.kasa_columns.specs.Comes.{link_shown, link_after, local_after, IsSource, Outcome, kept_before, ColumnComes, ComesOut}
use Rattle.kasa_columns.specs.Along.{LeavesColumns}
use Rattle.kasa_columns.specs.Forward.{StandAgrees, AgreesLeft}
use Rattle.kasa_columns.specs.Plan.{IsEffect, AreEffects, shown_or, after, AreAfter, IsNoEffect, MeetsAsked, IsAskedAt, IsUnmet, HasNoFreeing}
use Rattle.kasa_columns.proofs.Along.{named_within}
use Rattle.kasa_columns.proofs.AnyLocal.{tested_site}
use Rattle.kasa_columns.proofs.Places.{WasThere, has_place, left_at}
use Rattle.kasa_columns.proofs.Pushing.{last, last_or}
use Rattle.kasa_columns.proofs.Zips.{zip_get}

-- what a test promises where it says no
pub on_false : {P : Type 0} (b : Bool) → ¬ (b ≡ true) → OnFalse b P → P
on_false true not h = absurd (not refl)
on_false false not h = h

-- ---- rows of which nothing is freed

module _ (r : RuleParts) (stands : List Stand) where
  shown_either : (w : Option Written) (link : LocalLink) → shown_or (option_map (link_shown r) w) link ≡ link_after r w link
  shown_either None link = refl
  shown_either (Some w) link = refl

  after_effect : (s : ℕ) (e : Effect) (l : Local) (stand : Stand) → IsEffect r s e stand → after e l ≡ local_after r stand s l
  after_effect s e l stand is = let links = shown_either (link_written r stand s) l.link in rw (is.state, is.link, links) refl

  later : (e : Effect) (effects : List Effect) (l k : Local) (shown kept : List Local) → AreAfter (e ∷ effects) (l ∷ shown) (k ∷ kept) → AreAfter effects shown kept
  later e effects l k shown kept are n = are (suc n)

  -- they come out so
  pub comes_kept : (columns : List NodeSite) (effects : List Effect) (shown kept : List Local) → AreEffects r stands columns effects → length shown ≡ length columns → length kept ≡ length shown → AreAfter effects shown kept → ComesOut r stands columns shown (record { locals = kept; freed = [] })
  comes_kept [] [] [] [] are count long afters = refl
  comes_kept [] effects (l ∷ shown) kept are count long afters = absurd (omega arith)
  comes_kept [] effects [] (k ∷ kept) are count long afters = absurd (omega arith)
  comes_kept [] (e ∷ effects) shown kept are count long afters = absurd are
  comes_kept (c ∷ columns) [] shown kept are count long afters = absurd are
  comes_kept (c ∷ columns) effects [] kept are count long afters = absurd (omega arith)
  comes_kept (c ∷ columns) effects (l ∷ shown) [] are count long afters = absurd (omega arith)
  comes_kept (c ∷ columns) (e ∷ effects) (l ∷ shown) (k ∷ kept) are count long afters =
      let one = nth_of stands c.node _ are.0 in
      let first : Some k ≡ Some (after e l) = afters zero e l refl refl in
      let is : k ≡ local_after r one.0 c.site l = same_Some k (after e l) first ∙ after_effect c.site e l one.0 one.2 in
      (record { locals = kept; freed = [] }, comes_kept columns effects shown kept are.1 (omega arith) (omega arith) (later e effects l k shown kept afters), to_nth stands c.node _ one.0 one.1 (inl (ap (λ (x : Local). kept_before x (record { locals = kept; freed = [] })) is)))

  -- and in no other way
  pub only_kept : (columns : List NodeSite) (effects : List Effect) (shown kept : List Local) (out : Outcome) → AreEffects r stands columns effects → length kept ≡ length shown → AreAfter effects shown kept → ComesOut r stands columns shown out → out.freed ≡ [] → out.locals ≡ kept
  only_kept [] effects [] [] out are long afters comes free = ap (λ (o : Outcome). o.locals) comes
  only_kept [] effects [] (k ∷ kept) out are long afters comes free = absurd (omega arith)
  only_kept [] effects (l ∷ shown) kept out are long afters comes free = absurd comes
  only_kept (c ∷ columns) effects [] kept out are long afters comes free = absurd comes
  only_kept (c ∷ columns) [] (l ∷ shown) kept out are long afters comes free = absurd are
  only_kept (c ∷ columns) (e ∷ effects) (l ∷ shown) [] out are long afters comes free = absurd (omega arith)
  only_kept (c ∷ columns) (e ∷ effects) (l ∷ shown) (k ∷ kept) out are long afters (rest, comes, column) free =
      let one = nth_of stands c.node _ are.0 in
      let other = nth_of stands c.node _ column in
      let same : other.0 ≡ one.0 = same_Some other.0 one.0 (sym other.1 ∙ one.1) in
      let first : Some k ≡ Some (after e l) = afters zero e l refl refl in
      let is : k ≡ local_after r one.0 c.site l = same_Some k (after e l) first ∙ after_effect c.site e l one.0 one.2 in
      by one.0 is (rw same at other.2) (only_kept columns effects shown kept rest are.1 (omega arith) (later e effects l k shown kept afters) comes)
    where
      by : (stand : Stand) → k ≡ local_after r stand c.site l → ColumnComes r c l rest out stand → (rest.freed ≡ [] → rest.locals ≡ kept) → out.locals ≡ k ∷ kept
      by stand is (inl e') others =
          let none : rest.freed ≡ [] = sym (ap (λ (o : Outcome). o.freed) e') ∙ free in
          ap (λ (o : Outcome). o.locals) e' ∙ ap (λ (x : Local). x ∷ rest.locals) (sym is) ∙ ap (λ (ls : List Local). k ∷ ls) (others none)
      by stand is (inr (f, source, alone, e')) others = absurd (let some : f ∷ rest.freed ≡ [] = sym (ap (λ (o : Outcome). o.freed) e') ∙ free in cc)

  unwritten : (w : Option Written) → option_map (link_shown r) w ≡ None → w ≡ None
  unwritten None h = refl
  unwritten (Some w) h = absurd cc

  -- nothing is written where no effect is one
  pub leaves_none : (columns : List NodeSite) (effects : List Effect) → AreEffects r stands columns effects → ((k : ℕ) (e : Effect) → slice_get effects k ≡ Some e → IsNoEffect e) → LeavesColumns r columns stands
  leaves_none [] effects are none = tt
  leaves_none (c ∷ columns) [] are none = absurd are
  leaves_none (c ∷ columns) (e ∷ effects) are none =
      let one = nth_of stands c.node _ are.0 in
      let nothing = none zero e refl in
      (to_nth stands c.node _ one.0 one.1 (sym one.2.state ∙ nothing.0, unwritten (link_written r one.0 c.site) (sym one.2.link ∙ nothing.1)), leaves_none columns effects are.1 (λ k. none (suc k)))

pub leaves_if : (r : RuleParts) (stands : List Stand) (columns : List NodeSite) (effects : List Effect) (b : Bool) → AreEffects r stands columns effects → OnTrue b ((k : ℕ) (e : Effect) → slice_get effects k ≡ Some e → IsNoEffect e) → OnTrue b (LeavesColumns r columns stands)
leaves_if r stands columns effects true are none = leaves_none r stands columns effects are none
leaves_if r stands columns effects false are none = tt

-- ---- the local states that a loop makes

-- the first of them are made
abbrev pub AreAfterUpto : ℕ → List Effect → List Local → List Local → Type 0
AreAfterUpto n effects shown kept = (k : ℕ) → k < n → (e : Effect) (l : Local) → slice_get effects k ≡ Some e → slice_get shown k ≡ Some l → slice_get kept k ≡ Some (after e l)

pub AreAfterUpto-set : (effects : List Effect) (shown kept : List Local) (n : ℕ) (e : Effect) (l : Local) → AreAfterUpto n effects shown kept → n < length kept → slice_get effects n ≡ Some e → slice_get shown n ≡ Some l → AreAfterUpto (n + 1) effects shown (slice_set kept n (after e l))
AreAfterUpto-set effects shown kept n e l before within at there k less d m at' there' = elim (last_or k n less) [
  | inl lower ↦ slice_get-set_before kept n k (after e l) lower ∙ before k lower d m at' there'
  | inr same ↦
      let one : e ≡ d = same_Some e d (sym at ∙ rw same at at') in
      let two : l ≡ m = same_Some l m (sym there ∙ rw same at there') in
      rw (same, ← one, ← two) (slice_get-set_same kept n (after e l) within)
]

-- and all of them where the rest is left out
taken_at : {X : Type 0} (xs : List X) (n k : ℕ) → k < n → slice_get (take n xs) k ≡ slice_get xs k
taken_at [] zero k less = refl
taken_at [] (suc n) k less = refl
taken_at (x ∷ xs) zero k less = absurd (omega arith)
taken_at (x ∷ xs) (suc n) zero less = refl
taken_at (x ∷ xs) (suc n) (suc k) less = taken_at xs n k (omega arith)

pub AreAfter-taken : (effects : List Effect) (shown kept : List Local) (n : ℕ) → length shown ≤ n → AreAfterUpto n effects shown kept → AreAfter effects shown (take (length shown) kept)
AreAfter-taken effects shown kept n past made k e l at there =
    let inside = slice_get_within shown k l there in
    taken_at kept (length shown) k inside ∙ made k (omega arith) e l at there

-- ---- what is asked

pub unmet-agrees : (r : RuleParts) (stands : List Stand) (columns : List NodeSite) (asked : List Asked) (shown : List Local) → ((q : Asked) → Has asked q → IsAskedAt r stands columns q) → IsUnmet asked shown → ¬ AgreesLeft r stands columns shown
unmet-agrees r stands columns asked shown are (q, l, has, at, unmet) agrees =
    let column = are q has in
    let here = zip_get (λ (c : NodeSite) (l : Local). Nth stands c.node (StandAgrees r c.site l)) columns shown q.column column.0 agrees column.1 in
    let ask = nth_of stands column.0.node _ column.2 in
    by column.0 ask.0 here.0 ask.1 (same_Some here.0 l (sym here.1 ∙ at)) here.2 ask.2
  where
    by : (c : NodeSite) (stand : Stand) (m : Local) → slice_get stands c.node ≡ Some stand → m ≡ l → Nth stands c.node (StandAgrees r c.site m) → ((l : Local) → StandAgrees r c.site l stand → MeetsAsked q l) → ⊥
    by c stand m stood same agrees meets =
        let other = nth_of stands c.node (StandAgrees r c.site m) agrees in
        let fine : StandAgrees r c.site m stand = subst (StandAgrees r c.site m) (same_Some other.0 stand (sym other.1 ∙ stood)) other.2 in
        unmet (meets l (subst (λ (x : Local). StandAgrees r c.site x stand) same fine))

-- ---- what side effects free

pub none_listed : {X : Type 0} (xs : List X) (b : Bool) → b ≡ eqb (length xs) 0 → b ≡ true → xs ≡ []
none_listed [] b told is = refl
none_listed (x ∷ xs) b told is = let zero_long : length (x ∷ xs) ≡ 0 = (Decides-eqb (length (x ∷ xs)) 0).0 (sym told ∙ is) in absurd (omega arith)

pub no_links : (links : List LocalLink) (effects : List Effect) (shown : List Local) → links ≡ [] → HasNoFreeing links effects shown
no_links links effects shown none k e l at there unwritten has = let h = rw none at has in let e = h.1 in cc

-- at the first sites of a left node
abbrev pub FreesUpto : RuleParts → ℕ → ℕ → ℕ → List LocalLink → Type 0
FreesUpto r n a k links = (y : ℕ) → y < k → HasNodeSite r.left n y → touched r n y ≡ true → LeavesOpen (link_test r.left n y) → Has links (local.Partner a y)

module _ (r : RuleParts) (n a k : ℕ) (links : List LocalLink) (before : FreesUpto r n a k links) where
  pub frees_next : FreesUpto r n a (k + 1) (links ++ local.Partner a k ∷ [])
  frees_next y less has touch leaves = elim (last_or y k less) [
    | inl lower ↦ Has-left links _ _ (before y lower has touch leaves)
    | inr same ↦ last links _ _ (ap (local.Partner a) same)
  ]

  pub frees_no_more : (HasNodeSite r.left n k → touched r n k ≡ true → ¬ LeavesOpen (link_test r.left n k)) → FreesUpto r n a (k + 1) links
  frees_no_more not y less has touch leaves = elim (last_or y k less) [
    | inl lower ↦ before y lower has touch leaves
    | inr same ↦ absurd (not (rw same at has) (rw same at touch) (rw same at leaves))
  ]

-- where the outcome frees a test, it is at a column that showed its source
pub record FreesAt (r : RuleParts) (stands : List Stand) (columns : List NodeSite) (shown : List Local) (f : FreedBy) : Type 0 where
  pub index : ℕ
  pub column : NodeSite
  pub listed : slice_get columns index ≡ Some column
  pub showed : Local
  pub there : slice_get shown index ≡ Some showed
  pub stand : Stand
  pub stood : slice_get stands column.node ≡ Some stand
  pub source : IsSource r stand column showed f

module _ (r : RuleParts) (stands : List Stand) where
  deeper : (c : NodeSite) (l : Local) (columns : List NodeSite) (shown : List Local) (f : FreedBy) → FreesAt r stands columns shown f → FreesAt r stands (c ∷ columns) (l ∷ shown) f
  deeper c l columns shown f h = record {
    index = suc h.index;
    column = h.column;
    listed = h.listed;
    showed = h.showed;
    there = h.there;
    stand = h.stand;
    stood = h.stood;
    source = h.source;
  }

  pub frees_at : (columns : List NodeSite) (shown : List Local) (out : Outcome) → ComesOut r stands columns shown out → (f : FreedBy) → Has out.freed f → FreesAt r stands columns shown f
  frees_at [] [] out comes f (k, is) = absurd (let none = rw (ap (λ (o : Outcome). o.freed) comes) at is in cc)
  frees_at [] (l ∷ shown) out comes f has = absurd comes
  frees_at (c ∷ columns) [] out comes f has = absurd comes
  frees_at (c ∷ columns) (l ∷ shown) out (rest, comes, column) f (k, is) = let one = nth_of stands c.node _ column in by one.0 one.1 one.2 (frees_at columns shown rest comes f) k is
    where
      by : (stand : Stand) → slice_get stands c.node ≡ Some stand → ColumnComes r c l rest out stand → (Has rest.freed f → FreesAt r stands columns shown f) → (k : ℕ) → slice_get out.freed k ≡ Some f → FreesAt r stands (c ∷ columns) (l ∷ shown) f
      by stand stood (inl e) others k at = let same : slice_get rest.freed k ≡ Some f = rw (ap (λ (o : Outcome). o.freed) e) at at in deeper c l columns shown f (others (k, same))
      by stand stood (inr (h, source, alone, e)) others zero at =
          let first : slice_get (h ∷ rest.freed) zero ≡ Some f = rw (ap (λ (o : Outcome). o.freed) e) at at in
          let same : h ≡ f = cc in
          record { index = 0; column = c; listed = refl; showed = l; there = refl; stand = stand; stood = stood; source = rw same at source }
      by stand stood (inr (h, source, alone, e)) others (suc k) at = let same : slice_get (h ∷ rest.freed) (suc k) ≡ Some f = rw (ap (λ (o : Outcome). o.freed) e) at at in deeper c l columns shown f (others (k, same))

-- a touched site of which a free test is known to come leaves its partner open: a bond to a left node is touched at both ends
module _ (sig : List TypeEntry) (r : RuleParts) (rule : IsRuleOver sig r) (v : List Node) (stands : List Stand) (freed : List FreedBy) (g : List Node) (free : AreFreed r v stands freed) (before : IsBefore sig r v stands freed g) (f : FreedBy) (has : Has freed f) where
  open_or_bond : (b : LinkTest) (m t : ℕ) → LinkImplies g (To m t) b → LeavesOpen b ⊎ (b ≡ To m t)
  open_or_bond Any m t p = inl tt
  open_or_bond Free m t p = absurd p
  open_or_bond Bound m t p = inl tt
  open_or_bond (Partner b y) m t p = inl tt
  open_or_bond (To k u) m t p = inr cc

  untouched : (n s a : ℕ) → FitsStand r (Left n) a → link_written r (Left n) s ≡ None → touched r n s ≡ false
  unfolding touched
  untouched n s a fits none = rw (fits.0, none) refl

  there : (stand : Stand) → link_written r stand f.site ≡ None → WasThere stand
  there (Left n) none = tt
  there (Made k) none = absurd cc
  there Outside none = tt

  pub leaves_open : LeavesOpen (link_test r.left f.from f.«at»)
  leaves_open =
      let stand = free.unwritten f has in
      let p = has_place r stands f.node stand.0 stand.1 (there stand.0 stand.2) in
      let bond = before.sources f has p.0 p.1 in
      let back = before.valid.linked.both_ways p.0 f.site f.from f.«at» bond in
      elim (open_or_bond (link_test r.left f.from f.«at») p.0 f.site (rw back at (before.left_links f.from f.«at»))) [
        | inl leaves ↦ leaves
        | inr is ↦ absurd (named stand.0 stand.1 stand.2 p.0 p.1 is)
      ]
    where
      named : (stand : Stand) → slice_get stands f.node ≡ Some stand → link_written r stand f.site ≡ None → (p : ℕ) → place_of r stands f.node ≡ Some p → link_test r.left f.from f.«at» ≡ To p f.site → ⊥
      named stand stood none p place is =
          let at : slice_get stands f.node ≡ Some (Left p) = left_at r stands f.node p place (named_within sig r rule f.from f.«at» p f.site is) in
          let same : stand ≡ Left p = same_Some stand (Left p) (sym stood ∙ at) in
          let typed = type_of_node_site v f.node f.site (tested_site v f.node f.site Free (free.free f has) (λ f. absurd cc)) in
          let no = untouched p f.site typed.0 (before.stand.fit f.node typed.0 (Left p) at typed.1) (rw same at none) in
          let yes = sym (rule.is_rule.whole_bonds f.from f.«at» p f.site is) ∙ free.by_touched f has in
          let f : true ≡ false = sym yes ∙ no in
          cc
