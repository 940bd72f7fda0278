-- Local states that a column may have shown: those of a view's rows, all valid ones, and one for each column.
use Rattle.std.proofs.Common.{◌≡◌, ◌≢◌, ℕ, zero, suc, ◌<◌, ◌⊎◌, ◌↔◌, inl, inr, List, [], ◌∷◌, drop, refl, sym, ap, ◌∙◌, length, Option, Some, None}
use Rattle.std.specs.Prelude.{slice_get, option_map}
use Rattle.std.specs.Option.{option_map_or}
use Rattle.std.proofs.lemmas.List.{length-map}
use Rattle.std.proofs.lemmas.Option.{same_Some, slice_get-map}
use Rattle.kasa_graph.specs.Lists.{Has}
use Rattle.kasa_graph.specs.Signature.{TypeEntry, SiteEntry, sites_of, state_names, state_counts, HasSite}
use Rattle.kasa_graph.proofs.ListLemmas.{some_at}
use Rattle.kasa_families.specs.declared.row.LocalLink.{LocalLink}
use Rattle.kasa_families.specs.declared.row.LocalLink.TheVariants.{Free, Partner}
use Rattle.kasa_families.specs.declared.row.Local.{Local}
use Rattle.kasa_families.specs.declared.row.Row.TheVariants.{Locals}
use Rattle.kasa_families.specs.declared.shape.NodeSite.{NodeSite}
use Rattle.kasa_families.specs.Local.{IsLocal, IsLocalState, IsLocalLink}
use Rattle.kasa_families.proofs.ColumnLemmas.{nth_of, to_nth}
use Rattle.kasa_pre.specs.declared.Stand.{Stand}
use Rattle.kasa_columns.specs.Stands.{AreFrom}
use Rattle.kasa_columns.specs.Chosen.{ListsAt, IsPartnerOf, IsInFront, IsAmong, AreAmong}
use Rattle.kasa_columns.proofs.OutcomeLemmas.{drop_at}

-- ---- all local states of a site

count_at : (sig : List TypeEntry) (a s count : ℕ) → HasSite sig a s → count ≡ length (state_names sig a s) → slice_get (state_counts sig a) s ≡ Some count
unfolding state_counts state_names
count_at sig a s count site same =
    let entry = some_at (sites_of sig a) s (rw (length-map (sites_of sig a) (λ (x : SiteEntry). length x.states)) at site) in
    slice_get-map (λ (x : SiteEntry). length x.states) (sites_of sig a) s ∙ ap (option_map (λ (x : SiteEntry). length x.states)) entry.1 ∙ ap Some (sym (same ∙ ap (λ (o : Option SiteEntry). length (option_map_or (λ (x : SiteEntry). x.states) o [])) entry.1))

-- a local state with a state and a link
abbrev pub IsLinked : Option ℕ → LocalLink → Local → Type 0
IsLinked state link l = (l.state ≡ state) × (l.link ≡ link)

pub linked_all : (state : Option ℕ) (links : List LocalLink) (l : Local) → AreFrom (IsLinked state) links l ↔ ((l.state ≡ state) × Has links l.link)
linked_all state links l = (λ f. (f.2.0, rw f.2.1 f.1), λ h. (l.link, h.1, (h.0, refl)))

pub links_all : (sig : List TypeEntry) (links : List LocalLink) → ((link : LocalLink) → Has links link ↔ (Has (Free ∷ []) link ⊎ ((b : ℕ) × ((y : ℕ) × IsPartnerOf sig b y link)))) → (link : LocalLink) → Has links link ↔ IsLocalLink sig link
links_all sig links each link = (λ has. there ((each link).0 has), λ is. (each link).1 (back link is))
  where
    free : (k : ℕ) → slice_get (Free ∷ []) k ≡ Some link → IsLocalLink sig link
    free zero e = let same : Free ≡ link = cc in rw (← same) tt
    free (suc k) e = absurd cc

    there : Has (Free ∷ []) link ⊎ ((b : ℕ) × ((y : ℕ) × IsPartnerOf sig b y link)) → IsLocalLink sig link
    there (inl has) = free has.0 has.1
    there (inr (b, (y, (e, has)))) = rw e has

    back : (link : LocalLink) → IsLocalLink sig link → Has (Free ∷ []) link ⊎ ((b : ℕ) × ((y : ℕ) × IsPartnerOf sig b y link))
    back Free is = inl (zero, refl)
    back (Partner b y) is = inr (b, (y, (refl, is)))

-- no state where the site has none
pub no_states : (sig : List TypeEntry) (a s count : ℕ) → HasSite sig a s → count ≡ length (state_names sig a s) → count ≡ 0 → (state : Option ℕ) → Has (None ∷ []) state ↔ IsLocalState (slice_get (state_counts sig a) s) state
no_states sig a s count site same none state = rw (count_at sig a s count site same, none) (λ has. only has.0 has.1, λ e. (zero, ap Some (sym e)))
  where
    only : (k : ℕ) → slice_get (None ∷ []) k ≡ Some state → state ≡ None
    only zero e = cc
    only (suc k) e = absurd cc

-- and else each of its states
abbrev pub IsNumbered : ℕ → ℕ → Option ℕ → Type 0
IsNumbered count u state = (state ≡ Some u) × (u < count)

pub some_states : (sig : List TypeEntry) (a s count : ℕ) (states : List (Option ℕ)) → HasSite sig a s → count ≡ length (state_names sig a s) → count ≢ 0 → ((state : Option ℕ) → Has states state ↔ (Has {X = Option ℕ} [] state ⊎ ((u : ℕ) × IsNumbered count u state))) → (state : Option ℕ) → Has states state ↔ IsLocalState (slice_get (state_counts sig a) s) state
some_states sig a s count states site same some each state = rw (count_at sig a s count site same) (by count some each)
  where
    by : (count : ℕ) → count ≢ 0 → ((state : Option ℕ) → Has states state ↔ (Has {X = Option ℕ} [] state ⊎ ((u : ℕ) × IsNumbered count u state))) → Has states state ↔ IsLocalState (Some count) state
    by zero some each = absurd (some refl)
    by (suc k) some each = (
      λ has. elim ((each state).0 has) [ inl none ↦ absurd (let e = none.1 in cc) | inr u ↦ (u.0, u.1.0, u.1.1) ],
      λ h. (each state).1 (inr (h.0, (h.1, h.2))),
    )

-- each state with each link
abbrev pub IsStated : List LocalLink → Option ℕ → Local → Type 0
IsStated links state l = (l.state ≡ state) × Has links l.link

pub states_all : (sig : List TypeEntry) (a s : ℕ) (states : List (Option ℕ)) (links : List LocalLink) → ((state : Option ℕ) → Has states state ↔ IsLocalState (slice_get (state_counts sig a) s) state) → ((link : LocalLink) → Has links link ↔ IsLocalLink sig link) → (l : Local) → AreFrom (IsStated links) states l ↔ IsLocal sig a s l
states_all sig a s states links one each l = (
  λ f. record { state = rw f.2.0 ((one f.0).0 f.1); link = (each l.link).0 f.2.1 },
  λ is. (l.state, (one l.state).1 is.state, (refl, (each l.link).1 is.link)),
)

-- ---- what a row lists

pub lists_locals : (place : ℕ) (locals : List Local) (l : Local) → (slice_get locals place ≡ Some l) ↔ ListsAt place (Locals locals) l
lists_locals place locals l = (λ e. (locals, refl, e), λ h. let e = h.1 in let same : locals ≡ h.0 = cc in rw same h.2)

-- ---- one local state for each column

pub among_none : (stands : List Stand) (shown : List Local) → Has ([] ∷ []) shown ↔ AreAmong stands [] [] shown
among_none stands shown = (λ has. there shown has.0 has.1, back shown)
  where
    there : (shown : List Local) (k : ℕ) → slice_get ([] ∷ []) k ≡ Some shown → AreAmong stands [] [] shown
    there [] k e = tt
    there (l ∷ shown) zero e = absurd cc
    there (l ∷ shown) (suc k) e = absurd cc

    back : (shown : List Local) → AreAmong stands [] [] shown → Has ([] ∷ []) shown
    back [] among = (zero, refl)
    back (l ∷ shown) among = absurd among

-- of no columns
pub among_end : (stands : List Stand) (columns : List NodeSite) (choices all : List (List Local)) → all ≡ [] ∷ [] → length columns ≡ length choices → (shown : List Local) → Has all shown ↔ AreAmong stands (drop (length columns) columns) (drop (length columns) choices) shown
among_end stands columns choices all e same shown = rw (e, none columns, same, none choices) (among_none stands shown)
  where
    none : {X : Type 0} (xs : List X) → drop (length xs) xs ≡ []
    none [] = refl
    none (x ∷ xs) = none xs

among_more : (stands : List Stand) (stand : Stand) (c : NodeSite) (columns : List NodeSite) (choice states : List Local) (choices rest all : List (List Local)) → slice_get stands c.node ≡ Some stand → ((l : Local) → Has states l ↔ IsAmong choice l stand) → ((shown : List Local) → Has rest shown ↔ AreAmong stands columns choices shown) → ((shown : List Local) → Has all shown ↔ AreFrom (IsInFront rest) states shown) → (shown : List Local) → Has all shown ↔ AreAmong stands (c ∷ columns) (choice ∷ choices) shown
among_more stands stand c columns choice states choices rest all stood one others each shown = (λ has. there ((each shown).0 has), λ among. (each shown).1 (back shown among))
  where
    there : AreFrom (IsInFront rest) states shown → AreAmong stands (c ∷ columns) (choice ∷ choices) shown
    there (l, has, (more, among, e)) = rw e (to_nth stands c.node _ stand stood ((one l).0 has), (others more).0 among)

    back : (shown : List Local) → AreAmong stands (c ∷ columns) (choice ∷ choices) shown → AreFrom (IsInFront rest) states shown
    back [] among = absurd among
    back (l ∷ shown) among =
        let s = nth_of stands c.node _ among.0 in
        let same : s.0 ≡ stand = same_Some s.0 stand (sym s.1 ∙ stood) in
        (l, (one l).1 (rw same at s.2), (shown, (others shown).1 among.1, refl))

pub among_from : (stands : List Stand) (stand : Stand) (columns : List NodeSite) (choices : List (List Local)) (k n : ℕ) (c : NodeSite) (choice states : List Local) (rest all : List (List Local)) → suc n ≡ k → slice_get columns n ≡ Some c → slice_get choices n ≡ Some choice → slice_get stands c.node ≡ Some stand → ((l : Local) → Has states l ↔ IsAmong choice l stand) → ((shown : List Local) → Has rest shown ↔ AreAmong stands (drop k columns) (drop k choices) shown) → ((shown : List Local) → Has all shown ↔ AreFrom (IsInFront rest) states shown) → (shown : List Local) → Has all shown ↔ AreAmong stands (drop n columns) (drop n choices) shown
among_from stands stand columns choices k n c choice states rest all next at there stood one others each =
    rw (drop_at columns n c at, drop_at choices n choice there)
    (among_more stands stand c (drop (suc n) columns) choice states (drop (suc n) choices) rest all stood one (rw next others) each)
