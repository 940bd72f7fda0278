-- Names among the keys of a signature's maps.
use Rattle.std.proofs.Common.{◌≡◌, ◌∙◌, ◌<◌, ◌≤◌, ◌+◌, one-add, ℕ, zero, suc, List, [], ◌∷◌, ◌++◌, Bool, true, false, not, cond, length, map, refl, sym, ap, arith, Option, Some, None, MatchOption, slice_get, option_map, position, ◌==◌, Vec, nat_lt}
use Rattle.std.proofs.lemmas.Option.{slice_get_within, slice_get-map}
use Rattle.std.specs.Option.{option_map_or}
use Rattle.std.specs.Global.{Global}
use Rattle.std.specs.List.{position_or_len, list_any}
use Rattle.std.specs.Map.{keys_of}
use Rattle.std.specs.Cmp.Lexicographic.{pointwise}
use Rattle.std.proofs.lemmas.Grind.{common_steps}
use Rattle.std.proofs.lemmas.Bool.Decides.{Decides-eqb, nat_tests}
use Rattle.std.proofs.lemmas.Slice.Eq.{slice_eq-Decides}
use Rattle.indexmap.specs.IndexMap.{insert_entry}
use Rattle.indexmap.specs.IndexSet.{insert_key}
use Rattle.kasa_lists.specs.Lists.{Has}
use Rattle.kasa_graph.specs.Signature.{SiteEntry, TypeEntry, sites_of, state_names, state_counts, type_names, site_names, HasSite, HasState}
use Rattle.kasa_lists.proofs.Elements.{some_at}
use Rattle.kasa_lists.proofs.Maps.{length-map}
use Rattle.kasa_graph.specs.SignatureView.{StateSet, SiteMap, name_bytes, site_entry, type_entry}

-- whether a key is the name
abbrev pub is_key : List ℕ → Vec ℕ Global → Bool
is_key name key = pointwise ◌==◌ name key.items

is : (name : List ℕ) (key : Vec ℕ Global) → key.items ≡ name → is_key name key ≡ true
is name key e = (slice_eq-Decides Decides-eqb name key.items _ refl).1 (sym e)

same : (name : List ℕ) (key : Vec ℕ Global) → is_key name key ≡ true → key.items ≡ name
same name key h = sym ((slice_eq-Decides Decides-eqb name key.items _ refl).0 h)

differs : (name : List ℕ) (key : Vec ℕ Global) → ¬ (key.items ≡ name) → is_key name key ≡ false
differs name key other = by (is_key name key) refl
  where
    by : (b : Bool) → b ≡ is_key name key → b ≡ false
    by false e = refl
    by true e = absurd (other (same name key (sym e)))

-- what a search by name among the keys gives
abbrev pub Finds : List ℕ → List (Vec ℕ Global) → Option ℕ → Type 0
Finds name keys o = MatchOption o (¬ Has (map name_bytes keys) name) (λ k. slice_get (map name_bytes keys) k ≡ Some name)

-- where a key is the name, the first that is lies within
within : (name : List ℕ) (keys : List (Vec ℕ Global)) (k : ℕ) → slice_get (map name_bytes keys) k ≡ Some name → position_or_len (is_key name) keys < length keys
within name [] k at = absurd cc
within name (key ∷ keys) zero at = let this : is_key name key ≡ true = is name key cc in rw this (omega arith)
within name (key ∷ keys) (suc k) at = by (is_key name key) (within name keys k at)
  where
    by : (b : Bool) → position_or_len (is_key name) keys < length keys → cond (not b) (1 + position_or_len (is_key name) keys) 0 < suc (length keys)
    by true h = omega arith
    by false h = omega arith

at_first : (name : List ℕ) (keys : List (Vec ℕ Global)) → position_or_len (is_key name) keys < length keys → slice_get (map name_bytes keys) (position_or_len (is_key name) keys) ≡ Some name
at_first name [] h = absurd (omega arith)
at_first name (key ∷ keys) h = by (is_key name key) refl h (at_first name keys)
  where
    by : (b : Bool) → b ≡ is_key name key → cond (not b) (1 + position_or_len (is_key name) keys) 0 < suc (length keys) →
        (position_or_len (is_key name) keys < length keys → slice_get (map name_bytes keys) (position_or_len (is_key name) keys) ≡ Some name) →
        slice_get (map name_bytes (key ∷ keys)) (cond (not b) (1 + position_or_len (is_key name) keys) 0) ≡ Some name
    by true e h rest = ap (λ x. Some x) (same name key (sym e))
    by false e h rest = rw (one-add (position_or_len (is_key name) keys)) (rest (omega arith))

pub find_key : (name : List ℕ) (keys : List (Vec ℕ Global)) (o : Option ℕ) → o ≡ position (is_key name) keys → Finds name keys o
find_key name keys o found = rw found (by (nat_lt (position_or_len (is_key name) keys) (length keys)) refl)
  where
    by : (b : Bool) → b ≡ nat_lt (position_or_len (is_key name) keys) (length keys) → Finds name keys (cond b (Some (position_or_len (is_key name) keys)) None)
    by true e = at_first name keys (grind (arith, common_steps, nat_tests, e))
    by false e = λ h. absurd (no (grind (arith, common_steps, nat_tests, e)) (within name keys h.0 h.1))
      where
        no : length keys ≤ position_or_len (is_key name) keys → position_or_len (is_key name) keys < length keys → ⊥
        no p q = omega arith

-- the names of the types, and of a type's sites, are the keys
pub type_names-keys : (es : List (Vec ℕ Global × SiteMap)) → type_names (map type_entry es) ≡ map name_bytes (keys_of es)
type_names-keys [] = refl
type_names-keys (e ∷ es) = ap (λ names. e.0.items ∷ names) (type_names-keys es)

pub site_names-keys : (es : List (Vec ℕ Global × StateSet)) → map (λ s. s.name) (map site_entry es) ≡ map name_bytes (keys_of es)
site_names-keys [] = refl
site_names-keys (e ∷ es) = ap (λ names. e.0.items ∷ names) (site_names-keys es)

-- a new name goes last
pub insert-new : {X : Type 0} (es : List (Vec ℕ Global × X)) (key : Vec ℕ Global) (x : X) → ¬ Has (map name_bytes (keys_of es)) key.items →
    insert_entry (λ a b. pointwise ◌==◌ a.items b.items) es key x ≡ es ++ (key, x) ∷ []
insert-new [] key x absent = refl
insert-new (e ∷ es) key x absent =
    let here : ¬ (e.0.items ≡ key.items) = λ eq. absent (0, ap (λ n. Some n) eq) in
    let rest : ¬ Has (map name_bytes (keys_of es)) key.items = λ h. absent (suc h.0, h.1) in
    rw (differs key.items e.0 here, insert-new es key x rest)

-- so does a new key of a set
pub insert_key-new : (keys : List (Vec ℕ Global)) (key : Vec ℕ Global) → ¬ Has (map name_bytes keys) key.items →
    insert_key (λ a b. pointwise ◌==◌ a.items b.items) keys key ≡ keys ++ key ∷ []
insert_key-new keys key absent = rw (none keys absent)
  where
    none : (keys : List (Vec ℕ Global)) → ¬ Has (map name_bytes keys) key.items → list_any (λ b. pointwise ◌==◌ key.items b.items) keys ≡ false
    none [] absent = refl
    none (k ∷ keys) absent =
        let here : ¬ (k.items ≡ key.items) = λ eq. absent (0, ap (λ n. Some n) eq) in
        let rest : ¬ Has (map name_bytes keys) key.items = λ h. absent (suc h.0, h.1) in
        rw (differs key.items k here, none keys rest)

-- what has a name is there
pub type_within : (sig : List TypeEntry) (a : ℕ) (name : List ℕ) → slice_get (type_names sig) a ≡ Some name → a < length sig
type_within sig a name at =
    let within = slice_get_within (type_names sig) a name at in
    rw (length-map (λ (t : TypeEntry). t.name) sig) at within

pub HasSite-named : (sig : List TypeEntry) (a x : ℕ) (name : List ℕ) → slice_get (site_names sig a) x ≡ Some name → HasSite sig a x
unfolding state_counts
HasSite-named sig a x name at =
    let within = slice_get_within (site_names sig a) x name at in
    let sites = rw (length-map (λ (s : SiteEntry). s.name) (sites_of sig a)) at within in
    rw (length-map (λ (s : SiteEntry). length s.states) (sites_of sig a)) sites

pub HasState-within : (sig : List TypeEntry) (a x u : ℕ) → HasSite sig a x → u < length (state_names sig a x) → HasState sig a x u
unfolding state_counts state_names
HasState-within sig a x u site h =
    let sites = rw (length-map (λ (s : SiteEntry). length s.states) (sites_of sig a)) at site in
    let there = some_at (sites_of sig a) x sites in (
      length there.0.states,
      slice_get-map (λ (s : SiteEntry). length s.states) (sites_of sig a) x ∙ ap (option_map (λ s. length s.states)) there.1,
      rw there.1 at h,
    )

pub HasState-named : (sig : List TypeEntry) (a x u : ℕ) (name : List ℕ) → slice_get (state_names sig a x) u ≡ Some name → HasState sig a x u
unfolding state_counts state_names
HasState-named sig a x u name at = by (slice_get (sites_of sig a) x) refl at
  where
    by : (o : Option SiteEntry) → slice_get (sites_of sig a) x ≡ o → slice_get (option_map_or (λ s. s.states) o []) u ≡ Some name → HasState sig a x u
    by None e at = absurd (none u at)
      where
        none : (u : ℕ) → slice_get [] u ≡ Some name → ⊥
        none zero h = cc
        none (suc u) h = cc
    by (Some s) e at = (
      length s.states,
      slice_get-map (λ (s : SiteEntry). length s.states) (sites_of sig a) x ∙ ap (option_map (λ s. length s.states)) e,
      slice_get_within s.states u name at,
    )
