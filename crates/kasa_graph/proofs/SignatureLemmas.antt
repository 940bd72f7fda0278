-- What the maps of a signature say of its types, sites and states.
use Rattle.std.proofs.Common.{◌≡◌, ◌≤◌, ◌<◌, ◌+◌, ◌++◌, take, add-one, ℕ, zero, suc, List, [], ◌∷◌, length, map, refl, sym, ap, ◌∙◌, arith, Option, Some, None, slice_get, option_map, Vec}
use Rattle.std.specs.Option.{option_map_or}
use Rattle.std.specs.Global.{Global}
use Rattle.std.proofs.lemmas.Option.{slice_get-map}
use Rattle.std.proofs.lemmas.List.{take_all}
use Rattle.indexmap.specs.IndexMap.{set_value_at}
use Rattle.kasa_lists.specs.Lists.{update}
use Rattle.kasa_graph.specs.Signature.{SiteEntry, TypeEntry, sites_of, state_names, state_counts, HasSite, AreNames, IsSignature}
use Rattle.kasa_graph.specs.SignatureView.{StateSet, SiteMap, name_bytes, site_entry, type_entry}
pub use Rattle.kasa_lists.proofs.Maps.{length-map, map-push}
use Rattle.kasa_lists.proofs.Different.{AllDifferent-[]}

-- no type
pub sites_of-[] : (a : ℕ) → sites_of [] a ≡ []
unfolding sites_of
sites_of-[] zero = refl
sites_of-[] (suc a) = refl

pub state_names-[] : (a x : ℕ) → state_names [] a x ≡ []
unfolding state_names
state_names-[] a x = rw (sites_of-[] a) (none x)
  where
    none : (k : ℕ) → option_map_or (λ (s : SiteEntry). s.states) (slice_get [] k) [] ≡ []
    none zero = refl
    none (suc k) = refl

AreNames-[] : (most : ℕ) → AreNames most []
AreNames-[] most = record { differ = AllDifferent-[]; few = omega arith; are_names = λ k name h. absurd (none_at k h) }
  where
    none_at : {X : Type 0} {x : X} (k : ℕ) → slice_get [] k ≡ Some x → ⊥
    none_at zero h = cc
    none_at (suc k) h = cc

pub IsSignature-[] : IsSignature []
IsSignature-[] = record {
  types = AreNames-[] 500;
  sites = λ a. rw (sites_of-[] a) (AreNames-[] 32);
  states = λ a x. rw (state_names-[] a x) (AreNames-[] 32);
}

-- the sites of a type, and the states of a site, found in the maps
pub sites_at : (es : List (Vec ℕ Global × SiteMap)) (a : ℕ) → sites_of (map type_entry es) a ≡ option_map_or (λ e. map site_entry e.1.entries) (slice_get es a) []
unfolding sites_of
sites_at es a = rw (slice_get-map type_entry es a) (by (slice_get es a))
  where
    by : (o : Option (Vec ℕ Global × SiteMap)) → option_map_or (λ t. t.sites) (option_map type_entry o) [] ≡ option_map_or (λ e. map site_entry e.1.entries) o []
    by None = refl
    by (Some e) = refl

pub states_at : (es : List (Vec ℕ Global × StateSet)) (x : ℕ) → option_map_or (λ s. s.states) (slice_get (map site_entry es) x) [] ≡ option_map_or (λ e. map name_bytes e.1.keys) (slice_get es x) []
states_at es x = rw (slice_get-map site_entry es x) (by (slice_get es x))
  where
    by : (o : Option (Vec ℕ Global × StateSet)) → option_map_or (λ s. s.states) (option_map site_entry o) [] ≡ option_map_or (λ e. map name_bytes e.1.keys) o []
    by None = refl
    by (Some e) = refl

pub states_of : (es : List (Vec ℕ Global × StateSet)) (x : ℕ) (name : Vec ℕ Global) (states : StateSet) → slice_get es x ≡ Some (name, states) →
    option_map_or (λ s. s.states) (slice_get (map site_entry es) x) [] ≡ map name_bytes states.keys
states_of es x name states at = states_at es x ∙ rw at

pub no_type : (es : List (Vec ℕ Global × SiteMap)) (a : ℕ) → None ≡ slice_get es a → sites_of (map type_entry es) a ≡ []
no_type es a h = rw (sites_at es a, ← h)

pub some_type : (es : List (Vec ℕ Global × SiteMap)) (a : ℕ) (e : Vec ℕ Global × SiteMap) → Some e ≡ slice_get es a → sites_of (map type_entry es) a ≡ map site_entry e.1.entries
some_type es a e h = rw (sites_at es a, ← h)

pub sites_in : (es : List (Vec ℕ Global × SiteMap)) (a agent : ℕ) (sig : List TypeEntry) (e : Vec ℕ Global × SiteMap) → map type_entry es ≡ sig → a ≡ agent → slice_get es a ≡ Some e → sites_of sig agent ≡ map site_entry e.1.entries
sites_in es a agent sig e is same at = rw (← is, ← same) (some_type es a e (sym at))

pub no_site : (es : List (Vec ℕ Global × SiteMap)) (a x : ℕ) (e : Vec ℕ Global × SiteMap) → Some e ≡ slice_get es a → None ≡ slice_get e.1.entries x → state_names (map type_entry es) a x ≡ []
unfolding state_names
no_site es a x e h none = rw (some_type es a e h, states_at e.1.entries x, ← none)

pub some_site : (es : List (Vec ℕ Global × SiteMap)) (a x : ℕ) (e : Vec ℕ Global × SiteMap) (f : Vec ℕ Global × StateSet) → Some e ≡ slice_get es a → Some f ≡ slice_get e.1.entries x →
    state_names (map type_entry es) a x ≡ map name_bytes f.1.keys
unfolding state_names
some_site es a x e f h some = rw (some_type es a e h, states_at e.1.entries x, ← some)

pub no_type_states : (es : List (Vec ℕ Global × SiteMap)) (a x : ℕ) → None ≡ slice_get es a → state_names (map type_entry es) a x ≡ []
unfolding state_names
no_type_states es a x h = rw (no_type es a h) (none x)
  where
    none : (k : ℕ) → option_map_or (λ (s : SiteEntry). s.states) (slice_get [] k) [] ≡ []
    none zero = refl
    none (suc k) = refl

-- so they are few
pub few_sites : (es : List (Vec ℕ Global × SiteMap)) (a : ℕ) (e : Vec ℕ Global × SiteMap) → IsSignature (map type_entry es) → Some e ≡ slice_get es a → length e.1.entries ≤ 32
few_sites es a e is at =
    let few : length (map (λ (s : SiteEntry). s.name) (sites_of (map type_entry es) a)) ≤ 32 = (is.sites a).few in
    rw (some_type es a e at, length-map (λ (s : SiteEntry). s.name) (map site_entry e.1.entries), length-map site_entry e.1.entries) at few

pub few_states : (es : List (Vec ℕ Global × SiteMap)) (a x : ℕ) (e : Vec ℕ Global × SiteMap) (f : Vec ℕ Global × StateSet) → IsSignature (map type_entry es) → Some e ≡ slice_get es a →
    Some f ≡ slice_get e.1.entries x → length f.1.keys ≤ 32
few_states es a x e f is at at_site =
    let few : length (state_names (map type_entry es) a x) ≤ 32 = (is.states a x).few in
    rw (some_site es a x e f at at_site, length-map name_bytes f.1.keys) at few

-- a site belongs to a type, and is one of its sites
pub site_within : (sig : List TypeEntry) (a x : ℕ) → HasSite sig a x → x < length (sites_of sig a)
unfolding state_counts
site_within sig a x h = rw (length-map (λ (s : SiteEntry). length s.states) (sites_of sig a)) at h

pub type_of_site : (sig : List TypeEntry) (a x : ℕ) → HasSite sig a x → a < length sig
unfolding state_counts sites_of
type_of_site [] a x h = absurd (none a h)
  where
    none : (a : ℕ) → x < length (map (λ (s : SiteEntry). length s.states) (option_map_or (λ (t : TypeEntry). t.sites) (slice_get [] a) [])) → ⊥
    none zero h = omega arith
    none (suc a) h = omega arith
type_of_site (t ∷ sig) zero x h = omega arith
type_of_site (t ∷ sig) (suc a) x h = let rest = type_of_site sig a x h in omega arith

-- another value at an index of a map
module _ {X E : Type 0} (entry : Vec ℕ Global × X → E) where
  pub map-set_value : (grow : E → E) (es : List (Vec ℕ Global × X)) (i : ℕ) (e : Vec ℕ Global × X) (w : X) → slice_get es i ≡ Some e → entry (e.0, w) ≡ grow (entry e) →
      map entry (set_value_at es i w) ≡ update (map entry es) i grow
  map-set_value grow [] i e w at h = refl
  map-set_value grow (x ∷ es) zero e w at h =
      let same : x ≡ e = cc in
      ap (λ y. y ∷ map entry es) (ap (λ (y : Vec ℕ Global × X). entry (y.0, w)) same ∙ h ∙ ap (λ y. grow (entry y)) (sym same))
  map-set_value grow (x ∷ es) (suc i) e w at h = ap (λ ys. entry x ∷ ys) (map-set_value grow es i e w at h)

  pub map-same_value : (es : List (Vec ℕ Global × X)) (i : ℕ) (e : Vec ℕ Global × X) (w : X) → slice_get es i ≡ Some e → entry (e.0, w) ≡ entry e → map entry (set_value_at es i w) ≡ map entry es
  map-same_value [] i e w at h = refl
  map-same_value (x ∷ es) zero e w at h =
      let same : x ≡ e = cc in
      ap (λ y. y ∷ map entry es) (ap (λ (y : Vec ℕ Global × X). entry (y.0, w)) same ∙ h ∙ ap (λ y. entry y) (sym same))
  map-same_value (x ∷ es) (suc i) e w at h = ap (λ ys. entry x ∷ ys) (map-same_value es i e w at h)

-- the counts of states up to one more site
pub counts_more : (sig : List TypeEntry) (a x k : ℕ) → x < length (sites_of sig a) → k ≡ length (state_names sig a x) →
    take (x + 1) (state_counts sig a) ≡ take x (state_counts sig a) ++ k ∷ []
unfolding state_counts state_names
counts_more sig a x k h is = rw (is, add-one) (more (sites_of sig a) x h)
  where
    more : (xs : List SiteEntry) (i : ℕ) → i < length xs →
        take (suc i) (map (λ s. length s.states) xs) ≡ take i (map (λ s. length s.states) xs) ++ length (option_map_or (λ (s : SiteEntry). s.states) (slice_get xs i) []) ∷ []
    more [] i h = absurd (omega arith)
    more (x ∷ xs) zero h = refl
    more (x ∷ xs) (suc i) h = ap (λ ys. length x.states ∷ ys) (more xs i (omega arith))

pub counts_all : (sig : List TypeEntry) (a n : ℕ) → length (sites_of sig a) ≤ n → take n (state_counts sig a) ≡ state_counts sig a
unfolding state_counts
counts_all sig a n h = take_all n (map (λ s. length s.states) (sites_of sig a)) (rw (length-map (λ (s : SiteEntry). length s.states) (sites_of sig a)) h)
