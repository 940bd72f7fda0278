-- A signature with one more name is one still.
use Rattle.std.proofs.Common.{◌≡◌, ◌≢◌, ◌<◌, ◌⊎◌, inl, inr, ℕ, zero, suc, List, [], ◌∷◌, ◌++◌, length, map, refl, sym, ap, subst, ◌∙◌, arith, Some, slice_get, length-append}
use Rattle.std.specs.Option.{option_map_or}
use Rattle.kasa_lists.specs.Lists.{update, Has}
use Rattle.kasa_graph.specs.Signature.{SiteEntry, TypeEntry, sites_of, state_names, type_names, site_names, with_new_type, with_new_site, with_state_name, with_new_state, IsName, AreNames, IsSignature}
pub use Rattle.kasa_lists.proofs.Elements.{at_push}
pub use Rattle.kasa_lists.proofs.Different.{AllDifferent-push}
use Rattle.kasa_lists.proofs.Numbers.{same_or_not}
use Rattle.kasa_lists.proofs.Elements.{some_at}
use Rattle.kasa_lists.proofs.Updates.{slice_get-update_same, slice_get-update_other}
use Rattle.kasa_lists.proofs.Maps.{map-push, length-map}

AreNames-push : (most : ℕ) (names : List (List ℕ)) (name : List ℕ) → AreNames most names → ¬ Has names name → IsName name → length names < most → AreNames most (names ++ name ∷ [])
AreNames-push most names name old absent is_name room = record {
  differ = AllDifferent-push names name old.differ absent;
  few = rw (length-append names (name ∷ [])) (omega arith);
  are_names = λ k other at. elim (at_push names name other k at) [ inl e ↦ old.are_names k other e | inr e ↦ subst IsName e.1 is_name ];
}

-- ---- one more type

pub sites_of-new_type : (sig : List TypeEntry) (name : List ℕ) (a : ℕ) → sites_of (with_new_type sig name) a ≡ sites_of sig a
unfolding sites_of
sites_of-new_type [] name zero = refl
sites_of-new_type [] name (suc a) = refl
sites_of-new_type (t ∷ sig) name zero = refl
sites_of-new_type (t ∷ sig) name (suc a) = sites_of-new_type sig name a

state_names-new_type : (sig : List TypeEntry) (name : List ℕ) (a x : ℕ) → state_names (with_new_type sig name) a x ≡ state_names sig a x
unfolding state_names
state_names-new_type sig name a x = rw (sites_of-new_type sig name a)

pub IsSignature-new_type : (sig : List TypeEntry) (name : List ℕ) → IsSignature sig → ¬ Has (type_names sig) name → IsName name → length sig < 500 → IsSignature (with_new_type sig name)
IsSignature-new_type sig name is absent is_name room = record {
  types = rw (map-push (λ (t : TypeEntry). t.name) sig (record { name = name; sites = [] }))
      (AreNames-push 500 (type_names sig) name is.types absent is_name (rw (length-map (λ (t : TypeEntry). t.name) sig) room));
  sites = λ a. rw (sites_of-new_type sig name a) (is.sites a);
  states = λ a x. rw (state_names-new_type sig name a x) (is.states a x);
}

-- ---- one more site, one more state

module _ (f : TypeEntry → TypeEntry) (keeps : (t : TypeEntry) → (f t).name ≡ t.name) where
  pub type_names-update : (sig : List TypeEntry) (a : ℕ) → type_names (update sig a f) ≡ type_names sig
  type_names-update [] a = refl
  type_names-update (t ∷ sig) zero = rw (keeps t)
  type_names-update (t ∷ sig) (suc a) = ap (λ names. t.name ∷ names) (type_names-update sig a)

pub sites_of-update_same : (sig : List TypeEntry) (a : ℕ) (t : TypeEntry) (f : TypeEntry → TypeEntry) → slice_get sig a ≡ Some t → sites_of (update sig a f) a ≡ (f t).sites
unfolding sites_of
sites_of-update_same sig a t f at = rw (slice_get-update_same sig a f, at)

pub sites_of-update_other : (sig : List TypeEntry) (a b : ℕ) (f : TypeEntry → TypeEntry) → a ≢ b → sites_of (update sig a f) b ≡ sites_of sig b
unfolding sites_of
sites_of-update_other sig a b f ne = rw (slice_get-update_other sig a b f ne)

pub sites_of-at : (sig : List TypeEntry) (a : ℕ) (t : TypeEntry) → slice_get sig a ≡ Some t → sites_of sig a ≡ t.sites
unfolding sites_of
sites_of-at sig a t at = rw at

-- the states of one of some sites
abbrev pub states_in : List SiteEntry → ℕ → List (List ℕ)
states_in sites x = option_map_or (λ s. s.states) (slice_get sites x) []

pub state_names-in : (sig : List TypeEntry) (a x : ℕ) → state_names sig a x ≡ states_in (sites_of sig a) x
unfolding state_names
state_names-in sig a x = refl

states_in-push : (sites : List SiteEntry) (name : List ℕ) (x : ℕ) → states_in (sites ++ record { name = name; states = [] } ∷ []) x ≡ states_in sites x
states_in-push [] name zero = refl
states_in-push [] name (suc x) = refl
states_in-push (s ∷ sites) name zero = refl
states_in-push (s ∷ sites) name (suc x) = states_in-push sites name x

pub IsSignature-new_site : (sig : List TypeEntry) (a : ℕ) (name : List ℕ) → IsSignature sig → a < length sig → ¬ Has (site_names sig a) name → IsName name → length (sites_of sig a) < 32 →
    IsSignature (with_new_site sig a name)
IsSignature-new_site sig a name is owner absent is_name room = record {
  types = rw (type_names-update (λ (t : TypeEntry). record t { sites = t.sites ++ record { name = name; states = [] } ∷ [] }) (λ t. refl) sig a) is.types;
  sites = λ b. sites b (same_or_not a b);
  states = λ b x. states b x (same_or_not a b);
}
  where
    t : TypeEntry
    t = (some_at sig a owner).0

    grown : sites_of (with_new_site sig a name) a ≡ sites_of sig a ++ record { name = name; states = [] } ∷ []
    grown =
        let at = some_at sig a owner in
        sites_of-update_same sig a at.0 (λ (t : TypeEntry). record t { sites = t.sites ++ record { name = name; states = [] } ∷ [] }) at.1
        ∙ ap (λ sites. sites ++ record { name = name; states = [] } ∷ []) (sym (sites_of-at sig a at.0 at.1))

    other : (b : ℕ) → a ≢ b → sites_of (with_new_site sig a name) b ≡ sites_of sig b
    other b ne = sites_of-update_other sig a b _ ne

    sites : (b : ℕ) → (a ≡ b) ⊎ (a ≢ b) → AreNames 32 (site_names (with_new_site sig a name) b)
    sites b (inl e) =
        let names = AreNames-push 32 (site_names sig a) name (is.sites a) absent is_name (rw (length-map (λ (s : SiteEntry). s.name) (sites_of sig a)) room) in
        rw (← e, grown, map-push (λ (s : SiteEntry). s.name) (sites_of sig a) (record { name = name; states = [] })) names
    sites b (inr ne) = rw (other b ne) (is.sites b)

    states : (b x : ℕ) → (a ≡ b) ⊎ (a ≢ b) → AreNames 32 (state_names (with_new_site sig a name) b x)
    states b x (inl e) = rw (← e, state_names-in (with_new_site sig a name) a x, grown, states_in-push, ← state_names-in sig a x) (is.states a x)
    states b x (inr ne) = rw (state_names-in (with_new_site sig a name) b x, other b ne, ← state_names-in sig b x) (is.states b x)

pub site_names-with_state_name : (sites : List SiteEntry) (x : ℕ) (name : List ℕ) → map (λ s. s.name) (with_state_name sites x name) ≡ map (λ s. s.name) sites
site_names-with_state_name [] x name = refl
site_names-with_state_name (s ∷ sites) zero name = refl
site_names-with_state_name (s ∷ sites) (suc x) name = ap (λ names. s.name ∷ names) (site_names-with_state_name sites x name)

states_in-with_same : (sites : List SiteEntry) (x : ℕ) (name : List ℕ) → x < length sites → states_in (with_state_name sites x name) x ≡ states_in sites x ++ name ∷ []
states_in-with_same [] x name h = absurd (omega arith)
states_in-with_same (s ∷ sites) zero name h = refl
states_in-with_same (s ∷ sites) (suc x) name h = states_in-with_same sites x name (omega arith)

states_in-with_other : (sites : List SiteEntry) (x y : ℕ) (name : List ℕ) → x ≢ y → states_in (with_state_name sites x name) y ≡ states_in sites y
states_in-with_other sites x y name ne = rw (slice_get-update_other sites x y (λ (s : SiteEntry). record s { states = s.states ++ name ∷ [] }) ne)

pub IsSignature-new_state : (sig : List TypeEntry) (a x : ℕ) (name : List ℕ) → IsSignature sig → a < length sig → x < length (sites_of sig a) → ¬ Has (state_names sig a x) name → IsName name →
    length (state_names sig a x) < 32 → IsSignature (with_new_state sig a x name)
IsSignature-new_state sig a x name is owner site absent is_name room = record {
  types = rw (type_names-update (λ (t : TypeEntry). record t { sites = with_state_name t.sites x name }) (λ t. refl) sig a) is.types;
  sites = λ b. sites b (same_or_not a b);
  states = λ b y. states b y (same_or_not a b) (same_or_not x y);
}
  where
    grown : sites_of (with_new_state sig a x name) a ≡ with_state_name (sites_of sig a) x name
    grown =
        let at = some_at sig a owner in
        sites_of-update_same sig a at.0 (λ (t : TypeEntry). record t { sites = with_state_name t.sites x name }) at.1
        ∙ ap (λ sites. with_state_name sites x name) (sym (sites_of-at sig a at.0 at.1))

    other : (b : ℕ) → a ≢ b → sites_of (with_new_state sig a x name) b ≡ sites_of sig b
    other b ne = sites_of-update_other sig a b _ ne

    sites : (b : ℕ) → (a ≡ b) ⊎ (a ≢ b) → AreNames 32 (site_names (with_new_state sig a x name) b)
    sites b (inl e) = rw (← e, grown, site_names-with_state_name (sites_of sig a) x name) (is.sites a)
    sites b (inr ne) = rw (other b ne) (is.sites b)

    states : (b y : ℕ) → (a ≡ b) ⊎ (a ≢ b) → (x ≡ y) ⊎ (x ≢ y) → AreNames 32 (state_names (with_new_state sig a x name) b y)
    states b y (inl e) (inl f) =
        let names = AreNames-push 32 (state_names sig a x) name (is.states a x) absent is_name room in
        rw (← e, ← f, state_names-in (with_new_state sig a x name) a x, grown, states_in-with_same (sites_of sig a) x name site, ← state_names-in sig a x) names
    states b y (inl e) (inr f) =
        rw (← e, state_names-in (with_new_state sig a x name) a y, grown, states_in-with_other (sites_of sig a) x y name f, ← state_names-in sig a y) (is.states a y)
    states b y (inr ne) f = rw (state_names-in (with_new_state sig a x name) b y, other b ne, ← state_names-in sig b y) (is.states b y)
