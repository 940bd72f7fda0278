-- One more mention: what a signature is after it, by what was found.
use Rattle.std.proofs.Common.{◌≡◌, ◌≤◌, ◌<◌, ◌⊎◌, inl, inr, ℕ, zero, suc, List, [], ◌∷◌, ◌++◌, length, Option, Some, None, refl, sym, subst, ◌∙◌, arith}
use Rattle.std.specs.Prelude.{Result, Ok, Err, slice_get}
use Rattle.kasa_num.specs.declared.Place.{Place}
use Rattle.kasa_graph.specs.Lists.{Has}
use Rattle.kasa_graph.specs.Signature.{SiteEntry, TypeEntry, sites_of, state_names, type_names, site_names, with_new_type, with_new_site, with_new_state, IsSignature}
use Rattle.kasa_graph.proofs.SignatureLemmas.{length-map}
use Rattle.kasa_graph.proofs.NameLemmas.{type_within}
use Rattle.kasa_sig.specs.declared.names.Source.{Source}
use Rattle.kasa_sig.specs.declared.names.Source.TheVariants.{Declarations, Uses}
use Rattle.kasa_sig.specs.declared.fault.SigFault.{SigFault}
use Rattle.kasa_sig.specs.declared.fault.SigFault.TheVariants.{TooManyTypes, TooManySites, TooManyStates}
use Rattle.kasa_sig.specs.Mentions.{Mention, of_type, of_site, of_state}
use Rattle.kasa_sig.specs.Outcome.{number_of, again, one_more, owned, step}
use Rattle.kasa_sig.specs.Owners.{HaveDifferentNames, IsTypeNamed, IsSiteNamed}
use Rattle.kasa_sig.proofs.NumberLemmas.{number_of-found, number_of-at, one_more-there, one_more-full, one_more-new, one_more-Ok}
use Rattle.kasa_sig.proofs.KeptLemmas.{Keeps, Keeps-same, Keeps-new_type, Keeps-new_site, Keeps-new_state, IsTypeNamed-kept, types_more, sites_more}

pub differ_in : (sig : List TypeEntry) → IsSignature sig → HaveDifferentNames sig
differ_in sig is = record { types = is.types.differ; sites = λ a. (is.sites a).differ }

types_len : (sig : List TypeEntry) → length (type_names sig) ≡ length sig
types_len sig = length-map (λ (t : TypeEntry). t.name) sig

sites_len : (sig : List TypeEntry) (a : ℕ) → length (site_names sig a) ≡ length (sites_of sig a)
sites_len sig a = length-map (λ (s : SiteEntry). s.name) (sites_of sig a)

-- ---- types

module _ (source : Source) (sig : List TypeEntry) (name : List ℕ) (place : Place) where
  pub step_type-again : (a : ℕ) → slice_get (type_names sig) a ≡ Some name → step source sig (of_type name place) ≡ again source place sig
  unfolding step
  step_type-again a at = one_more-there (type_names sig) name 500 (again source place sig) (TooManyTypes place) (with_new_type sig name) a at

  pub step_type-full : ¬ Has (type_names sig) name → 500 ≤ length sig → step source sig (of_type name place) ≡ Err (TooManyTypes place)
  unfolding step
  step_type-full absent full = one_more-full (type_names sig) name 500 (again source place sig) (TooManyTypes place) (with_new_type sig name) absent (rw (types_len sig) full)

  pub step_type-new : ¬ Has (type_names sig) name → length sig < 500 → step source sig (of_type name place) ≡ Ok (with_new_type sig name)
  unfolding step
  step_type-new absent room = one_more-new (type_names sig) name 500 (again source place sig) (TooManyTypes place) (with_new_type sig name) absent (rw (types_len sig) room)

-- the last element
last : {X : Type 0} (xs : List X) (x : X) (k : ℕ) → k ≡ length xs → slice_get (xs ++ x ∷ []) k ≡ Some x
last [] x zero e = refl
last [] x (suc k) e = absurd (omega arith)
last (y ∷ xs) x zero e = absurd (omega arith)
last (y ∷ xs) x (suc k) e = last xs x k (omega arith)

-- the new type is found by its name
pub new_type_named : (sig : List TypeEntry) (name : List ℕ) (a : ℕ) → HaveDifferentNames sig → ¬ Has (type_names sig) name → a ≡ length sig → IsTypeNamed (with_new_type sig name) a name
new_type_named sig name a differ absent e = record {
  differ = (Keeps-new_type sig name absent).differ differ;
  named = rw (types_more sig name) (last (type_names sig) name a (e ∙ sym (types_len sig)));
}

-- ---- sites of a type

module _ (source : Source) (sig : List TypeEntry) (a : ℕ) (agent name : List ℕ) (place : Place) (owner : IsTypeNamed sig a agent) where
  pub step_site-again : (x : ℕ) → slice_get (site_names sig a) x ≡ Some name → step source sig (of_site agent name place) ≡ again source place sig
  unfolding step
  step_site-again x at = rw (number_of-found (type_names sig) agent a owner.differ.types owner.named) (one_more-there (site_names sig a) name 32 (again source place sig) (TooManySites place) (with_new_site sig a name) x at)

  pub step_site-full : ¬ Has (site_names sig a) name → 32 ≤ length (sites_of sig a) → step source sig (of_site agent name place) ≡ Err (TooManySites place)
  unfolding step
  step_site-full absent full = rw (number_of-found (type_names sig) agent a owner.differ.types owner.named) (one_more-full (site_names sig a) name 32 (again source place sig) (TooManySites place) (with_new_site sig a name) absent (rw (sites_len sig a) full))

  pub step_site-new : ¬ Has (site_names sig a) name → length (sites_of sig a) < 32 → step source sig (of_site agent name place) ≡ Ok (with_new_site sig a name)
  unfolding step
  step_site-new absent room = rw (number_of-found (type_names sig) agent a owner.differ.types owner.named) (one_more-new (site_names sig a) name 32 (again source place sig) (TooManySites place) (with_new_site sig a name) absent (rw (sites_len sig a) room))

-- the new site is found by its name
pub new_site_named : (sig : List TypeEntry) (a x : ℕ) (agent name : List ℕ) → IsTypeNamed sig a agent → ¬ Has (site_names sig a) name → x ≡ length (sites_of sig a) → IsSiteNamed (with_new_site sig a name) a x agent name
new_site_named sig a x agent name owner absent e = record {
  owner = IsTypeNamed-kept sig (with_new_site sig a name) a agent (Keeps-new_site sig a name within absent) owner;
  named = rw (sites_more sig a name within) (last (site_names sig a) name x (e ∙ sym (sites_len sig a)));
}
  where
    within : a < length sig
    within = type_within sig a agent owner.named

-- ---- states of a site

module _ (source : Source) (sig : List TypeEntry) (a x : ℕ) (agent site name : List ℕ) (place : Place) (owner : IsSiteNamed sig a x agent site) where
  at_owner : step source sig (of_state agent site name place) ≡ one_more (state_names sig a x) name 32 (again source place sig) (TooManyStates place) (with_new_state sig a x name)
  unfolding step
  at_owner = rw (number_of-found (type_names sig) agent a owner.owner.differ.types owner.owner.named, number_of-found (site_names sig a) site x (owner.owner.differ.sites a) owner.named)

  pub step_state-again : (u : ℕ) → slice_get (state_names sig a x) u ≡ Some name → step source sig (of_state agent site name place) ≡ again source place sig
  step_state-again u at = at_owner ∙ one_more-there (state_names sig a x) name 32 (again source place sig) (TooManyStates place) (with_new_state sig a x name) u at

  pub step_state-full : ¬ Has (state_names sig a x) name → 32 ≤ length (state_names sig a x) → step source sig (of_state agent site name place) ≡ Err (TooManyStates place)
  step_state-full absent full = at_owner ∙ one_more-full (state_names sig a x) name 32 (again source place sig) (TooManyStates place) (with_new_state sig a x name) absent full

  pub step_state-new : ¬ Has (state_names sig a x) name → length (state_names sig a x) < 32 → step source sig (of_state agent site name place) ≡ Ok (with_new_state sig a x name)
  step_state-new absent room = at_owner ∙ one_more-new (state_names sig a x) name 32 (again source place sig) (TooManyStates place) (with_new_state sig a x name) absent room

-- ---- what stays

again-Ok : (source : Source) (place : Place) (sig next : List TypeEntry) → again source place sig ≡ Ok next → sig ≡ next
again-Ok Declarations place sig next e = absurd cc
again-Ok Uses place sig next e = cc

module _ (source : Source) (sig next : List TypeEntry) where
  kept : (place : Place) (names : List (List ℕ)) (name : List ℕ) (added : List TypeEntry) → (¬ Has names name → Keeps sig added) → (again source place sig ≡ Ok next) ⊎ ((¬ Has names name) × (added ≡ next)) → Keeps sig next
  kept place names name added more (inl e) = subst (Keeps sig) (again-Ok source place sig next e) (Keeps-same sig)
  kept place names name added more (inr h) = subst (Keeps sig) h.1 (more h.0)

  owned-kept : (o : Option ℕ) (more : ℕ → Result (List TypeEntry) SigFault) → ((n : ℕ) → o ≡ Some n → more n ≡ Ok next → Keeps sig next) → owned o sig more ≡ Ok next → Keeps sig next
  owned-kept None more keeps e = let same : sig ≡ next = cc in subst (Keeps sig) same (Keeps-same sig)
  owned-kept (Some n) more keeps e = keeps n refl e

  pub Keeps-step : (m : Mention) → step source sig m ≡ Ok next → Keeps sig next
  unfolding step
  Keeps-step (of_type name place) e =
      kept place (type_names sig) name (with_new_type sig name) (Keeps-new_type sig name)
      (one_more-Ok (type_names sig) name 500 (again source place sig) (TooManyTypes place) (with_new_type sig name) next e)
  Keeps-step (of_site agent name place) e =
      owned-kept (number_of (type_names sig) agent) (λ a. one_more (site_names sig a) name 32 (again source place sig) (TooManySites place) (with_new_site sig a name))
      (λ a at f. kept place (site_names sig a) name (with_new_site sig a name) (Keeps-new_site sig a name (type_within sig a agent (number_of-at (type_names sig) agent a at)))
      (one_more-Ok (site_names sig a) name 32 (again source place sig) (TooManySites place) (with_new_site sig a name) next f)) e
  Keeps-step (of_state agent site name place) e =
      owned-kept (number_of (type_names sig) agent) (λ a. owned (number_of (site_names sig a) site) sig (λ x. one_more (state_names sig a x) name 32 (again source place sig) (TooManyStates place) (with_new_state sig a x name)))
      (λ a at f. owned-kept (number_of (site_names sig a) site) (λ x. one_more (state_names sig a x) name 32 (again source place sig) (TooManyStates place) (with_new_state sig a x name))
      (λ x on g. kept place (state_names sig a x) name (with_new_state sig a x name) (λ absent. Keeps-new_state sig a x name (type_within sig a agent (number_of-at (type_names sig) agent a at)))
      (one_more-Ok (state_names sig a x) name 32 (again source place sig) (TooManyStates place) (with_new_state sig a x name) next g)) f) e
