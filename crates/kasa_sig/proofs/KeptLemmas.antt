-- What stays of a signature with one more name: its types and sites keep their numbers, and names stay different.
use Rattle.std.proofs.Common.{◌≡◌, ◌≢◌, ◌<◌, ◌⊎◌, inl, inr, ℕ, List, [], ◌∷◌, ◌++◌, length, map, Some, refl, sym, ap, ◌∙◌}
use Rattle.std.specs.Prelude.{slice_get}
use Rattle.std.proofs.lemmas.Option.{slice_get_within}
use Rattle.kasa_graph.specs.Lists.{Has, AllDifferent}
use Rattle.kasa_graph.specs.Signature.{SiteEntry, TypeEntry, type_names, site_names, with_new_type, with_new_site, with_state_name, with_new_state}
use Rattle.kasa_graph.proofs.ListLemmas.{same_or_not, some_at, slice_get-append_left}
use Rattle.kasa_graph.proofs.SignatureLemmas.{map-push}
use Rattle.kasa_graph.proofs.NewNameLemmas.{AllDifferent-push, sites_of-new_type, type_names-update, sites_of-update_same, sites_of-update_other, sites_of-at, site_names-with_state_name}
use Rattle.kasa_sig.specs.Owners.{HaveDifferentNames, IsTypeNamed, IsSiteNamed}

pub record Keeps (sig next : List TypeEntry) : Type 0 where
  pub differ : HaveDifferentNames sig → HaveDifferentNames next
  pub types : (a : ℕ) (name : List ℕ) → slice_get (type_names sig) a ≡ Some name → slice_get (type_names next) a ≡ Some name
  pub sites : (a x : ℕ) (name : List ℕ) → slice_get (site_names sig a) x ≡ Some name → slice_get (site_names next a) x ≡ Some name

pub Keeps-same : (sig : List TypeEntry) → Keeps sig sig
Keeps-same sig = record { differ = λ h. h; types = λ a name h. h; sites = λ a x name h. h }

pub Keeps-then : (sig mid next : List TypeEntry) → Keeps sig mid → Keeps mid next → Keeps sig next
Keeps-then sig mid next one two = record {
  differ = λ h. two.differ (one.differ h);
  types = λ a name h. two.types a name (one.types a name h);
  sites = λ a x name h. two.sites a x name (one.sites a x name h);
}

-- an element stays where more stand behind it
still : {X : Type 0} (xs ys : List X) (k : ℕ) (x : X) → slice_get xs k ≡ Some x → slice_get (xs ++ ys) k ≡ Some x
still xs ys k x at = slice_get-append_left xs ys k (slice_get_within xs k x at) ∙ at

-- ---- one more type

pub types_more : (sig : List TypeEntry) (name : List ℕ) → type_names (with_new_type sig name) ≡ type_names sig ++ name ∷ []
types_more sig name = map-push (λ (t : TypeEntry). t.name) sig (record { name = name; sites = [] })

sites_same : (sig : List TypeEntry) (name : List ℕ) (a : ℕ) → site_names (with_new_type sig name) a ≡ site_names sig a
sites_same sig name a = ap (map (λ (s : SiteEntry). s.name)) (sites_of-new_type sig name a)

pub Keeps-new_type : (sig : List TypeEntry) (name : List ℕ) → ¬ Has (type_names sig) name → Keeps sig (with_new_type sig name)
Keeps-new_type sig name absent = record {
  differ = λ h. record {
    types = rw (types_more sig name) (AllDifferent-push (type_names sig) name h.types absent);
    sites = λ a. rw (sites_same sig name a) (h.sites a);
  };
  types = λ a other at. rw (types_more sig name) (still (type_names sig) (name ∷ []) a other at);
  sites = λ a x other at. rw (sites_same sig name a) at;
}

-- ---- one more site

types_with_site : (sig : List TypeEntry) (a : ℕ) (name : List ℕ) → type_names (with_new_site sig a name) ≡ type_names sig
types_with_site sig a name = type_names-update (λ (t : TypeEntry). record t { sites = t.sites ++ record { name = name; states = [] } ∷ [] }) (λ t. refl) sig a

pub sites_more : (sig : List TypeEntry) (a : ℕ) (name : List ℕ) → a < length sig → site_names (with_new_site sig a name) a ≡ site_names sig a ++ name ∷ []
sites_more sig a name owner =
    let at = some_at sig a owner in
    ap (map (λ (s : SiteEntry). s.name)) (sites_of-update_same sig a at.0 (λ (t : TypeEntry). record t { sites = t.sites ++ record { name = name; states = [] } ∷ [] }) at.1)
    ∙ map-push (λ (s : SiteEntry). s.name) at.0.sites (record { name = name; states = [] })
    ∙ ap (λ (ss : List SiteEntry). map (λ (s : SiteEntry). s.name) ss ++ name ∷ []) (sym (sites_of-at sig a at.0 at.1))

sites_other : (sig : List TypeEntry) (a b : ℕ) (name : List ℕ) → a ≢ b → site_names (with_new_site sig a name) b ≡ site_names sig b
sites_other sig a b name ne = ap (map (λ (s : SiteEntry). s.name)) (sites_of-update_other sig a b (λ (t : TypeEntry). record t { sites = t.sites ++ record { name = name; states = [] } ∷ [] }) ne)

pub Keeps-new_site : (sig : List TypeEntry) (a : ℕ) (name : List ℕ) → a < length sig → ¬ Has (site_names sig a) name → Keeps sig (with_new_site sig a name)
Keeps-new_site sig a name owner absent = record {
  differ = λ h. record {
    types = rw (types_with_site sig a name) h.types;
    sites = λ b. sites_differ h b (same_or_not a b);
  };
  types = λ b other at. rw (types_with_site sig a name) at;
  sites = λ b x other at. sites_stay b x other at (same_or_not a b);
}
  where
    sites_differ : HaveDifferentNames sig → (b : ℕ) → (a ≡ b) ⊎ (a ≢ b) → AllDifferent (site_names (with_new_site sig a name) b)
    sites_differ h b (inl e) = rw (← e, sites_more sig a name owner) (AllDifferent-push (site_names sig a) name (h.sites a) absent)
    sites_differ h b (inr ne) = rw (sites_other sig a b name ne) (h.sites b)

    sites_stay : (b x : ℕ) (other : List ℕ) → slice_get (site_names sig b) x ≡ Some other → (a ≡ b) ⊎ (a ≢ b) → slice_get (site_names (with_new_site sig a name) b) x ≡ Some other
    sites_stay b x other at (inl e) = rw (← e, sites_more sig a name owner) (still (site_names sig a) (name ∷ []) x other (rw e at))
    sites_stay b x other at (inr ne) = rw (sites_other sig a b name ne) at

-- ---- one more state

types_with_state : (sig : List TypeEntry) (a x : ℕ) (name : List ℕ) → type_names (with_new_state sig a x name) ≡ type_names sig
types_with_state sig a x name = type_names-update (λ (t : TypeEntry). record t { sites = with_state_name t.sites x name }) (λ t. refl) sig a

sites_with_state : (sig : List TypeEntry) (a x : ℕ) (name : List ℕ) → a < length sig → (b : ℕ) → (a ≡ b) ⊎ (a ≢ b) → site_names (with_new_state sig a x name) b ≡ site_names sig b
sites_with_state sig a x name owner b (inl e) =
    let at = some_at sig a owner in
    rw (← e) (ap (map (λ (s : SiteEntry). s.name)) (sites_of-update_same sig a at.0 (λ (t : TypeEntry). record t { sites = with_state_name t.sites x name }) at.1)
    ∙ site_names-with_state_name at.0.sites x name
    ∙ ap (map (λ (s : SiteEntry). s.name)) (sym (sites_of-at sig a at.0 at.1)))
sites_with_state sig a x name owner b (inr ne) = ap (map (λ (s : SiteEntry). s.name)) (sites_of-update_other sig a b (λ (t : TypeEntry). record t { sites = with_state_name t.sites x name }) ne)

pub Keeps-new_state : (sig : List TypeEntry) (a x : ℕ) (name : List ℕ) → a < length sig → Keeps sig (with_new_state sig a x name)
Keeps-new_state sig a x name owner = record {
  differ = λ h. record {
    types = rw (types_with_state sig a x name) h.types;
    sites = λ b. rw (sites_with_state sig a x name owner b (same_or_not a b)) (h.sites b);
  };
  types = λ b other at. rw (types_with_state sig a x name) at;
  sites = λ b y other at. rw (sites_with_state sig a x name owner b (same_or_not a b)) at;
}

-- ---- owners

pub IsTypeNamed-kept : (sig next : List TypeEntry) (a : ℕ) (name : List ℕ) → Keeps sig next → IsTypeNamed sig a name → IsTypeNamed next a name
IsTypeNamed-kept sig next a name keeps h = record { differ = keeps.differ h.differ; named = keeps.types a name h.named }

pub IsSiteNamed-kept : (sig next : List TypeEntry) (a x : ℕ) (agent name : List ℕ) → Keeps sig next → IsSiteNamed sig a x agent name → IsSiteNamed next a x agent name
IsSiteNamed-kept sig next a x agent name keeps h = record { owner = IsTypeNamed-kept sig next a agent keeps h.owner; named = keeps.sites a x name h.named }
