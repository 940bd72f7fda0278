-- Some mentions, one behind the other.
use Rattle.std.proofs.Common.{◌≡◌, ◌≤◌, ◌<◌, ◌+◌, ℕ, Bool, List, [], ◌∷◌, ◌++◌, length, take, refl, sym, ap, subst, ◌∙◌, get_or, append_assoc}
use Rattle.std.specs.Prelude.{Result, Ok, Err, OnOk, IfErr, ◌≢◌}
use Rattle.std.specs.List.{flat_map}
use Rattle.std.proofs.lemmas.List.{take_more, take_all, append-nil}
use Rattle.std.proofs.lemmas.Grind.{flat_map-append}
use Rattle.std.proofs.lemmas.List.Concat.{flat_map_single}
use Rattle.kasa_syntax.specs.declared.tokens.Span.{Span}
use Rattle.kasa_syntax.specs.declared.agents.SiteText.{SiteText}
use Rattle.kasa_syntax.specs.declared.agents.AgentText.{AgentText}
use Rattle.kasa_syntax.specs.declared.agents.LinkWord.{LinkWord}
use Rattle.kasa_syntax.specs.declared.agents.LinkWord.TheVariants.{Free, Hash, Bound, Partner, Label}
use Rattle.kasa_syntax.specs.declared.decls.SiteDecl.{SiteDecl}
use Rattle.kasa_syntax.specs.declared.decls.AgentDecl.{AgentDecl}
use Rattle.kasa_graph.specs.Signature.{TypeEntry, type_names, site_names}
use Rattle.kasa_sig.specs.declared.names.Source.{Source}
use Rattle.kasa_sig.specs.declared.fault.SigFault.{SigFault}
use Rattle.kasa_sig.specs.declared.fault.SigFault.TheVariants.{NoMemory}
use Rattle.kasa_sig.specs.Mentions.{Mention, word, type_mention, site_mention, state_mention, declared_site, declared_type, used_site, used_agent, used_states, used_partner, used_partners, brackets_stand_first, in_order}
use Rattle.kasa_sig.specs.Outcome.{step, go_on, after, type_at, site_at}
use Rattle.kasa_sig.specs.Owners.{IsTypeNamed, IsSiteNamed}
use Rattle.kasa_sig.proofs.NumberLemmas.{name_at-named}
use Rattle.kasa_sig.proofs.ListLemmas.{split_at}
use Rattle.kasa_sig.proofs.KeptLemmas.{Keeps, Keeps-same, Keeps-then}
use Rattle.kasa_sig.proofs.StepLemmas.{Keeps-step}

-- ---- two lists of mentions

module _ (source : Source) where
  pub after-append : (ms ns : List Mention) (sig : List TypeEntry) → after source sig (ms ++ ns) ≡ go_on (after source sig ms) (λ next. after source next ns)
  unfolding after
  after-append [] ns sig = refl
  after-append (m ∷ ms) ns sig = by (after-append ms ns) (step source sig m)
    where
      by : ((next : List TypeEntry) → after source next (ms ++ ns) ≡ go_on (after source next ms) (λ last. after source last ns)) → (o : Result (List TypeEntry) SigFault) →
          go_on o (λ next. after source next (ms ++ ns)) ≡ go_on (go_on o (λ next. after source next ms)) (λ next. after source next ns)
      by more (Ok next) = more next
      by more (Err fault) = refl

  pub after-none : (sig : List TypeEntry) → after source sig [] ≡ Ok sig
  unfolding after
  after-none sig = refl

  pub after-one : (sig : List TypeEntry) (m : Mention) → after source sig (m ∷ []) ≡ step source sig m
  unfolding after
  after-one sig m = by (step source sig m)
    where
      by : (o : Result (List TypeEntry) SigFault) → go_on o (λ next. Ok next) ≡ o
      by (Ok next) = refl
      by (Err fault) = refl

  pub Keeps-after : (ms : List Mention) (sig next : List TypeEntry) → after source sig ms ≡ Ok next → Keeps sig next
  unfolding after
  Keeps-after [] sig next e = let same : sig ≡ next = cc in subst (Keeps sig) same (Keeps-same sig)
  Keeps-after (m ∷ ms) sig next e = by (λ mid. Keeps-after ms mid next) (step source sig m) refl e
    where
      by : ((mid : List TypeEntry) → after source mid ms ≡ Ok next → Keeps mid next) → (o : Result (List TypeEntry) SigFault) → step source sig m ≡ o → go_on o (λ mid. after source mid ms) ≡ Ok next → Keeps sig next
      by more (Ok mid) s e = Keeps-then sig mid next (Keeps-step source sig mid m s) (more mid e)
      by more (Err fault) s e = absurd cc

  -- what was read, and then more
  module _ (sig mid : List TypeEntry) (ms ns : List Mention) where
    pub then_Ok : (next : List TypeEntry) → after source sig ms ≡ Ok mid → after source mid ns ≡ Ok next → after source sig (ms ++ ns) ≡ Ok next
    then_Ok next e f = rw (after-append ms ns sig, e) f

    pub then_Err : (fault : SigFault) → after source sig ms ≡ Ok mid → after source mid ns ≡ Err fault → after source sig (ms ++ ns) ≡ Err fault
    then_Err fault e f = rw (after-append ms ns sig, e) f

  pub first_Err : (sig : List TypeEntry) (ms ns : List Mention) (fault : SigFault) → after source sig ms ≡ Err fault → after source sig (ms ++ ns) ≡ Err fault
  first_Err sig ms ns fault e = rw (after-append ms ns sig, e)

  -- the first mention
  module _ (sig : List TypeEntry) (m : Mention) (ms : List Mention) where
    pub step_Ok : (mid : List TypeEntry) → step source sig m ≡ Ok mid → after source sig (m ∷ ms) ≡ after source mid ms
    unfolding after
    step_Ok mid e = rw e

    pub step_Err : (fault : SigFault) → step source sig m ≡ Err fault → after source sig (m ∷ ms) ≡ Err fault
    unfolding after
    step_Err fault e = rw e

  -- ---- the mentions of each element of a list, behind some first ones
  module _ {X : Type 0} (f : X → List Mention) (first : List Mention) (xs : List X) (i : ℕ) (sig mid : List TypeEntry) (read : after source sig (first ++ flat_map f (take i xs)) ≡ Ok mid) where
    -- with one more element
    pub each_more : (x d : X) (next : List TypeEntry) → i < length xs → x ≡ get_or xs i d → after source mid (f x) ≡ Ok next → after source sig (first ++ flat_map f (take (i + 1) xs)) ≡ Ok next
    each_more x d next h at e =
        rw (more ∙ sym (append_assoc first (flat_map f (take i xs)) (f x))) (then_Ok sig mid (first ++ flat_map f (take i xs)) (f x) next read e)
      where
        more : first ++ flat_map f (take (i + 1) xs) ≡ first ++ (flat_map f (take i xs) ++ f x)
        more = ap (λ ms. first ++ ms) (ap (flat_map f) (take_more xs i d h ∙ ap (λ y. take i xs ++ (y ∷ [])) (sym at)) ∙ flat_map-append f (take i xs) (x ∷ []) ∙ ap (λ ms. flat_map f (take i xs) ++ ms) (append-nil (f x)))

    -- with all elements
    pub each_all : length xs ≤ i → after source sig (first ++ flat_map f xs) ≡ Ok mid
    each_all h = rw (← take_all i xs h) read

    -- a fault at an element
    pub each_Err : (x d : X) (fault : SigFault) → i < length xs → x ≡ get_or xs i d → after source mid (f x) ≡ Err fault → after source sig (first ++ flat_map f xs) ≡ Err fault
    each_Err x d fault h at e =
        let parts = split_at xs i x d h at in
        let whole : first ++ flat_map f xs ≡ (first ++ flat_map f (take i xs)) ++ (f x ++ flat_map f parts.0) =
        ap (λ ms. first ++ ms) (ap (flat_map f) parts.1 ∙ flat_map-append f (take i xs) (x ∷ parts.0)) ∙ sym (append_assoc first (flat_map f (take i xs)) (f x ++ flat_map f parts.0)) in
        rw whole (then_Err sig mid (first ++ flat_map f (take i xs)) (f x ++ flat_map f parts.0) fault read (first_Err mid (f x) (flat_map f parts.0) fault e))

-- ---- a call that names one owner by its number

pub owner_of : (sig : List TypeEntry) (a : ℕ) (agent : List ℕ) → IsTypeNamed sig a agent → IsTypeNamed sig a (type_at sig a)
owner_of sig a agent h = rw (name_at-named (type_names sig) a agent h.named) h

pub site_owner_of : (sig : List TypeEntry) (a x : ℕ) (agent site : List ℕ) → IsSiteNamed sig a x agent site → IsSiteNamed sig a x (type_at sig a) (site_at sig a x)
site_owner_of sig a x agent site h = rw (name_at-named (type_names sig) a agent h.owner.named, name_at-named (site_names sig a) x site h.named) h

-- what is said of the name that the signature has for an owner is said of the owner's name
pub of_owner : (source : Source) (sig : List TypeEntry) (a : ℕ) (agent : List ℕ) (f : List ℕ → List Mention) (r : Result (List TypeEntry) SigFault) → IsTypeNamed sig a agent →
    after source sig (f (type_at sig a)) ≡ r → after source sig (f agent) ≡ r
of_owner source sig a agent f r h e = rw (name_at-named (type_names sig) a agent h.named) at e

pub of_site_owner : (source : Source) (sig : List TypeEntry) (a x : ℕ) (agent site : List ℕ) (f : List ℕ → List ℕ → List Mention) (r : Result (List TypeEntry) SigFault) → IsSiteNamed sig a x agent site →
    after source sig (f (type_at sig a) (site_at sig a x)) ≡ r → after source sig (f agent site) ≡ r
of_site_owner source sig a x agent site f r h e = rw (name_at-named (type_names sig) a agent h.owner.named, name_at-named (site_names sig a) x site h.named) at e

-- ---- a state, and the mentions of a declaration or an agent with the first one apart

abbrev pub one_state : List ℕ → List ℕ → List ℕ → Span → List Mention
one_state text agent site s = state_mention text agent site s ∷ []

pub declared_site-flat : (text agent : List ℕ) (d : SiteDecl) (states : List Span) → states ≡ d.states →
    declared_site text agent d ≡ (site_mention text agent d.name ∷ []) ++ flat_map (one_state text agent (word text d.name)) states
unfolding declared_site
declared_site-flat text agent d states e = rw (e, flat_map_single (state_mention text agent (word text d.name)) d.states)

pub declared_type-flat : (text : List ℕ) (d : AgentDecl) (sites : List SiteDecl) → sites ≡ d.sites →
    declared_type text d ≡ (type_mention text d.name ∷ []) ++ flat_map (declared_site text (word text d.name)) sites
unfolding declared_type
declared_type-flat text d sites e = rw e

pub used_agent-flat : (text : List ℕ) (a : AgentText) (sites : List SiteText) → sites ≡ a.sites →
    used_agent text a ≡ (type_mention text a.name ∷ []) ++ flat_map (used_site text (word text a.name)) sites
unfolding used_agent
used_agent-flat text a sites e = rw e

-- the names behind a site's name, in the order in which they stand
pub used_site-order : (text agent : List ℕ) (s : SiteText) (b : Bool) → brackets_stand_first s ≡ b →
    used_site text agent s ≡ site_mention text agent s.name ∷ in_order b (used_states text agent (word text s.name) s.state) (used_partners text s.link)
unfolding used_site
used_site-order text agent s b e = rw e

-- a link that is no partner names nothing
pub no_partner : (text : List ℕ) (link : LinkWord) → ((site agent : Span) → link ≡ Partner site agent → ⊥) → used_partner text link ≡ []
no_partner text Free other = refl
no_partner text Hash other = refl
no_partner text Bound other = refl
no_partner text (Partner site agent) other = absurd (other site agent refl)
no_partner text (Label number span) other = refl

-- ---- what a call hands on

pub ok_through : {X : Type 0} (r : Result X SigFault) (P Q : Type 0) → (P → Q) → OnOk r P → OnOk r Q
ok_through (Ok x) P Q f h = f h
ok_through (Err fault) P Q f h = tt

pub err_through : {X : Type 0} (r : Result X SigFault) (o p : Result (List TypeEntry) SigFault) → ((fault : SigFault) → o ≡ Err fault → p ≡ Err fault) →
    IfErr r (λ fault. fault ≢ NoMemory → o ≡ Err fault) → IfErr r (λ fault. fault ≢ NoMemory → p ≡ Err fault)
err_through (Ok x) o p f h = tt
err_through (Err fault) o p f h = λ known. f fault (h known)
