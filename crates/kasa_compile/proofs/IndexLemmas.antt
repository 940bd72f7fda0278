-- An index of labels grows with each place.
use Rattle.std.proofs.Common.{◌≡◌, ℕ, suc, ◌+◌, ◌<◌, ◌≤◌, nat_eq, List, [], ◌∷◌, ◌++◌, length, take, get_or, refl, sym, ap, ◌∙◌, cond, append_assoc, inl, inr, arith}
use Rattle.std.specs.Prelude.{Option, Some, None, if◌then◌else◌}
use Rattle.std.specs.Option.{option_map_or}
use Rattle.std.proofs.lemmas.Bool.Decides.{eqb_tells}
use Rattle.std.proofs.lemmas.Grind.{flat_map-append}
use Rattle.std.proofs.lemmas.List.{take_more, take_all, length-take-le}
use Rattle.kasa_compile.specs.declared.bonds.Ends.{Ends}
use Rattle.kasa_compile.specs.declared.said.LinkSaid.{LinkSaid}
use Rattle.kasa_compile.specs.declared.said.LinkSaid.TheVariants.{Any, Free, Bound, Partner, Label}
use Rattle.kasa_compile.specs.declared.said.AgentSaid.{AgentSaid}
use Rattle.kasa_compile.specs.declared.said.SiteSaid.{SiteSaid}
use Rattle.kasa_compile.specs.Bonds.{has_label, labelled, labelled_from, places_of}
use Rattle.kasa_compile.specs.BondIndex.{ends_at, last_of, ends_of, IsContinued, label_of, one_place, AreBondsOf}

append_none : {X : Type 0} (xs : List X) → xs ++ [] ≡ xs
append_none [] = refl
append_none (x ∷ xs) = ap (λ ys. x ∷ ys) (append_none xs)

last_of-push : (p q : ℕ × ℕ) (places : List (ℕ × ℕ)) → last_of p (places ++ q ∷ []) ≡ q
last_of-push p q [] = refl
last_of-push p q (r ∷ places) = last_of-push r q places

is_ends : (e : Ends) (p q : ℕ × ℕ) → e.first ≡ p → e.last ≡ q → Some e ≡ Some (record { first = p; last = q })
is_ends e p q first last = rw (← first, ← last) refl

ends_of-push : (places : List (ℕ × ℕ)) (p : ℕ × ℕ) (e : Ends) → e.first ≡ option_map_or (λ (e : Ends). e.first) (ends_of places) p → e.last ≡ p → Some e ≡ ends_of (places ++ p ∷ [])
unfolding ends_of
ends_of-push [] p e first last = is_ends e p p first last
ends_of-push (q ∷ places) p e first last = is_ends e q (last_of q (places ++ p ∷ [])) first (last ∙ sym (last_of-push q p places))

-- one place more of one label
pub IsContinued-one : (old new : List (ℕ × Ends)) (number : ℕ) (p : ℕ × ℕ) (e : Ends) → e.first ≡ option_map_or (λ (e : Ends). e.first) (ends_at old number) p → e.last ≡ p → ((q : ℕ) → ends_at new q ≡ cond (nat_eq number q) (Some e) (ends_at old q)) → IsContinued old new (one_place number p)
IsContinued-one old new number p e first last updates q places before = elim (eqb_tells number q) [
  | inl h ↦
      let found : ends_at new q ≡ Some e = rw h.0 at (updates q) in
      let here : ends_at old number ≡ ends_of places = rw h.1 before in
      rw h.0 (found ∙ ends_of-push places p e (rw here at first) last)
  | inr h ↦
      let found : ends_at new q ≡ ends_at old q = rw h.0 at (updates q) in
      rw h.0 (found ∙ before ∙ ap ends_of (sym (append_none places)))
]

-- more places after more places
pub IsContinued-more : (old mid new : List (ℕ × Ends)) (some more all : ℕ → List (ℕ × ℕ)) → IsContinued old mid some → IsContinued mid new more → ((number : ℕ) → some number ++ more number ≡ all number) → IsContinued old new all
IsContinued-more old mid new some more all first second same number places before =
    second number (places ++ some number) (first number places before) ∙ ap ends_of (append_assoc places (some number) (more number) ∙ ap (λ qs. places ++ qs) (same number))

-- the places of a link at a place: one of its label, if it is one
abbrev pub labels_places : Option ℕ → ℕ × ℕ → ℕ → List (ℕ × ℕ)
labels_places None p number = []
labels_places (Some other) p number = one_place other p number

pub IsContinued-none : (old : List (ℕ × Ends)) → IsContinued old old (λ number. [])
IsContinued-none old number places before = before ∙ ap ends_of (sym (append_none places))

-- ---- the sites of an agent

labelled-next : (k number i : ℕ) (sites : List SiteSaid) (s : SiteSaid) → i < length sites → s ≡ get_or sites i s → labelled k number (take i sites) ++ labelled k number (s ∷ []) ≡ labelled k number (take (i + 1) sites)
labelled-next k number i sites s within at = rw (take_more sites i s within, ← at) (sym (flat_map-append _ (take i sites) (s ∷ [])))

places_of_link : (k number site : ℕ) (link : Option LinkSaid) (label : Option ℕ) → label ≡ label_of link → labels_places label (k, site) number ≡ (if has_label number link then (k, site) ∷ [] else []) ++ []
places_of_link k number site None label is = rw is refl
places_of_link k number site (Some (Label other)) label is = rw is (sym (append_none (one_place other (k, site) number)))
places_of_link k number site (Some Any) label is = rw is refl
places_of_link k number site (Some Free) label is = rw is refl
places_of_link k number site (Some Bound) label is = rw is refl
places_of_link k number site (Some (Partner b y)) label is = rw is refl

-- one site more
pub IsContinued-site : (old mid new : List (ℕ × Ends)) (k i : ℕ) (sites : List SiteSaid) (s : SiteSaid) (label : Option ℕ) → IsContinued old mid (λ number. labelled k number (take i sites)) → i < length sites → s ≡ get_or sites i s → label ≡ label_of s.link → IsContinued mid new (labels_places label (k, s.site)) → IsContinued old new (λ number. labelled k number (take (i + 1) sites))
IsContinued-site old mid new k i sites s label first within at is second =
    IsContinued-more old mid new (λ number. labelled k number (take i sites)) (labels_places label (k, s.site)) (λ number. labelled k number (take (i + 1) sites)) first second
    (λ number. ap (λ ps. labelled k number (take i sites) ++ ps) (places_of_link k number s.site s.link label is) ∙ labelled-next k number i sites s within at)

pub IsContinued-sites : (old new : List (ℕ × Ends)) (k i : ℕ) (sites : List SiteSaid) → IsContinued old new (λ number. labelled k number (take i sites)) → length sites ≤ i → IsContinued old new (λ number. labelled k number sites)
IsContinued-sites old new k i sites all end = rw (take_all i sites end) at all

-- ---- the agents

labelled_from-push : (k n number : ℕ) (agents : List AgentSaid) (a : AgentSaid) → k + length agents ≡ n → labelled_from k number (agents ++ a ∷ []) ≡ labelled_from k number agents ++ labelled n number a.sites
labelled_from-push k n number [] a e = let same : k ≡ n = omega arith in rw same (append_none (labelled n number a.sites))
labelled_from-push k n number (b ∷ agents) a e =
    ap (λ ps. labelled k number b.sites ++ ps) (labelled_from-push (suc k) n number agents a (omega arith)) ∙ sym (append_assoc (labelled k number b.sites) (labelled_from (suc k) number agents) (labelled n number a.sites))

length-take_within : {X : Type 0} (xs : List X) (i : ℕ) → i < length xs → 0 + length (take i xs) ≡ i
length-take_within xs i h = let long = length-take-le i xs (omega arith) in omega (arith, long)

pub places_of-next : (number i : ℕ) (agents : List AgentSaid) (a : AgentSaid) → i < length agents → a ≡ get_or agents i a → places_of number (take i agents) ++ labelled i number a.sites ≡ places_of number (take (i + 1) agents)
unfolding places_of
places_of-next number i agents a within at = rw (take_more agents i a within, ← at) (sym (labelled_from-push 0 i number (take i agents) a (length-take_within agents i within)))

-- an index of all labels finds those that stand twice
pub AreBondsOf-of : (agents : List AgentSaid) (bonds : List (ℕ × Ends)) → ((number : ℕ) → ends_at bonds number ≡ ends_of (places_of number agents)) → AreBondsOf agents bonds
unfolding ends_of
AreBondsOf-of agents bonds all number twice = by (places_of number agents) (all number) twice
  where
    by : (places : List (ℕ × ℕ)) → ends_at bonds number ≡ ends_of places → length places ≡ 2 → (e : Ends) × (ends_at bonds number ≡ Some e) × (places ≡ e.first ∷ e.last ∷ [])
    by [] is two = absurd cc
    by (p ∷ []) is two = absurd (omega arith)
    by (p ∷ q ∷ []) is two = (record { first = p; last = q }, is, refl)
    by (p ∷ q ∷ r ∷ places) is two = absurd (omega arith)

pub IsContinued-agent : (old new : List (ℕ × Ends)) (i : ℕ) (agents : List AgentSaid) (a : AgentSaid) → ((number : ℕ) → ends_at old number ≡ ends_of (places_of number (take i agents))) → i < length agents → a ≡ get_or agents i a → IsContinued old new (λ number. labelled i number a.sites) → (number : ℕ) → ends_at new number ≡ ends_of (places_of number (take (i + 1) agents))
IsContinued-agent old new i agents a first within at second number = second number (places_of number (take i agents)) (first number) ∙ ap ends_of (places_of-next number i agents a within at)

pub ends_of-none : (number : ℕ) → None ≡ ends_of (places_of number [])
unfolding ends_of places_of
ends_of-none number = refl
