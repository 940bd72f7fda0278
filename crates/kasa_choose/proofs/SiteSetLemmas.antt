-- The sets of sites of a type: their parts, and how the loops find them.
use Rattle.std.proofs.Common.{◌≡◌, ◌≢◌, ℕ, zero, suc, ◌+◌, ◌-◌, ◌<◌, ◌≤◌, ◌⊎◌, inl, inr, ◌↔◌, List, [], ◌∷◌, length, take, drop, refl, ap, sym, subst, ◌∙◌, arith, Some, slice_get}
use Rattle.std.proofs.lemmas.List.{length-take, length-drop}
use Rattle.std.proofs.lemmas.Option.{slice_get_within}
use Rattle.kasa_graph.specs.Lists.{Has}
use Rattle.kasa_graph.specs.Signature.{state_counts, HasSite}
use Rattle.kasa_rules.specs.declared.model.Model.{Model}
use Rattle.kasa_rules.specs.Rule.{RuleParts}
use Rattle.kasa_rules.specs.Reached.{IsModel}
use Rattle.kasa_families.specs.Family.{Ascends}
use Rattle.kasa_families.proofs.RowTests.{Ascends-tail}
use Rattle.kasa_choose.specs.ViewPlan.{Mentions, IsLeftNode, IsMentioned, IsListOf, IsMentionedSet, IsUnmentionedSet, IsPart, IsSiteSet}
use Rattle.kasa_choose.specs.ViewSets.{IsSomePart, IsPartOfRule, IsMentionedPart, IsInSome}
use Rattle.kasa_choose.proofs.PlanLists.{less_or, same_at, Has-[], Has-later, Has-cons, length-between, IsListOf-same, IsListOf-along}
use Rattle.kasa_choose.proofs.MentionLemmas.{mentions_within, mentioned_list}

-- ---- the first so many of a list, and the others

has_take : (n : ℕ) (xs : List ℕ) (s : ℕ) → Has (take n xs) s → Has xs s
has_take zero xs s h = absurd (Has-[] s h)
has_take (suc n) [] s h = h
has_take (suc n) (x ∷ xs) s h = elim (Has-cons x (take n xs) s h) [
  | inl e ↦ let first : Has (x ∷ xs) s = (zero, ap Some (sym e)) in first
  | inr more ↦ Has-later x xs s (has_take n xs s more)
]

has_drop : (n : ℕ) (xs : List ℕ) (s : ℕ) → Has (drop n xs) s → Has xs s
has_drop zero xs s h = h
has_drop (suc n) [] s h = h
has_drop (suc n) (x ∷ xs) s h = Has-later x xs s (has_drop n xs s h)

has_either : (n : ℕ) (xs : List ℕ) (s : ℕ) → Has xs s → Has (take n xs) s ⊎ Has (drop n xs) s
has_either zero xs s h = inr h
has_either (suc n) [] s h = inl h
has_either (suc n) (x ∷ xs) s h = elim (Has-cons x xs s h) [
  | inl e ↦ let first : Has (x ∷ take n xs) s = (zero, ap Some (sym e)) in inl first
  | inr more ↦ elim (has_either n xs s more) [ inl early ↦ inl (Has-later x (take n xs) s early) | inr late ↦ inr late ]
]

Ascends-take : (n : ℕ) (xs : List ℕ) → Ascends xs → Ascends (take n xs)
Ascends-take zero xs up = tt
Ascends-take (suc n) [] up = tt
Ascends-take (suc zero) (x ∷ xs) up = tt
Ascends-take (suc (suc n)) (x ∷ []) up = tt
Ascends-take (suc (suc n)) (x ∷ y ∷ xs) up = (up.0, Ascends-take (suc n) (y ∷ xs) up.1)

Ascends-drop : (n : ℕ) (xs : List ℕ) → Ascends xs → Ascends (drop n xs)
Ascends-drop zero xs up = up
Ascends-drop (suc n) [] up = tt
Ascends-drop (suc n) (x ∷ xs) up = Ascends-drop n xs (Ascends-tail x xs up)

-- ---- parts of a set

pub part_within : (whole part : List ℕ) (s : ℕ) → IsPart whole part → Has part s → Has whole s
part_within whole part s (inl e) h = has_take 16 whole s (subst (λ xs. Has xs s) e h)
part_within whole part s (inr e) h = has_drop 16 whole s (subst (λ xs. Has xs s) e h)

pub part_ascends : (whole part : List ℕ) → IsPart whole part → Ascends whole → Ascends part
part_ascends whole part (inl e) up = subst Ascends (sym e) (Ascends-take 16 whole up)
part_ascends whole part (inr e) up = subst Ascends (sym e) (Ascends-drop 16 whole up)

pub part_few : (whole part : List ℕ) → IsPart whole part → length whole ≤ 32 → length part ≤ 16
part_few whole part (inl e) few = let long = ap length e ∙ length-take 16 whole in omega arith
part_few whole part (inr e) few = let long = ap length e ∙ length-drop 16 whole in omega arith

-- what has an element isn't empty
some_element : (xs : List ℕ) (s : ℕ) → Has xs s → xs ≢ []
some_element xs s h none = Has-[] s (subst (λ ys. Has ys s) none h)

-- each site of a set is one of a part
pub part_with : (whole : List ℕ) (s : ℕ) → Has whole s → (part : List ℕ) × IsSomePart whole part × Has part s
part_with whole s h = elim (has_either 16 whole s h) [
  | inl early ↦ (take 16 whole, (inl refl, some_element (take 16 whole) s early), early)
  | inr late ↦ (drop 16 whole, (inr refl, some_element (drop 16 whole) s late), late)
]

-- the sets have come to be those before, with the parts of one more
pub adds_parts : (whole first rest : List ℕ) (old mid new : List (List ℕ)) → first ≡ take 16 whole → rest ≡ drop 16 whole →
    ((set : List ℕ) → Has mid set ↔ (Has old set ⊎ ((set ≡ first) × (set ≢ [])))) → ((set : List ℕ) → Has new set ↔ (Has mid set ⊎ ((set ≡ rest) × (set ≢ [])))) →
    (part : List ℕ) → Has new part ↔ (Has old part ⊎ IsSomePart whole part)
adds_parts whole first rest old mid new is_first is_rest firstly then part = (there, back)
  where
    there : Has new part → Has old part ⊎ IsSomePart whole part
    there h = elim ((then part).0 h) [
      | inl early ↦ elim ((firstly part).0 early) [ inl before ↦ inl before | inr e ↦ inr (inl (e.0 ∙ is_first), e.1) ]
      | inr e ↦ inr (inr (e.0 ∙ is_rest), e.1)
    ]

    back : Has old part ⊎ IsSomePart whole part → Has new part
    back (inl before) = (then part).1 (inl ((firstly part).1 (inl before)))
    back (inr (inl e, some)) = (then part).1 (inl ((firstly part).1 (inr (e ∙ sym is_first, some))))
    back (inr (inr e, some)) = (then part).1 (inr (e ∙ sym is_rest, some))

-- ---- the parts of the left nodes before a number, as a loop finds them

abbrev pub IsPartBefore : RuleParts → ℕ → ℕ → List ℕ → Type 0
IsPartBefore r m a sites = (n : ℕ) × (whole : List ℕ) × (n < m) × IsLeftNode r n a × IsListOf (Mentions r n) whole × IsSomePart whole sites

abbrev pub HasPartsBefore : RuleParts → ℕ → ℕ → List (List ℕ) → List (List ℕ) → Type 0
HasPartsBefore r m a old new = (sites : List ℕ) → Has new sites ↔ (Has old sites ⊎ IsPartBefore r m a sites)

pub parts_more : (r : RuleParts) (m a : ℕ) (whole : List ℕ) (old mid new : List (List ℕ)) → IsLeftNode r m a → IsListOf (Mentions r m) whole →
    ((part : List ℕ) → Has new part ↔ (Has mid part ⊎ IsSomePart whole part)) → HasPartsBefore r m a old mid → HasPartsBefore r (m + 1) a old new
parts_more r m a whole old mid new node list adds has sites = (there, back)
  where
    there : Has new sites → Has old sites ⊎ IsPartBefore r (m + 1) a sites
    there h = elim ((adds sites).0 h) [
      | inl early ↦ elim ((has sites).0 early) [
        | inl before ↦ inl before
        | inr added ↦ let less : added.0 < m = added.2 in inr (added.0, added.1, omega arith, added.3, added.4, added.5)
      ]
      | inr part ↦ inr (m, whole, omega arith, node, list, part)
    ]

    by : (n : ℕ) (own : List ℕ) → (n < m) ⊎ (n ≡ m) → IsLeftNode r n a → IsListOf (Mentions r n) own → IsSomePart own sites → Has new sites
    by n own (inl less) at own_list part = (adds sites).1 (inl ((has sites).1 (inr (n, own, less, at, own_list, part))))
    by n own (inr e) at own_list part =
        let same : own ≡ whole = IsListOf-same (Mentions r m) own whole (subst (λ k. IsListOf (Mentions r k) own) e own_list) list in
        (adds sites).1 (inr (subst (λ xs. IsSomePart xs sites) same part))

    back : Has old sites ⊎ IsPartBefore r (m + 1) a sites → Has new sites
    back (inl before) = (adds sites).1 (inl ((has sites).1 (inl before)))
    back (inr (n, own, less, at, own_list, part)) = by n own (less_or n m less) at own_list part

pub parts_skip : (r : RuleParts) (m a : ℕ) (old new : List (List ℕ)) → (IsLeftNode r m a → ⊥) → HasPartsBefore r m a old new → HasPartsBefore r (m + 1) a old new
parts_skip r m a old new other has sites = (there, back)
  where
    there : Has new sites → Has old sites ⊎ IsPartBefore r (m + 1) a sites
    there h = elim ((has sites).0 h) [
      | inl before ↦ inl before
      | inr added ↦ let less : added.0 < m = added.2 in inr (added.0, added.1, omega arith, added.3, added.4, added.5)
    ]

    by : (n : ℕ) (own : List ℕ) → (n < m) ⊎ (n ≡ m) → IsLeftNode r n a → IsListOf (Mentions r n) own → IsSomePart own sites → Has new sites
    by n own (inl less) at own_list part = (has sites).1 (inr (n, own, less, at, own_list, part))
    by n own (inr e) at own_list part = absurd (other (subst (λ k. IsLeftNode r k a) e at))

    back : Has old sites ⊎ IsPartBefore r (m + 1) a sites → Has new sites
    back (inl before) = (has sites).1 (inl before)
    back (inr (n, own, less, at, own_list, part)) = by n own (less_or n m less) at own_list part

pub parts_all : (r : RuleParts) (m a : ℕ) (old new : List (List ℕ)) → ((n : ℕ) → IsLeftNode r n a → n < m) → HasPartsBefore r m a old new → (sites : List ℕ) → Has new sites ↔ (Has old sites ⊎ IsPartOfRule r a sites)
parts_all r m a old new within has sites = (there, back)
  where
    there : Has new sites → Has old sites ⊎ IsPartOfRule r a sites
    there h = elim ((has sites).0 h) [ inl before ↦ inl before | inr added ↦ inr (added.0, added.1, added.3, added.4, added.5) ]

    back : Has old sites ⊎ IsPartOfRule r a sites → Has new sites
    back (inl before) = (has sites).1 (inl before)
    back (inr (n, whole, node, list, part)) = (has sites).1 (inr (n, whole, within n node, node, list, part))

-- ---- those of the rules before a number

abbrev pub IsRulePartBefore : List RuleParts → ℕ → ℕ → List ℕ → Type 0
IsRulePartBefore rules m a sites = (k : ℕ) × (r : RuleParts) × (k < m) × (slice_get rules k ≡ Some r) × IsPartOfRule r a sites

abbrev pub HasRulePartsBefore : List RuleParts → ℕ → ℕ → List (List ℕ) → Type 0
HasRulePartsBefore rules m a sets = (sites : List ℕ) → Has sets sites ↔ IsRulePartBefore rules m a sites

pub rule_parts_more : (rules : List RuleParts) (m a : ℕ) (r : RuleParts) (old new : List (List ℕ)) → slice_get rules m ≡ Some r →
    ((sites : List ℕ) → Has new sites ↔ (Has old sites ⊎ IsPartOfRule r a sites)) → HasRulePartsBefore rules m a old → HasRulePartsBefore rules (m + 1) a new
rule_parts_more rules m a r old new at adds has sites = (there, back)
  where
    there : Has new sites → IsRulePartBefore rules (m + 1) a sites
    there h = elim ((adds sites).0 h) [
      | inl early ↦ let before = (has sites).0 early in let less : before.0 < m = before.2 in (before.0, before.1, omega arith, before.3, before.4)
      | inr part ↦ (m, r, omega arith, at, part)
    ]

    by : (k : ℕ) (own : RuleParts) → (k < m) ⊎ (k ≡ m) → slice_get rules k ≡ Some own → IsPartOfRule own a sites → Has new sites
    by k own (inl less) at_k part = (adds sites).1 (inl ((has sites).1 (k, own, less, at_k, part)))
    by k own (inr e) at_k part =
        let one : own ≡ r = same_at rules m own r (rw e at at_k) at in
        (adds sites).1 (inr (subst (λ q. IsPartOfRule q a sites) one part))

    back : IsRulePartBefore rules (m + 1) a sites → Has new sites
    back (k, own, less, at_k, part) = by k own (less_or k m less) at_k part

pub rule_parts_all : (model : Model) (m a : ℕ) (sets : List (List ℕ)) → length model.rules ≤ m → HasRulePartsBefore model.rules m a sets → (sites : List ℕ) → Has sets sites ↔ IsMentionedPart model a sites
rule_parts_all model m a sets all has sites = (there, back)
  where
    there : Has sets sites → IsMentionedPart model a sites
    there h = let before = (has sites).0 h in (before.1, (before.0, before.3), before.4)

    back : IsMentionedPart model a sites → Has sets sites
    back (r, (k, at), part) = let within : k < length model.rules = slice_get_within model.rules k r at in (has sites).1 (k, r, omega arith, at, part)

-- ---- mentioned sites are those of the mentioned sets

mentioned_in : (model : Model) (a s : ℕ) (sets : List (List ℕ)) → IsModel model → ((sites : List ℕ) → Has sets sites ↔ IsMentionedPart model a sites) → IsMentioned model a s → IsInSome sets s
mentioned_in model a s sets is has (r, n, rule, node, mentions) =
    let list = mentioned_list model.sig r n a (is.rules rule.0 r rule.1) node in
    let part = part_with list.0 s ((list.1.exact s).1 mentions) in
    (part.0, (has part.0).1 (r, rule, (n, list.0, node, list.1, part.1)), part.2)

in_mentioned : (model : Model) (a s : ℕ) (sets : List (List ℕ)) → ((sites : List ℕ) → Has sets sites ↔ IsMentionedPart model a sites) → IsInSome sets s → IsMentioned model a s
in_mentioned model a s sets has (part, own, here) =
    let by = (has part).0 own in
    let of = by.2 in
    (by.0, of.0, by.1, of.2, (of.3.exact s).0 (part_within of.1 part s of.4.0 here))

pub unmentioned_list : (model : Model) (a count : ℕ) (sets : List (List ℕ)) (others : List ℕ) → IsModel model → ((sites : List ℕ) → Has sets sites ↔ IsMentionedPart model a sites) →
    count ≡ length (state_counts model.sig a) → IsListOf (λ s. (s < count) × (IsInSome sets s → ⊥)) others → IsUnmentionedSet model a others
unmentioned_list model a count sets others is has e list =
    IsListOf-along (λ s. (s < count) × (IsInSome sets s → ⊥)) (λ s. HasSite model.sig a s × (IsMentioned model a s → ⊥)) others
    (λ s p. let less : s < count = p.0 in (omega arith, λ mentioned. p.1 (mentioned_in model a s sets is has mentioned)))
    (λ s p. let less : s < length (state_counts model.sig a) = p.0 in (omega arith, λ own. p.1 (in_mentioned model a s sets has own))) list

-- all sets of the type
pub site_sets_all : (model : Model) (a : ℕ) (old new : List (List ℕ)) (others : List ℕ) → ((sites : List ℕ) → Has old sites ↔ IsMentionedPart model a sites) → IsUnmentionedSet model a others →
    ((sites : List ℕ) → Has new sites ↔ (Has old sites ⊎ IsSomePart others sites)) → (sites : List ℕ) → Has new sites ↔ IsSiteSet model a sites
site_sets_all model a old new others has free adds sites = (there, back)
  where
    there : Has new sites → IsSiteSet model a sites
    there h = elim ((adds sites).0 h) [
      | inl early ↦ let by = (has sites).0 early in let of = by.2 in (of.1, inl (by.0, of.0, by.1, of.2, of.3), of.4.0, of.4.1)
      | inr part ↦ (others, inr free, part.0, part.1)
    ]

    back : IsSiteSet model a sites → Has new sites
    back (whole, inl (r, n, rule, node, list), part, some) = (adds sites).1 (inl ((has sites).1 (r, rule, (n, whole, node, list, (part, some)))))
    back (whole, inr own, part, some) =
        let same : whole ≡ others = IsListOf-same _ whole others own free in
        (adds sites).1 (inr (subst (λ xs. IsPart xs sites) same part, some))

-- ---- sets over the signature

whole_within : (model : Model) (a : ℕ) (whole : List ℕ) (s : ℕ) → IsModel model → IsMentionedSet model a whole ⊎ IsUnmentionedSet model a whole → Has whole s → HasSite model.sig a s
whole_within model a whole s is (inl (r, n, rule, node, list)) h = mentions_within model.sig r n a s (is.rules rule.0 r rule.1) node ((list.exact s).0 h)
whole_within model a whole s is (inr free) h = ((free.exact s).0 h).0

whole_ascends : (model : Model) (a : ℕ) (whole : List ℕ) → IsMentionedSet model a whole ⊎ IsUnmentionedSet model a whole → Ascends whole
whole_ascends model a whole (inl (r, n, rule, node, list)) = list.ascends
whole_ascends model a whole (inr free) = free.ascends

pub set_within : (model : Model) (a : ℕ) (sites : List ℕ) (s : ℕ) → IsModel model → IsSiteSet model a sites → Has sites s → HasSite model.sig a s
set_within model a sites s is (whole, set, part, some) h = whole_within model a whole s is set (part_within whole sites s part h)

pub set_ascends : (model : Model) (a : ℕ) (sites : List ℕ) → IsSiteSet model a sites → Ascends sites
set_ascends model a sites (whole, set, part, some) = part_ascends whole sites part (whole_ascends model a whole set)

-- a type has at most 32 sites
pub set_few : (model : Model) (a : ℕ) (sites : List ℕ) → IsModel model → length (state_counts model.sig a) ≤ 32 → IsSiteSet model a sites → length sites ≤ 16
set_few model a sites is few (whole, set, part, some) =
    let most : length whole ≤ length (state_counts model.sig a) - 0 = length-between whole 0 (length (state_counts model.sig a)) (whole_ascends model a whole set) (λ s h. (omega arith, whole_within model a whole s is set h)) in
    part_few whole sites part (omega arith)
