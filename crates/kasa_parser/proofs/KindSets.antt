-- Sets of kinds.
use Rattle.std.proofs.Common.{◌≡◌, List, [], ◌∷◌, ◌++◌, Bool, true, false, not, ◌&&◌, ◌||◌, if◌then◌else◌, refl, sym, ap, ◌∙◌, arith}
use Rattle.std.specs.List.{filter}
use Rattle.std.proofs.lemmas.Bool.Decides.{nat_tests}
use Rattle.kasa_syntax.specs.declared.tokens.TokenKind.{TokenKind}
use Rattle.kasa_syntax.specs.declared.tokens.TokenKind.TheVariants.{Name, Number, Quoted, Text, Percent, Dollar, Underscore, Break, Arrow, BothArrow, Symbol}
use Rattle.kasa_parser.specs.Words.{Word, Kinds, only, but, ◌or◌, same_kind, is_of, has, starts}

pub false_true : {A : Type 0} → false ≡ true → A
false_true e = absurd (let different : ⊥ = cc in different)

pub both : (a b : Bool) → (a && b) ≡ true → (a ≡ true) × (b ≡ true)
both true b e = (refl, e)
both false b e = false_true e

is_false : (a : Bool) → not a ≡ true → a ≡ false
is_false true e = false_true e
is_false false e = refl

pub same_kind-same : (j k : TokenKind) → same_kind j k ≡ true → j ≡ k
same_kind-same (Symbol b) (Symbol c) e = let same : b ≡ c = grind (arith, nat_tests) in ap Symbol same
same_kind-same Name Name e = refl
same_kind-same Number Number e = refl
same_kind-same Quoted Quoted e = refl
same_kind-same Text Text e = refl
same_kind-same Percent Percent e = refl
same_kind-same Dollar Dollar e = refl
same_kind-same Underscore Underscore e = refl
same_kind-same Break Break e = refl
same_kind-same Arrow Arrow e = refl
same_kind-same BothArrow BothArrow e = refl
same_kind-same j k e = false_true e

-- ---- two sets

abbrev all_pass : (TokenKind → Bool) → List TokenKind → Bool
all_pass p [] = true
all_pass p (j ∷ js) = p j && all_pass p js

-- no kind is in both
abbrev pub disjoint : Kinds → Kinds → Bool
disjoint (only js) ks = all_pass (λ j. not (has ks j)) js
disjoint (but js) (only ks) = all_pass (λ k. is_of js k) ks
disjoint (but js) (but ks) = false

-- each kind of the first is in the second
abbrev pub within : Kinds → Kinds → Bool
within (only js) ks = all_pass (λ j. has ks j) js
within (but js) (but ks) = all_pass (λ k. is_of js k) ks
within (but js) (only ks) = false

passes : (p : TokenKind → Bool) (js : List TokenKind) (k : TokenKind) → all_pass p js ≡ true → is_of js k ≡ true → p k ≡ true
passes p [] k a e = false_true e
passes p (j ∷ js) k a e = by (same_kind j k) refl e (passes p js k (both (p j) (all_pass p js) a).1)
  where
    by : (b : Bool) → same_kind j k ≡ b → (b || is_of js k) ≡ true → (is_of js k ≡ true → p k ≡ true) → p k ≡ true
    by true s e later = ap p (sym (same_kind-same j k s)) ∙ (both (p j) (all_pass p js) a).0
    by false s e later = later e

-- what fails is in no list of what passes
fails : (p : TokenKind → Bool) (js : List TokenKind) (k : TokenKind) → all_pass p js ≡ true → p k ≡ false → is_of js k ≡ false
fails p js k a e = by (is_of js k) refl
  where
    by : (b : Bool) → is_of js k ≡ b → b ≡ false
    by true i = false_true (sym e ∙ passes p js k a i)
    by false i = refl

not_true : (a : Bool) → not a ≡ true → a ≡ false
not_true a e = is_false a e

pub disjoint-no : (js ks : Kinds) (k : TokenKind) → disjoint js ks ≡ true → has js k ≡ true → has ks k ≡ false
disjoint-no (only js) ks k d e = is_false (has ks k) (passes (λ j. not (has ks j)) js k d e)
disjoint-no (but js) (only ks) k d e = fails (λ k. is_of js k) ks k d (is_false (is_of js k) e)
disjoint-no (but js) (but ks) k d e = false_true d

within-yes : (js ks : Kinds) (k : TokenKind) → within js ks ≡ true → has js k ≡ true → has ks k ≡ true
within-yes (only js) ks k d e = passes (λ j. has ks j) js k d e
within-yes (but js) (but ks) k d e = rw (fails (λ k. is_of js k) ks k d (is_false (is_of js k) e)) refl
within-yes (but js) (only ks) k d e = false_true d

is_of-append : (js ks : List TokenKind) (k : TokenKind) → is_of (js ++ ks) k ≡ (is_of js k || is_of ks k)
is_of-append [] ks k = refl
is_of-append (j ∷ js) ks k = by (same_kind j k) (is_of-append js ks k)
  where
    by : (b : Bool) → is_of (js ++ ks) k ≡ (is_of js k || is_of ks k) → (b || is_of (js ++ ks) k) ≡ ((b || is_of js k) || is_of ks k)
    by true e = refl
    by false e = e

is_of-filter : (p : TokenKind → Bool) (js : List TokenKind) (k : TokenKind) → is_of (filter p js) k ≡ (is_of js k && p k)
is_of-filter p [] k = refl
is_of-filter p (j ∷ js) k = by (p j) (same_kind j k) refl refl (is_of-filter p js k)
  where
    by : (t b : Bool) → p j ≡ t → same_kind j k ≡ b → is_of (filter p js) k ≡ (is_of js k && p k) → is_of (if t then j ∷ filter p js else filter p js) k ≡ ((b || is_of js k) && p k)
    by true true i s e = rw s (sym i ∙ ap p (same_kind-same j k s))
    by true false i s e = rw s e
    by false true i s e = e ∙ none (is_of js k) (sym (ap p (same_kind-same j k s)) ∙ i)
      where
        none : (a : Bool) → p k ≡ false → (a && p k) ≡ p k
        none true f = refl
        none false f = sym f
    by false false i s e = e

pub has-or : (js ks : Kinds) (k : TokenKind) → has (js or ks) k ≡ (has js k || has ks k)
has-or (only js) (only ks) k = is_of-append js ks k
has-or (only js) (but ks) k = rw (is_of-filter (λ k. not (is_of js k)) ks k) (by (is_of js k) (is_of ks k))
  where
    by : (a b : Bool) → not (b && not a) ≡ (a || not b)
    by true true = refl
    by true false = refl
    by false true = refl
    by false false = refl
has-or (but js) (only ks) k = rw (is_of-filter (λ k. not (is_of ks k)) js k) (by (is_of js k) (is_of ks k))
  where
    by : (a b : Bool) → not (a && not b) ≡ (not a || b)
    by true true = refl
    by true false = refl
    by false true = refl
    by false false = refl
has-or (but js) (but ks) k = rw (is_of-filter (λ k. is_of js k) ks k) (by (is_of js k) (is_of ks k))
  where
    by : (a b : Bool) → not (b && a) ≡ (not a || not b)
    by true true = refl
    by true false = refl
    by false true = refl
    by false false = refl

-- ---- the first words of lists

pub starts-not : (gs cs : Kinds) (ws : List Word) → disjoint gs cs ≡ true → starts cs ws ≡ true → starts gs ws ≡ false
starts-not gs cs [] d e = refl
starts-not gs cs (w ∷ ws) d e = by (has gs w.kind) refl
  where
    by : (b : Bool) → has gs w.kind ≡ b → has gs w.kind ≡ false
    by true i = false_true (sym (disjoint-no gs cs w.kind d i) ∙ e)
    by false i = i

pub starts-within : (js ks : Kinds) (ws : List Word) → within js ks ≡ true → starts js ws ≡ true → starts ks ws ≡ true
starts-within js ks [] d e = e
starts-within js ks (w ∷ ws) d e = within-yes js ks w.kind d e

-- what begins with no kind of a set begins with none of a smaller one
pub starts-outside : (js ks : Kinds) (ws : List Word) → within js ks ≡ true → starts ks ws ≡ false → starts js ws ≡ false
starts-outside js ks ws d e = by (starts js ws) refl
  where
    by : (t : Bool) → starts js ws ≡ t → starts js ws ≡ false
    by true i = false_true (sym e ∙ starts-within js ks ws d i)
    by false i = i

pub starts-neither : (js ks : Kinds) (ws : List Word) → starts (js or ks) ws ≡ false → (starts js ws ≡ false) × (starts ks ws ≡ false)
starts-neither js ks [] e = (refl, refl)
starts-neither js ks (w ∷ ws) e = by (has js w.kind) (has ks w.kind) (sym (has-or js ks w.kind) ∙ e)
  where
    by : (a b : Bool) → (a || b) ≡ false → (a ≡ false) × (b ≡ false)
    by true b e = false_true (sym e)
    by false b e = (refl, e)

pub starts-left : (js ks : Kinds) (ws : List Word) → starts js ws ≡ true → starts (js or ks) ws ≡ true
starts-left js ks [] e = e
starts-left js ks (w ∷ ws) e = has-or js ks w.kind ∙ rw e refl

pub starts-right : (js ks : Kinds) (ws : List Word) → starts ks ws ≡ true → starts (js or ks) ws ≡ true
starts-right js ks [] e = e
starts-right js ks (w ∷ ws) e = has-or js ks w.kind ∙ rw e (by (has js w.kind))
  where
    by : (a : Bool) → (a || true) ≡ true
    by true = refl
    by false = refl

pub starts-append : (ks : Kinds) (ws others : List Word) → starts ks ws ≡ true → starts ks (ws ++ others) ≡ true
starts-append ks [] others e = false_true e
starts-append ks (w ∷ ws) others e = e
