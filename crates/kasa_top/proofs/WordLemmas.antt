-- The words of `analyse`.
use Rattle.std.proofs.Common.{◌≡◌, ℕ, suc, ◌+◌, ◌<◌, List, [], ◌∷◌, ◌++◌, length, map, take, refl, ap, sym, ◌∙◌, arith, get_or, Some, slice_get, option_map}
use Rattle.std.proofs.lemmas.Option.{slice_get_read, slice_get-map}
use Rattle.kasa_lists.specs.Lists.{Has}
use Rattle.kasa_lists.proofs.Options.{some_map}
use Rattle.kasa_lists.proofs.Elements.{slice_get-of_take, take-next}
use Rattle.kasa_lists.proofs.Different.{AllDifferent-push}
use Rattle.kasa_choose.specs.declared.kind.Kind.{Kind}
use Rattle.kasa_choose.specs.declared.kind.Kind.TheVariants.{Views, Across, Parallel, Chains}
use Rattle.kasa_top.specs.Words.{flag, AreFlags, IsAnalyseWith, IsAnalyse}

-- the first letter of a kind's name in its flag
abbrev letter : Kind → ℕ
letter Views = 118
letter Across = 97
letter Parallel = 112
letter Chains = 99

flag_letter : (k : Kind) → get_or (flag k) 5 0 ≡ letter k
flag_letter Views = refl
flag_letter Across = refl
flag_letter Parallel = refl
flag_letter Chains = refl

-- each kind has a flag of its own
pub one_kind : (k l : Kind) → flag k ≡ flag l → k ≡ l
one_kind k l e = by k l (sym (flag_letter k) ∙ ap (λ w. get_or w 5 0) e ∙ flag_letter l)
  where
    by : (k l : Kind) → letter k ≡ letter l → k ≡ l
    by Views Views e = refl
    by Across Across e = refl
    by Parallel Parallel e = refl
    by Chains Chains e = refl
    by Views Across e = absurd (omega (arith, e))
    by Views Parallel e = absurd (omega (arith, e))
    by Views Chains e = absurd (omega (arith, e))
    by Across Views e = absurd (omega (arith, e))
    by Across Parallel e = absurd (omega (arith, e))
    by Across Chains e = absurd (omega (arith, e))
    by Parallel Views e = absurd (omega (arith, e))
    by Parallel Across e = absurd (omega (arith, e))
    by Parallel Chains e = absurd (omega (arith, e))
    by Chains Views e = absurd (omega (arith, e))
    by Chains Across e = absurd (omega (arith, e))
    by Chains Parallel e = absurd (omega (arith, e))

pub one_list : (ks ls : List Kind) → map flag ks ≡ map flag ls → ks ≡ ls
one_list [] [] e = refl
one_list [] (l ∷ ls) e = absurd cc
one_list (k ∷ ks) [] e = absurd cc
one_list (k ∷ ks) (l ∷ ls) e =
    let first : flag k ≡ flag l = cc in
    let more : map flag ks ≡ map flag ls = cc in
    rw (one_kind k l first, one_list ks ls more) refl

-- ---- flags, one by one

-- the word that a loop reads at its index
pub word_at : {S : Type 0} (bytes : S → List ℕ) (xs : List S) (i : ℕ) (x : S) → i < length xs → x ≡ get_or xs i x → slice_get (map bytes xs) i ≡ Some (bytes x)
word_at bytes xs i x within is = slice_get-map bytes xs i ∙ ap (option_map bytes) (slice_get_read xs (length xs) i x refl within is)

pub take_more : (words : List (List ℕ)) (i : ℕ) (w : List ℕ) → slice_get words i ≡ Some w → take (i + 1) words ≡ take i words ++ w ∷ []
take_more words i w at = let e : i + 1 ≡ suc i = omega arith in ap (λ n. take n words) e ∙ take-next words i w at

pub flags_more : (words : List (List ℕ)) (kinds : List Kind) (w : List ℕ) (k : Kind) → AreFlags words kinds → w ≡ flag k → ¬ Has kinds k → AreFlags (words ++ w ∷ []) (kinds ++ k ∷ [])
flags_more words kinds w k are is new = (grow words kinds are.0, AllDifferent-push kinds k are.1 new)
  where
    grow : (ws : List (List ℕ)) (ks : List Kind) → ws ≡ map flag ks → ws ++ w ∷ [] ≡ map flag (ks ++ k ∷ [])
    grow [] [] e = rw is refl
    grow [] (l ∷ ks) e = absurd cc
    grow (v ∷ ws) [] e = absurd cc
    grow (v ∷ ws) (l ∷ ks) e = let first : v ≡ flag l = cc in let more : ws ≡ map flag ks = cc in rw (first, grow ws ks more) refl

-- a word that is the flag of no kind, or of one that stands before, is in no flags
pub flags_stop : (words : List (List ℕ)) (i : ℕ) (w : List ℕ) (kinds : List Kind) → AreFlags (take i words) kinds → slice_get words i ≡ Some w → ((k : Kind) → w ≡ flag k → Has kinds k) → (all : List Kind) → AreFlags words all → ⊥
flags_stop words i w kinds before at only all are =
    let own = some_map flag (slice_get all i) w (sym (slice_get-map flag all i) ∙ ap (λ ws. slice_get ws i) (sym are.0) ∙ at) in
    let k = own.0 in
    let there = only k (sym own.2) in
    let earlier : slice_get (take i words) there.0 ≡ Some (flag k) = ap (λ ws. slice_get ws there.0) before.0 ∙ slice_get-map flag kinds there.0 ∙ rw (there.1) refl in
    let (less, here) = slice_get-of_take words i there.0 (flag k) earlier in
    let other = some_map flag (slice_get all there.0) (flag k) (sym (slice_get-map flag all there.0) ∙ ap (λ ws. slice_get ws there.0) (sym are.0) ∙ here) in
    let same : there.0 ≡ i = are.1 there.0 i k (other.1 ∙ ap Some (one_kind other.0 k other.2)) own.1 in
    let low : there.0 < i = less in
    omega arith

-- ---- the command

last_same : (xs ys : List (List ℕ)) (x y : List ℕ) → xs ++ x ∷ [] ≡ ys ++ y ∷ [] → (xs ≡ ys) × (x ≡ y)
last_same [] [] x y e = (refl, cc)
last_same [] (z ∷ []) x y e = absurd cc
last_same [] (z ∷ w ∷ ys) x y e = absurd cc
last_same (z ∷ []) [] x y e = absurd cc
last_same (z ∷ w ∷ xs) [] x y e = absurd cc
last_same (z ∷ xs) (w ∷ ys) x y e =
    let first : z ≡ w = cc in
    let more : xs ++ x ∷ [] ≡ ys ++ y ∷ [] = cc in
    let rest = last_same xs ys x y more in
    (rw (first, rest.0) refl, rest.1)

pub one_between : (words xs ys : List (List ℕ)) (n m : List ℕ) → IsAnalyseWith words xs n → IsAnalyseWith words ys m → (xs ≡ ys) × (n ≡ m)
one_between words xs ys n m p q =
    let e = sym p.words_are ∙ q.words_are in
    let more : xs ++ n ∷ [] ≡ ys ++ m ∷ [] = cc in
    last_same xs ys n m more

-- the words say in one way what is left out and which text is named
pub one_analyse : (words : List (List ℕ)) (ks ls : List Kind) (n m : List ℕ) → IsAnalyse words ks n → IsAnalyse words ls m → (ks ≡ ls) × (n ≡ m)
one_analyse words ks ls n m p q =
    let e = one_between words p.flags q.flags n m p.command q.command in
    (one_list ks ls (sym p.are_flags.0 ∙ e.0 ∙ q.are_flags.0), e.1)
