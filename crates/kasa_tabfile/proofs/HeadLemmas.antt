-- What the words of a line say, one word at a time.
use Rattle.std.proofs.Common.{◌≡◌, ◌∙◌, ◌<◌, ◌+◌, ℕ, List, [], ◌∷◌, ◌++◌, Bool, true, false, if◌then◌else◌, length, length-append, refl, sym, ap, arith, append_assoc, Some, None, Option, ◌&&◌, nat_lt, nat_le, option_map, option_and_then, codes}
use Rattle.std.proofs.lemmas.Bool.Decides.{nat_tests}
use Rattle.std.specs.List.{list_all}
use Rattle.std.proofs.lemmas.List.Folds.{list_all-append}
use Rattle.kasa_families.specs.declared.row.LocalLink.{LocalLink}
use Rattle.kasa_families.specs.declared.row.Local.{Local}
use Rattle.kasa_tabfile.specs.Word.{is, cut, state, link, group}
use Rattle.kasa_tabfile.specs.Line.{is_small_state, is_small_link, is_small_local, fitting, numbers, groups, row}
use Rattle.kasa_tabfile.specs.declared.line.Line.{Line}
use Rattle.kasa_tabfile.specs.declared.head.Bonds.{Bonds}
use Rattle.kasa_tabfile.specs.declared.head.Bonds.TheVariants.{Across, Parallel, Chain}
use Rattle.kasa_tabfile.specs.inner.Head.{passing, both, one_more, with_more, bonds_of, locals_with}

-- no family over bonds has more than nine numbers
bonds-long : (k : Bonds) (ns : List ℕ) → 9 < length ns → bonds_of k ns ≡ None
bonds-long k [] h = absurd (omega arith)
bonds-long k (a ∷ []) h = absurd (omega arith)
bonds-long k (a ∷ b ∷ []) h = absurd (omega arith)
bonds-long k (a ∷ b ∷ c ∷ []) h = absurd (omega arith)
bonds-long k (a ∷ b ∷ c ∷ d ∷ []) h = absurd (omega arith)
bonds-long k (a ∷ b ∷ c ∷ d ∷ e ∷ []) h = absurd (omega arith)
bonds-long k (a ∷ b ∷ c ∷ d ∷ e ∷ f ∷ []) h = absurd (omega arith)
bonds-long Across (a ∷ b ∷ c ∷ d ∷ e ∷ f ∷ g ∷ ns) h = refl
bonds-long Parallel (a ∷ b ∷ c ∷ d ∷ e ∷ f ∷ g ∷ ns) h = refl
bonds-long Chain (a ∷ b ∷ c ∷ d ∷ e ∷ f ∷ g ∷ []) h = absurd (omega arith)
bonds-long Chain (a ∷ b ∷ c ∷ d ∷ e ∷ f ∷ g ∷ i ∷ []) h = absurd (omega arith)
bonds-long Chain (a ∷ b ∷ c ∷ d ∷ e ∷ f ∷ g ∷ i ∷ j ∷ []) h = absurd (omega arith)
bonds-long Chain (a ∷ b ∷ c ∷ d ∷ e ∷ f ∷ g ∷ i ∷ j ∷ l ∷ ns) h = refl

pub too-many : (k : Bonds) (before : List ℕ) (n : Option ℕ) (ws : List (List ℕ)) → 9 < length before + 1 →
    None ≡ option_and_then (λ ns. bonds_of k (before ++ ns)) (option_and_then (λ m. option_map (λ ns. m ∷ ns) (numbers ws)) n)
too-many k before None ws long = refl
too-many k before (Some n) ws long = by (numbers ws)
  where
    by : (r : Option (List ℕ)) → None ≡ option_and_then (λ ns. bonds_of k (before ++ ns)) (option_map (λ ns. n ∷ ns) r)
    by None = refl
    by (Some ns) = sym (bonds-long k (before ++ n ∷ ns) (rw length-append (omega arith)))

-- ---- groups

-- both tests of a local state
tested : (s : Option ℕ) (k : LocalLink) (a b : Bool) →
    both (if a then Some s else None) (if b then Some k else None) ≡ (if (a && b) then Some (let l : Local = record { state = s; link = k } in l) else None)
tested s k true true = refl
tested s k true false = refl
tested s k false true = refl
tested s k false false = refl

pub group-read : (w p q : List ℕ) (s : Option ℕ) (small : Option (Option ℕ)) (l : Option LocalLink) (r : Option Local) →
    Some (p, q) ≡ cut 44 w → Some s ≡ state p → Some l ≡ option_map (passing is_small_link) (link q) → small ≡ passing is_small_state s → r ≡ both small l →
    Some r ≡ option_map (passing is_small_local) (group w)
group-read w p q s small l r parts is-state is-link is-small is = rw (← parts, ← is-state) (by (link q) is-link)
  where
    by : (k : Option LocalLink) → Some l ≡ option_map (passing is_small_link) k →
        Some r ≡ option_map (passing is_small_local) (option_map (λ m. let x : Local = record { state = s; link = m } in x) k)
    by None e = absurd cc
    by (Some k) e =
        let same : l ≡ passing is_small_link k = cc in
        ap (λ x. Some x) (is ∙ rw (is-small, same) (tested s k (is_small_state s) (is_small_link k)))

-- ---- one more local state

none-if : {A : Type 0} (a b : Bool) (xs : List A) → a ≡ false → None ≡ (if a && b then Some xs else None)
none-if true b xs h = absurd cc
none-if false b xs h = refl

none-unless : {A : Type 0} (a b : Bool) (xs : List A) → b ≡ false → None ≡ (if a && b then Some xs else None)
none-unless true b xs h = rw h refl
none-unless false b xs h = refl

and-false : (a : Bool) → (a && false) ≡ false
and-false true = refl
and-false false = refl

with-one : {A : Type 0} (test : A → Bool) (xs : Option (List A)) (x : A) (more : List A) → with_more test (one_more test xs x) more ≡ with_more test xs (x ∷ more)
with-one test None x more = refl
with-one test (Some xs) x more = by (nat_lt (length xs) 16) (test x) refl refl
  where
    by : (few passes : Bool) → nat_lt (length xs) 16 ≡ few → test x ≡ passes →
        with_more test (if few && passes then Some (xs ++ x ∷ []) else None) more ≡ fitting test (xs ++ x ∷ more)
    by true true f p = ap (fitting test) (append_assoc xs (x ∷ []) more)
    by true false f p =
        none-unless (nat_le (length (xs ++ x ∷ more)) 16) (list_all test (xs ++ x ∷ more)) (xs ++ x ∷ more)
        (rw (list_all-append, p) (and-false (list_all test xs)))
    by false passes f p =
        none-if (nat_le (length (xs ++ x ∷ more)) 16) (list_all test (xs ++ x ∷ more)) (xs ++ x ∷ more)
        (rw length-append (grind (arith, nat_tests)))

-- a word that is a group
pub given : (w : List ℕ) (local : Option Local) → Some local ≡ option_map (passing is_small_local) (group w) → (g : Local) × (group w ≡ Some g) × (local ≡ passing is_small_local g)
given w local e = by (group w) refl e
  where
    by : (r : Option Local) → group w ≡ r → Some local ≡ option_map (passing is_small_local) r → (g : Local) × (group w ≡ Some g) × (local ≡ passing is_small_local g)
    by None at f = absurd cc
    by (Some g) at f = (g, at, cc)

pub local-more : (locals new : Option (List Local)) (w : List ℕ) (local : Option Local) (ws : List (List ℕ)) → Some local ≡ option_map (passing is_small_local) (group w) →
    ((g : Local) → local ≡ passing is_small_local g → new ≡ one_more is_small_local locals g) →
    option_map (λ gs. locals_with (with_more is_small_local new gs)) (groups ws) ≡ option_map (λ gs. locals_with (with_more is_small_local locals gs)) (groups (w ∷ ws))
local-more locals new w local ws e more =
    let is = given w local e in
    let now : new ≡ one_more is_small_local locals is.0 = more is.0 is.2 in
    rw (is.1, now) (by is.0 (groups ws))
  where
    by : (g : Local) (r : Option (List Local)) → option_map (λ gs. locals_with (with_more is_small_local (one_more is_small_local locals g) gs)) r
        ≡ option_map (λ gs. locals_with (with_more is_small_local locals gs)) (option_map (λ gs. g ∷ gs) r)
    by g None = refl
    by g (Some gs) = ap (λ ls. Some (locals_with ls)) (with-one is_small_local locals g gs)

-- the first word of a row
pub row-more : (l : Option (List Local)) (h : Option Line) (w : List ℕ) (ws : List (List ℕ)) → l ≡ Some [] → is w (codes "same") ≡ false → is w (codes "different") ≡ false →
    h ≡ option_map (λ gs. locals_with (with_more is_small_local l gs)) (groups (w ∷ ws)) → h ≡ row (w ∷ ws)
row-more l h w ws none same different e = rw (same, different) (e ∙ rw none refl)
