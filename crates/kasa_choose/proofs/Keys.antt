-- Families by their keys.
use Rattle.std.proofs.Common.{◌≡◌, ℕ, ◌<◌, ◌≤◌, ◌↔◌, Bool, true, false, not, cond, List, [], ◌∷◌, ◌++◌, length, map, arith, refl, ap, sym, subst, ◌∙◌}
use Rattle.std.specs.Prelude.{nat_eq, nat_lt, Vec}
use Rattle.std.specs.Global.{Global}
use Rattle.std.specs.Cmp.Lexicographic.{pointwise}
use Rattle.std.specs.List.{list_any}
use Rattle.std.proofs.lemmas.Bool.{eqb-true, eq-eqb, ltb-true, lt-ltb}
use Rattle.kasa_lists.specs.Lists.{Has}
use Rattle.kasa_families.specs.declared.family.Family.{Family}
use Rattle.kasa_families.specs.declared.family.Family.TheVariants.{View, Across, Parallel, Chain}
use Rattle.kasa_choose.specs.Kept.{key, is_among, is_full, keep, keep_all}
use Rattle.kasa_choose.proofs.TestLemmas.{any_has}

-- no two families have one key
pub one_key : (f g : Family) → key f ≡ key g → f ≡ g
one_key (View a s) (View b t) e = cc
one_key (View a s) (Across b x p c y q) e = absurd cc
one_key (View a s) (Parallel b x u c y w) e = absurd cc
one_key (View a s) (Chain b x p c y z d w q) e = absurd cc
one_key (Across a x p b y q) (View c s) e = absurd cc
one_key (Across a x p b y q) (Across a2 x2 p2 b2 y2 q2) e = cc
one_key (Across a x p b y q) (Parallel c x2 u d y2 w) e = absurd cc
one_key (Across a x p b y q) (Chain b2 x2 p2 c y2 z d w q2) e = absurd cc
one_key (Parallel a x u b y w) (View c s) e = absurd cc
one_key (Parallel a x u b y w) (Across c x2 p d y2 q) e = absurd cc
one_key (Parallel a x u b y w) (Parallel a2 x2 u2 b2 y2 w2) e = cc
one_key (Parallel a x u b y w) (Chain b2 x2 p c y2 z d w2 q) e = absurd cc
one_key (Chain a x p b y z c w q) (View d s) e = absurd cc
one_key (Chain a x p b y z c w q) (Across d x2 p2 b2 y2 q2) e = absurd cc
one_key (Chain a x p b y z c w q) (Parallel d x2 u b2 y2 w2) e = absurd cc
one_key (Chain a x p b y z c w q) (Chain a2 x2 p2 b2 y2 z2 c2 w2 q2) e = cc

same_numbers : (xs ys : List ℕ) → pointwise nat_eq xs ys ≡ true ↔ (xs ≡ ys)
same_numbers [] [] = (λ h. refl, λ e. refl)
same_numbers [] (y ∷ ys) = (λ h. absurd cc, λ e. absurd cc)
same_numbers (x ∷ xs) [] = (λ h. absurd cc, λ e. absurd cc)
same_numbers (x ∷ xs) (y ∷ ys) = by (nat_eq x y) refl (same_numbers xs ys)
  where
    by : (b : Bool) → nat_eq x y ≡ b → pointwise nat_eq xs ys ≡ true ↔ (xs ≡ ys) → pointwise nat_eq (x ∷ xs) (y ∷ ys) ≡ true ↔ (x ∷ xs ≡ y ∷ ys)
    by true e rest = (
      λ h. let first = eqb-true x y e in let more : xs ≡ ys = rest.0 (rw e at h) in cc,
      λ same. let more : xs ≡ ys = cc in rw e (rest.1 more),
    )
    by false e rest = (
      λ h. absurd (let no_true : false ≡ true = rw e at h in cc),
      λ same. absurd (let first : x ≡ y = cc in let both : true ≡ false = sym (eq-eqb x y first) ∙ e in cc),
    )

pub among_told : (families : List Family) (f : Family) → is_among families f ≡ true ↔ Has families f
among_told families f =
    let told = any_has (λ g. pointwise nat_eq (key f) (key g)) families in (
      λ h. let own = told.0 h in subst (Has families) (sym (one_key f own.0 ((same_numbers (key f) (key own.0)).0 own.2))) own.1,
      λ has. told.1 (f, has, (same_numbers (key f) (key f)).1 refl),
    )

abbrev pub numbers_of : Vec ℕ Global → List ℕ
numbers_of k = k.items

-- a key stands among the keys just where its family stands among the families
pub key_among : (keys : List (Vec ℕ Global)) (families : List Family) (k : Vec ℕ Global) (f : Family) → map numbers_of keys ≡ map key families → k.items ≡ key f → list_any (λ j. pointwise nat_eq k.items j.items) keys ≡ is_among families f
key_among [] [] k f same is = refl
key_among [] (g ∷ families) k f same is = absurd cc
key_among (j ∷ keys) [] k f same is = absurd cc
key_among (j ∷ keys) (g ∷ families) k f same is =
    let first : j.items ≡ key g = cc in
    let more : map numbers_of keys ≡ map key families = cc in
    let rest = key_among keys families k f more is in
    let here : pointwise nat_eq k.items j.items ≡ pointwise nat_eq (key f) (key g) = rw (is, first) refl in
    rw (here, rest) refl

-- ---- keeping a family

-- where the families are full, none more is kept
pub keep_full : (families : List Family) (f : Family) → 8000 < length families → keep families f ≡ families
keep_full families f full = let is : nat_lt 8000 (length families) ≡ true = lt-ltb 8000 (length families) full in rw is refl

not_full : (families : List Family) → length families ≤ 8000 → is_full families ≡ false
not_full families few = by (nat_lt 8000 (length families)) refl
  where
    by : (b : Bool) → nat_lt 8000 (length families) ≡ b → nat_lt 8000 (length families) ≡ false
    by true e = absurd (let more : 8000 < length families = ltb-true 8000 (length families) e in omega arith)
    by false e = e

pub keep_there : (families : List Family) (f : Family) → length families ≤ 8000 → is_among families f ≡ true → keep families f ≡ families
keep_there families f few is = rw (not_full families few, is) refl

pub keep_new : (families : List Family) (f : Family) → length families ≤ 8000 → is_among families f ≡ false → keep families f ≡ families ++ f ∷ []
keep_new families f few is = rw (not_full families few, is) refl

-- what an insertion of the key tells of the family
pub keep_by : (keys : List (Vec ℕ Global)) (families : List Family) (k : Vec ℕ Global) (f : Family) (added : Bool) → map numbers_of keys ≡ map key families → length families ≤ 8000 → k.items ≡ key f → added ≡ not (list_any (λ j. pointwise nat_eq k.items j.items) keys) → keep families f ≡ cond added (families ++ f ∷ []) families
keep_by keys families k f added same few is told = by (is_among families f) refl
  where
    by : (b : Bool) → is_among families f ≡ b → keep families f ≡ cond added (families ++ f ∷ []) families
    by true e = keep_there families f few e ∙ (let no_new : added ≡ false = told ∙ ap not (key_among keys families k f same is ∙ e) in rw no_new refl)
    by false e = keep_new families f few e ∙ (let new : added ≡ true = told ∙ ap not (key_among keys families k f same is ∙ e) in rw new refl)

-- ---- family after family

pub keep_all-append : (start xs ys : List Family) → keep_all start (xs ++ ys) ≡ keep_all (keep_all start xs) ys
keep_all-append start [] ys = refl
keep_all-append start (x ∷ xs) ys = keep_all-append (keep start x) xs ys
