-- Names and numbers in texts: bytes of names, different for different ones.
use Rattle.std.proofs.Common.{◌≡◌, ◌≢◌, ◌∙◌, ◌<◌, ◌≤◌, ◌^◌, ℕ, List, [], ◌∷◌, length, refl, sym, ap, arith, Option, Some, None, slice_get, decimal, inl, inr}
use Rattle.std.specs.List.{AllByRecursion}
use Rattle.std.specs.Char.{digit_value}
use Rattle.std.specs.Str.Parse.{AllDigits, digits_value}
use Rattle.std.proofs.lemmas.Fmt.{decimal_is_IsNumeral_wide}
use Rattle.std.proofs.lemmas.Grind.{common_steps}
use Rattle.std.proofs.lemmas.Bool.Decides.{nat_tests}
use Rattle.std.specs.Prelude.{unwrap_or}
use Rattle.kasa_graph.specs.Signature.{AreNames, IsNameByte}
use Rattle.kasa_graph.specs.PatternText.{name_at}
use Rattle.kasa_lists.proofs.Elements.{some_at}

-- ---- names

pub name_at-bytes : (most : ℕ) (names : List (List ℕ)) → AreNames most names → (k : ℕ) → AllByRecursion IsNameByte (name_at names k)
name_at-bytes most names are k = by (slice_get names k) refl
  where
    by : (o : Option (List ℕ)) → slice_get names k ≡ o → AllByRecursion IsNameByte (unwrap_or o [])
    by None e = tt
    by (Some name) e = (are.are_names k name e).bytes

pub name_at-same : (most : ℕ) (names : List (List ℕ)) (j k : ℕ) → AreNames most names → j < length names → k < length names → name_at names j ≡ name_at names k → j ≡ k
name_at-same most names j k are first second e =
    let one = some_at names j first in
    let other = some_at names k second in
    let same : one.0 ≡ other.0 = rw (one.1, other.1) at e in
    are.differ j k one.0 one.1 (other.1 ∙ ap (λ n. Some n) (sym same))

pub name_at-some : (most : ℕ) (names : List (List ℕ)) (k : ℕ) → AreNames most names → k < length names → name_at names k ≢ []
name_at-some most names k are h e =
    let one = some_at names k h in
    let none : one.0 ≡ [] = rw one.1 at e in
    let some = (are.are_names k one.0 one.1).some in
    let empty : length one.0 ≡ 0 = rw none refl in
    omega arith

-- ---- brackets and dots are no bytes of names

pub no_name_byte : (b : ℕ) → b < 48 → ¬ IsNameByte b
no_name_byte b h p = grind (arith, p)

pub no_opening : ¬ IsNameByte 91
no_opening p = grind (arith, p)

pub no_closing : ¬ IsNameByte 93
no_closing p = grind (arith, p)

pub no_brace : (b : ℕ) → 122 < b → ¬ IsNameByte b
no_brace b h p = grind (arith, p)

-- ---- numbers

digit_byte : (c : ℕ) → digit_value c < 10 → (48 ≤ c) × (c ≤ 57)
digit_byte c h = grind (arith, common_steps, nat_tests, h)

digits_bytes : (ds : List ℕ) → AllDigits 10 ds → AllByRecursion IsNameByte ds
digits_bytes [] all = tt
digits_bytes (c ∷ ds) all = (inr (inr (inl (digit_byte c all.0))), digits_bytes ds all.1)

pub decimal-bytes : (n : ℕ) → n < 10 ^ 64 → AllByRecursion IsNameByte (decimal n)
decimal-bytes n h = digits_bytes (decimal n) (decimal_is_IsNumeral_wide n h).0.1

pub decimal-same : (m n : ℕ) → m < 10 ^ 64 → n < 10 ^ 64 → decimal m ≡ decimal n → m ≡ n
decimal-same m n h k e = sym (decimal_is_IsNumeral_wide m h).1 ∙ ap (digits_value 10) e ∙ (decimal_is_IsNumeral_wide n k).1

-- a number is no `_`
pub decimal-no_underscore : (n : ℕ) → n < 10 ^ 64 → 95 ∷ [] ≢ decimal n
decimal-no_underscore n h e = by (decimal n) e (decimal_is_IsNumeral_wide n h).0.1
  where
    by : (ds : List ℕ) → 95 ∷ [] ≡ ds → AllDigits 10 ds → ⊥
    by [] e all = cc
    by (c ∷ ds) e all = let digit = digit_byte c all.0 in let here : 95 ≡ c = cc in omega arith
