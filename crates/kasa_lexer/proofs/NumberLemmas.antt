-- The number found byte by byte is the longest one.
use Rattle.std.proofs.Common.{◌≡◌, ◌≢◌, ◌<◌, ◌≤◌, ◌+◌, ◌⊎◌, ℕ, zero, suc, List, [], ◌∷◌, ◌++◌, Bool, true, false, ◌==◌, ◌||◌, if◌then◌else◌, take, drop, length, refl, sym, ap, subst, ◌∙◌, inl, inr, arith, append_assoc, length-append}
use Rattle.std.proofs.Math.Seq.{drop-append_seam, take-add}
use Rattle.std.proofs.lemmas.Bool.{eqb-true}
use Rattle.std.proofs.lemmas.List.{length-drop}
use Rattle.kasa_lexer.specs.Bytes.{Are, is_digit}
use Rattle.kasa_lexer.specs.Front.{behind, digits_len, fraction_len, sign_len, exponent_len, number_rest_len, number_len}
use Rattle.kasa_lexer.specs.Tokens.{AreDigits, IsFraction, IsSign, IsExponent, IsNumberText}
use Rattle.kasa_lexer.proofs.RunLemmas.{false_true, one-more, Are-run, prefix_len-Are, prefix_len-within}

-- ---- no longer number

some_digits : (digits rest : List ℕ) → AreDigits digits → digits_len (digits ++ rest) ≡ length digits + digits_len rest
some_digits digits rest (some, are) = prefix_len-Are is_digit digits rest are

behind-some : (k n : ℕ) → 0 < n → behind k n ≡ k + n
behind-some k zero h = absurd (omega arith)
behind-some k (suc n) h = refl

length-some : (xs : List ℕ) → xs ≢ [] → 0 < length xs
length-some [] h = absurd (h refl)
length-some (x ∷ xs) h = omega arith

-- digits behind k bytes
behind-digits : (k : ℕ) (digits rest : List ℕ) → AreDigits digits → k + length digits ≤ behind k (digits_len (digits ++ rest))
behind-digits k digits rest are =
    let run = some_digits digits rest are in
    let some = length-some digits are.0 in
    let all = behind-some k (digits_len (digits ++ rest)) (omega (arith, run, some)) in
    omega (arith, all, run)

-- digits begin with no sign
no_sign : (digits rest : List ℕ) → AreDigits digits → sign_len (digits ++ rest) ≡ 0
no_sign [] rest (some, are) = absurd (some refl)
no_sign (d ∷ digits) rest (some, (digit, are)) = by (d == 43) refl (d == 45) refl
  where
    by : (t : Bool) → t ≡ (d == 43) → (u : Bool) → u ≡ (d == 45) → (let n : ℕ = if t || u then 1 else 0 in n ≡ 0)
    by true e u f = let is = eqb-true d 43 (sym e) in let other : is_digit 43 ≡ true = ap is_digit (sym is) ∙ digit in false_true (sym other)
    by false e true f = let is = eqb-true d 45 (sym f) in let other : is_digit 45 ≡ true = ap is_digit (sym is) ∙ digit in false_true (sym other)
    by false e false f = refl

-- behind `e` or `E`
signed : (sign digits rest : List ℕ) → IsSign sign → AreDigits digits →
    1 + length (sign ++ digits) ≤ behind (1 + sign_len (sign ++ digits ++ rest)) (digits_len (drop (sign_len (sign ++ digits ++ rest)) (sign ++ digits ++ rest)))
signed sign digits rest (inl none) are =
    rw none (rw (no_sign digits rest are) (behind-digits 1 digits rest are))
signed sign digits rest (inr (inl plus)) are =
    rw plus (let more = behind-digits 2 digits rest are in omega (arith, more))
signed sign digits rest (inr (inr minus)) are =
    rw minus (let more = behind-digits 2 digits rest are in omega (arith, more))

is_e : (e : ℕ) → (e ≡ 101) ⊎ (e ≡ 69) → ((e == 101) || (e == 69)) ≡ true
is_e e (inl is) = rw is refl
is_e e (inr is) = rw is refl

exponent-most : (exponent rest : List ℕ) → IsExponent exponent → length exponent ≤ exponent_len (exponent ++ rest)
exponent-most exponent rest (inl none) = rw none (omega arith)
exponent-most exponent rest (inr (e, sign, digits, letter, is_sign, are, is)) =
    rw (is, is_e e letter) (let most = signed sign digits rest is_sign are in omega (arith, most))

fraction-most : (fraction rest : List ℕ) → IsFraction fraction → length fraction ≤ fraction_len (fraction ++ rest)
fraction-most fraction rest (inl none) = rw none (omega arith)
fraction-most fraction rest (inr (digits, are, is)) = rw is (let most = behind-digits 1 digits rest are in omega (arith, most))

-- a fraction that neither a digit nor another fraction follows
fraction-whole : (fraction after : List ℕ) → IsFraction fraction → digits_len after ≡ 0 → fraction_len after ≡ 0 → fraction_len (fraction ++ after) ≡ length fraction
fraction-whole fraction after (inl none) no_digit no_fraction = rw none no_fraction
fraction-whole fraction after (inr (digits, are, is)) no_digit no_fraction =
    let run = some_digits digits after are in
    let some = length-some digits are.0 in
    let all = behind-some 1 (digits_len (digits ++ after)) (omega (arith, run, some)) in
    rw is (all ∙ omega (arith, run, no_digit))

no_digit_at_e : (e : ℕ) (bs : List ℕ) → (e ≡ 101) ⊎ (e ≡ 69) → digits_len (e ∷ bs) ≡ 0
no_digit_at_e e bs (inl is) = rw is refl
no_digit_at_e e bs (inr is) = rw is refl

no_fraction_at_e : (e : ℕ) (bs : List ℕ) → (e ≡ 101) ⊎ (e ≡ 69) → fraction_len (e ∷ bs) ≡ 0
no_fraction_at_e e bs (inl is) = rw is refl
no_fraction_at_e e bs (inr is) = rw is refl

after-whole : (fraction after : List ℕ) → fraction_len (fraction ++ after) ≡ length fraction →
    number_rest_len (fraction ++ after) ≡ length fraction + exponent_len after
after-whole fraction after is = rw (is, drop-append_seam fraction after) refl

rest-most : (fraction exponent rest : List ℕ) → IsFraction fraction → IsExponent exponent →
    length fraction + length exponent ≤ number_rest_len (fraction ++ (exponent ++ rest))
rest-most fraction exponent rest is_fraction (inl none) =
    rw none (let most = fraction-most fraction rest is_fraction in omega (arith, most))
rest-most fraction exponent rest is_fraction (inr (e, sign, digits, letter, is_sign, are, is)) =
    let after = ap {B = List ℕ} (λ xs. xs ++ rest) is in
    let no_digit : digits_len (exponent ++ rest) ≡ 0 = ap digits_len after ∙ no_digit_at_e e ((sign ++ digits) ++ rest) letter in
    let no_fraction : fraction_len (exponent ++ rest) ≡ 0 = ap fraction_len after ∙ no_fraction_at_e e ((sign ++ digits) ++ rest) letter in
    let whole = after-whole fraction (exponent ++ rest) (fraction-whole fraction (exponent ++ rest) is_fraction no_digit no_fraction) in
    let most = exponent-most exponent rest (inr (e, sign, digits, letter, is_sign, are, is)) in
    omega (arith, whole, most)

number-whole : (whole tail : List ℕ) → AreDigits whole → digits_len tail ≡ 0 → number_len (whole ++ tail) ≡ length whole + number_rest_len tail
number-whole whole tail are no_digit =
    let run = some_digits whole tail are in
    let all : digits_len (whole ++ tail) ≡ length whole = omega (arith, run, no_digit) in
    rw (all, drop-append_seam whole tail) refl

parts-most : (whole fraction exponent rest : List ℕ) → AreDigits whole → IsFraction fraction → IsExponent exponent →
    length whole + (length fraction + length exponent) ≤ number_len (whole ++ (fraction ++ (exponent ++ rest)))
parts-most whole fraction exponent rest are (inl no_fraction) (inl no_exponent) =
    let run = some_digits whole rest are in
    rw (no_fraction, no_exponent) (omega (arith, run))
parts-most whole fraction exponent rest are (inl no_fraction) (inr (e, sign, digits, letter, is_sign, are_digits, is)) =
    let is_exponent : IsExponent exponent = inr (e, sign, digits, letter, is_sign, are_digits, is) in
    let tail = ap {B = List ℕ} (λ xs. xs ++ (exponent ++ rest)) no_fraction ∙ ap {B = List ℕ} (λ xs. xs ++ rest) is in
    let no_digit : digits_len (fraction ++ (exponent ++ rest)) ≡ 0 = ap digits_len tail ∙ no_digit_at_e e ((sign ++ digits) ++ rest) letter in
    let all = number-whole whole (fraction ++ (exponent ++ rest)) are no_digit in
    let most = rest-most fraction exponent rest (inl no_fraction) is_exponent in
    omega (arith, all, most)
parts-most whole fraction exponent rest are (inr (digits, are_digits, point)) is_exponent =
    let no_digit : digits_len (fraction ++ (exponent ++ rest)) ≡ 0 =
    ap digits_len (ap {B = List ℕ} (λ xs. xs ++ (exponent ++ rest)) point) in
    let all = number-whole whole (fraction ++ (exponent ++ rest)) are no_digit in
    let most = rest-most fraction exponent rest (inr (digits, are_digits, point)) is_exponent in
    omega (arith, all, most)

-- a number at the front is no longer than the one that is found
pub number-most : (piece rest : List ℕ) → IsNumberText piece → length piece ≤ number_len (piece ++ rest)
number-most piece rest (whole, fraction, exponent, are, is_fraction, is_exponent, is) =
    let form = is ∙ append_assoc whole fraction exponent in
    let size : length piece ≡ length whole + (length fraction + length exponent) =
    ap {A = List ℕ} {B = ℕ} (λ xs. length xs) form ∙ length-append whole (fraction ++ exponent) ∙ ap (λ n. length whole + n) (length-append fraction exponent) in
    let text : piece ++ rest ≡ whole ++ (fraction ++ (exponent ++ rest)) =
    ap {B = List ℕ} (λ xs. xs ++ rest) form ∙ append_assoc whole (fraction ++ exponent) rest ∙ ap {B = List ℕ} (λ xs. whole ++ xs) (append_assoc fraction exponent rest) in
    let most = parts-most whole fraction exponent rest are is_fraction is_exponent in
    let same = ap number_len text in
    omega (arith, size, most, same)

-- ---- what is found is a number

run-some : (bs : List ℕ) (n : ℕ) → suc n ≡ digits_len bs → AreDigits (take (suc n) bs)
run-some [] n h = absurd (omega arith)
run-some (b ∷ bs) n h =
    (λ e. absurd (let different : ⊥ = cc in different), subst (λ m. Are is_digit (take m (b ∷ bs))) (sym h) (Are-run is_digit (b ∷ bs)))

fraction-is : (xs : List ℕ) → IsFraction (take (fraction_len xs) xs)
fraction-is [] = inl refl
fraction-is (b ∷ bs) = by (b == 46) refl (digits_len bs) refl
  where
    by : (t : Bool) → t ≡ (b == 46) → (n : ℕ) → n ≡ digits_len bs → IsFraction (take (if t then behind 1 n else 0) (b ∷ bs))
    by false e n h = inl refl
    by true e zero h = inl refl
    by true e (suc n) h =
        rw (one-more (suc n)) (inr (take (suc n) bs, run-some bs n h, ap {B = List ℕ} (λ c. c ∷ take (suc n) bs) (eqb-true b 46 (sym e))))

sign-is : (xs : List ℕ) → IsSign (take (sign_len xs) xs)
sign-is [] = inl refl
sign-is (b ∷ bs) = by (b == 43) refl (b == 45) refl
  where
    by : (t : Bool) → t ≡ (b == 43) → (u : Bool) → u ≡ (b == 45) → IsSign (take (if t || u then 1 else 0) (b ∷ bs))
    by true e u f = inr (inl (ap {B = List ℕ} (λ c. c ∷ []) (eqb-true b 43 (sym e))))
    by false e true f = inr (inr (ap {B = List ℕ} (λ c. c ∷ []) (eqb-true b 45 (sym f))))
    by false e false f = inl refl

either_e : (b : ℕ) (t u : Bool) → t ≡ (b == 101) → u ≡ (b == 69) → true ≡ (t || u) → (b ≡ 101) ⊎ (b ≡ 69)
either_e b true u e f h = inl (eqb-true b 101 (sym e))
either_e b false true e f h = inr (eqb-true b 69 (sym f))
either_e b false false e f h = false_true h

exponent-is : (xs : List ℕ) → IsExponent (take (exponent_len xs) xs)
exponent-is [] = inl refl
exponent-is (b ∷ bs) = by ((b == 101) || (b == 69)) refl (digits_len (drop (sign_len bs) bs)) refl
  where
    by : (t : Bool) → t ≡ ((b == 101) || (b == 69)) → (n : ℕ) → n ≡ digits_len (drop (sign_len bs) bs) →
        IsExponent (take (if t then behind (1 + sign_len bs) n else 0) (b ∷ bs))
    by false e n h = inl refl
    by true e zero h = inl refl
    by true e (suc n) h =
        let size : (1 + sign_len bs) + suc n ≡ suc (sign_len bs + suc n) = omega arith in
        let letter = either_e b (b == 101) (b == 69) refl refl e in
        rw size (inr (
          b,
          take (sign_len bs) bs,
          take (suc n) (drop (sign_len bs) bs),
          letter,
          sign-is bs,
          run-some (drop (sign_len bs) bs) n h,
          ap {B = List ℕ} (λ xs. b ∷ xs) (take-add (sign_len bs) (suc n) bs),
        ))

fraction-within : (xs : List ℕ) → fraction_len xs ≤ length xs
fraction-within [] = omega arith
fraction-within (b ∷ bs) = by (b == 46) (digits_len bs) (prefix_len-within is_digit bs)
  where
    by : (t : Bool) (n : ℕ) → n ≤ length bs → (let k : ℕ = if t then behind 1 n else 0 in k ≤ length (b ∷ bs))
    by false n h = omega arith
    by true zero h = omega arith
    by true (suc n) h = omega arith

sign-within : (xs : List ℕ) → sign_len xs ≤ length xs
sign-within [] = omega arith
sign-within (b ∷ bs) = by ((b == 43) || (b == 45))
  where
    by : (t : Bool) → (let k : ℕ = if t then 1 else 0 in k ≤ length (b ∷ bs))
    by false = omega arith
    by true = omega arith

exponent-within : (xs : List ℕ) → exponent_len xs ≤ length xs
exponent-within [] = omega arith
exponent-within (b ∷ bs) =
    by ((b == 101) || (b == 69)) (sign_len bs) (sign-within bs) (digits_len (drop (sign_len bs) bs)) (prefix_len-within is_digit (drop (sign_len bs) bs))
  where
    by : (t : Bool) (s : ℕ) → s ≤ length bs → (n : ℕ) → n ≤ length (drop s bs) → (let k : ℕ = if t then behind (1 + s) n else 0 in k ≤ length (b ∷ bs))
    by false s g n h = omega arith
    by true s g zero h = omega arith
    by true s g (suc n) h = omega (arith, length-drop s bs)

number_rest-within : (xs : List ℕ) → number_rest_len xs ≤ length xs
number_rest-within xs =
    let first = fraction-within xs in
    let second = exponent-within (drop (fraction_len xs) xs) in
    omega (arith, first, second, length-drop (fraction_len xs) xs)

pub number-within : (xs : List ℕ) → number_len xs ≤ length xs
number-within xs =
    let first = prefix_len-within is_digit xs in
    let second = number_rest-within (drop (digits_len xs) xs) in
    omega (arith, first, second, length-drop (digits_len xs) xs)

whole-some : (text : List ℕ) (n : ℕ) → n ≡ digits_len text → 0 < n → AreDigits (take n text)
whole-some text zero h some = absurd (omega arith)
whole-some text (suc n) h some = run-some text n h

-- where a digit stands, what is found is a number
pub number-is : (text : List ℕ) → 0 < digits_len text → IsNumberText (take (number_len text) text)
number-is text some =
    let w = digits_len text in
    let tail = drop w text in
    let f = fraction_len tail in
    let last = drop f tail in
    let e = exponent_len last in (
      take w text,
      take f tail,
      take e last,
      whole-some text w refl some,
      fraction-is tail,
      exponent-is last,
      take-add w (f + e) text ∙ ap {B = List ℕ} (λ xs. take w text ++ xs) (take-add f e tail) ∙ sym (append_assoc (take w text) (take f tail) (take e last)),
    )
