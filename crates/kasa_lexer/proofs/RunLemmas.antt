-- Runs of bytes that pass a test, and the byte behind them.
use Rattle.std.proofs.Common.{◌≡◌, ◌<◌, ◌≤◌, ◌+◌, ℕ, zero, suc, List, [], ◌∷◌, ◌++◌, Bool, true, false, cond, not, ◌==◌, take, drop, length, refl, sym, ap, ◌∙◌, arith, zero-add}
use Rattle.std.specs.List.{prefix_len}
use Rattle.std.proofs.Math.Seq.{drop-append_seam}
use Rattle.std.proofs.lemmas.Bool.{eq-eqb, eqb-true}
use Rattle.kasa_lexer.specs.Bytes.{Are}
use Rattle.kasa_lexer.specs.Front.{begins}
use Rattle.kasa_lexer.specs.Tokens.{EndsLine}

pub false_true : {A : Type 0} → true ≡ false → A
false_true e = absurd (let different : ⊥ = cc in different)

pub one-more : (n : ℕ) → 1 + n ≡ suc n
one-more n = omega arith

pub two-more : (n : ℕ) → 2 + n ≡ suc (suc n)
two-more n = omega arith

pub prefix_len-yes : (p : ℕ → Bool) (x : ℕ) (xs : List ℕ) → p x ≡ true → prefix_len p (x ∷ xs) ≡ suc (prefix_len p xs)
prefix_len-yes p x xs h = rw h (one-more (prefix_len p xs))

pub prefix_len-no : (p : ℕ → Bool) (x : ℕ) (xs : List ℕ) → p x ≡ false → prefix_len p (x ∷ xs) ≡ 0
prefix_len-no p x xs h = rw h refl

pub prefix_len-within : (p : ℕ → Bool) (xs : List ℕ) → prefix_len p xs ≤ length xs
prefix_len-within p [] = omega arith
prefix_len-within p (x ∷ xs) = by (p x) refl (prefix_len-within p xs)
  where
    by : (b : Bool) → b ≡ p x → prefix_len p xs ≤ length xs → cond b (1 + prefix_len p xs) 0 ≤ length (x ∷ xs)
    by true e h = omega arith
    by false e h = omega arith

-- a run passes
pub Are-run : (p : ℕ → Bool) (xs : List ℕ) → Are p (take (prefix_len p xs) xs)
Are-run p [] = tt
Are-run p (x ∷ xs) = by (p x) refl (Are-run p xs)
  where
    by : (b : Bool) → b ≡ p x → Are p (take (prefix_len p xs) xs) → Are p (take (cond b (1 + prefix_len p xs) 0) (x ∷ xs))
    by true e h = rw (one-more (prefix_len p xs)) (sym e, h)
    by false e h = tt

-- bytes that pass are a part of the run
pub prefix_len-Are : (p : ℕ → Bool) (ys zs : List ℕ) → Are p ys → prefix_len p (ys ++ zs) ≡ length ys + prefix_len p zs
prefix_len-Are p [] zs h = sym (zero-add (prefix_len p zs))
prefix_len-Are p (y ∷ ys) zs (passes, h) =
    let rest = prefix_len-Are p ys zs h in
    prefix_len-yes p y (ys ++ zs) passes ∙ omega (arith, rest)

pub prefix_len-stop : (p : ℕ → Bool) (xs : List ℕ) (c : ℕ) (rest : List ℕ) → Are p xs → p c ≡ false → prefix_len p (xs ++ c ∷ rest) ≡ length xs
prefix_len-stop p xs c rest h fails =
    let stops = prefix_len-no p c rest fails in
    prefix_len-Are p xs (c ∷ rest) h ∙ omega (arith, stops)

pub begins-seam : (c : ℕ) (xs rest : List ℕ) → begins c (drop (length xs) (xs ++ c ∷ rest)) ≡ true
begins-seam c xs rest = rw (drop-append_seam xs (c ∷ rest)) (eq-eqb c c refl)

-- the byte that ends a run
pub begins-run : (p : ℕ → Bool) (xs : List ℕ) (c : ℕ) (rest : List ℕ) → Are p xs → p c ≡ false →
    begins c (drop (prefix_len p (xs ++ c ∷ rest)) (xs ++ c ∷ rest)) ≡ true
begins-run p xs c rest h fails = rw (prefix_len-stop p xs c rest h fails) (begins-seam c xs rest)

-- a byte behind so many others
pub begins-at : (c m : ℕ) (bs : List ℕ) → true ≡ begins c (drop m bs) → (m < length bs) × (take (suc m) bs ≡ take m bs ++ c ∷ [])
begins-at c zero [] h = false_true h
begins-at c zero (b ∷ bs) h = (omega arith, ap {B = List ℕ} (λ x. x ∷ []) (eqb-true b c (sym h)))
begins-at c (suc m) [] h = false_true h
begins-at c (suc m) (b ∷ bs) h =
    let later = begins-at c m bs h in
    (omega (arith, later.0), ap {B = List ℕ} (λ xs. b ∷ xs) later.1)

-- a run of bytes that are no LF ends at a LF or at the end
pub EndsLine-run : (xs : List ℕ) → EndsLine (drop (prefix_len (λ c. not (c == 10)) xs) xs)
EndsLine-run [] = tt
EndsLine-run (x ∷ xs) = by (x == 10) refl (EndsLine-run xs)
  where
    by : (b : Bool) → b ≡ (x == 10) → EndsLine (drop (prefix_len (λ c. not (c == 10)) xs) xs) →
        EndsLine (drop (cond (not b) (1 + prefix_len (λ c. not (c == 10)) xs) 0) (x ∷ xs))
    by true e h = eqb-true x 10 (sym e)
    by false e h = rw (one-more (prefix_len (λ c. not (c == 10)) xs)) h

pub prefix_len-EndsLine : (xs : List ℕ) → EndsLine xs → prefix_len (λ c. not (c == 10)) xs ≡ 0
prefix_len-EndsLine [] h = refl
prefix_len-EndsLine (x ∷ xs) h = rw h refl

-- what a function makes of a text that begins with a piece of a known form
pub by_form : (f : List ℕ → ℕ) (text piece rest form : List ℕ) → text ≡ piece ++ rest → piece ≡ form → f (form ++ rest) ≡ length form → f text ≡ length piece
by_form f text piece rest form split is value =
    ap f (split ∙ ap {B = List ℕ} (λ xs. xs ++ rest) is) ∙ value ∙ sym (ap {A = List ℕ} {B = ℕ} (λ xs. length xs) is)
