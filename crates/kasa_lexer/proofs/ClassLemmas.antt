-- What the class of a first byte says of it, and which class a byte has.
use Rattle.std.proofs.Common.{◌≡◌, ◌⊎◌, ℕ, List, [], ◌∷◌, Bool, true, false, ◌==◌, ◌&&◌, ◌||◌, if◌then◌else◌, refl, sym, ap, ◌∙◌, inl, inr, arith, codes}
use Rattle.std.specs.Bool.{⊤}
use Rattle.std.specs.List.{list_any, list_all}
use Rattle.std.proofs.lemmas.Bool.{eqb-true}
use Rattle.std.proofs.lemmas.Bool.Decides.{nat_tests}
use Rattle.kasa_lexer.specs.declared.bytes.Class.{Class}
use Rattle.kasa_lexer.specs.declared.bytes.Class.TheVariants.{Letter, Digit, Low, Single, Double, PerCent, Cash, LineEnd, Minus, Less, Punctuation, Other}
use Rattle.kasa_lexer.specs.Bytes.{is_digit, is_letter, is_word_byte, is_symbol}
use Rattle.kasa_lexer.specs.Front.{class_of, other_class_of}
use Rattle.kasa_lexer.proofs.RunLemmas.{false_true}

-- ---- the class of a byte

pub digit-no_letter : (b : ℕ) → is_digit b ≡ true → is_letter b ≡ false
digit-no_letter b h = grind (arith, nat_tests)

pub letter-no_digit : (b : ℕ) → is_letter b ≡ true → is_digit b ≡ false
letter-no_digit b h = grind (arith, nat_tests)

pub class-letter : (b : ℕ) → is_letter b ≡ true → class_of b ≡ Letter
class-letter b h = rw h refl

pub class-digit : (b : ℕ) → is_digit b ≡ true → class_of b ≡ Digit
class-digit b h = let other = digit-no_letter b h in rw (other, h) refl

-- a byte of a name that is no letter and no digit
pub low_byte : (b : ℕ) → is_word_byte b ≡ true → is_letter b ≡ false → is_digit b ≡ false → b ≡ 95
low_byte b word no_letter no_digit = eqb-true b 95 (rw (no_letter, no_digit) at word)

-- what holds of each listed byte holds of a byte that is listed
any-passes : (q : ℕ → Bool) (b : ℕ) (cs : List ℕ) → list_all q cs ≡ true → list_any (λ c. c == b) cs ≡ true → q b ≡ true
any-passes q b [] all some = false_true (sym some)
any-passes q b (c ∷ cs) all some = by (c == b) refl (q c) refl all some (any-passes q b cs)
  where
    by : (t : Bool) → t ≡ (c == b) → (u : Bool) → u ≡ q c → (u && list_all q cs) ≡ true → (t || list_any (λ d. d == b) cs) ≡ true →
        (list_all q cs ≡ true → list_any (λ d. d == b) cs ≡ true → q b ≡ true) → q b ≡ true
    by t e false f all some later = false_true (sym all)
    by true e true f all some later = ap q (sym (eqb-true c b (sym e))) ∙ sym f
    by false e true f all some later = later all some

-- the classes of symbols
can_be_symbol : Class → Bool
can_be_symbol Minus = true
can_be_symbol Less = true
can_be_symbol Punctuation = true
can_be_symbol _ = false

pub class-symbol : (b : ℕ) → is_symbol b ≡ true → (class_of b ≡ Minus) ⊎ (class_of b ≡ Less) ⊎ (class_of b ≡ Punctuation)
unfolding can_be_symbol
class-symbol b h = by (class_of b) (any-passes (λ c. can_be_symbol (class_of c)) b (codes "()[]{},.:;/+-*^@#=<>&|?") refl h)
  where
    by : (c : Class) → can_be_symbol c ≡ true → (c ≡ Minus) ⊎ (c ≡ Less) ⊎ (c ≡ Punctuation)
    by Minus e = inl refl
    by Less e = inr (inl refl)
    by Punctuation e = inr (inr refl)
    by Letter e = false_true (sym e)
    by Digit e = false_true (sym e)
    by Low e = false_true (sym e)
    by Single e = false_true (sym e)
    by Double e = false_true (sym e)
    by PerCent e = false_true (sym e)
    by Cash e = false_true (sym e)
    by LineEnd e = false_true (sym e)
    by Other e = false_true (sym e)

-- ---- what a class says of its byte

abbrev pub Fits : Class → ℕ → Type 0
Fits Letter b = is_letter b ≡ true
Fits Digit b = is_digit b ≡ true
Fits Low b = b ≡ 95
Fits Single b = b ≡ 39
Fits Double b = b ≡ 34
Fits PerCent b = b ≡ 37
Fits Cash b = b ≡ 36
Fits LineEnd b = b ≡ 10
Fits Minus b = b ≡ 45
Fits Less b = b ≡ 60
Fits Punctuation b = is_symbol b ≡ true
Fits Other b = ⊤

other-fits : (b : ℕ) → Fits (other_class_of b) b
other-fits b = low (b == 95) refl
  where
    symbol : (t : Bool) → t ≡ is_symbol b → Fits (if t then Punctuation else Other) b
    symbol true e = sym e
    symbol false e = tt

    less : (t : Bool) → t ≡ (b == 60) → Fits (if t then Less else (if is_symbol b then Punctuation else Other)) b
    less true e = eqb-true b 60 (sym e)
    less false e = symbol (is_symbol b) refl

    minus : (t : Bool) → t ≡ (b == 45) → Fits (if t then Minus else (if b == 60 then Less else (if is_symbol b then Punctuation else Other))) b
    minus true e = eqb-true b 45 (sym e)
    minus false e = less (b == 60) refl

    line_end : (t : Bool) → t ≡ (b == 10) →
        Fits (if t then LineEnd else (if b == 45 then Minus else (if b == 60 then Less else (if is_symbol b then Punctuation else Other)))) b
    line_end true e = eqb-true b 10 (sym e)
    line_end false e = minus (b == 45) refl

    cash : (t : Bool) → t ≡ (b == 36) →
        Fits (if t then Cash else (if b == 10 then LineEnd else (if b == 45 then Minus else (if b == 60 then Less else (if is_symbol b then Punctuation else Other))))) b
    cash true e = eqb-true b 36 (sym e)
    cash false e = line_end (b == 10) refl

    per_cent : (t : Bool) → t ≡ (b == 37) →
        Fits (if t then PerCent else (if b == 36 then Cash else (if b == 10 then LineEnd else (if b == 45 then Minus else (if b == 60 then Less else (if is_symbol b then Punctuation else Other)))))) b
    per_cent true e = eqb-true b 37 (sym e)
    per_cent false e = cash (b == 36) refl

    double : (t : Bool) → t ≡ (b == 34) →
        Fits (if t then Double else (if b == 37 then PerCent else (if b == 36 then Cash else (if b == 10 then LineEnd else (if b == 45 then Minus else (if b == 60 then Less else (if is_symbol b then Punctuation else Other))))))) b
    double true e = eqb-true b 34 (sym e)
    double false e = per_cent (b == 37) refl

    single : (t : Bool) → t ≡ (b == 39) →
        Fits (if t then Single else (if b == 34 then Double else (if b == 37 then PerCent else (if b == 36 then Cash else (if b == 10 then LineEnd else (if b == 45 then Minus else (if b == 60 then Less else (if is_symbol b then Punctuation else Other)))))))) b
    single true e = eqb-true b 39 (sym e)
    single false e = double (b == 34) refl

    low : (t : Bool) → t ≡ (b == 95) →
        Fits (if t then Low else (if b == 39 then Single else (if b == 34 then Double else (if b == 37 then PerCent else (if b == 36 then Cash else (if b == 10 then LineEnd else (if b == 45 then Minus else (if b == 60 then Less else (if is_symbol b then Punctuation else Other))))))))) b
    low true e = eqb-true b 95 (sym e)
    low false e = single (b == 39) refl

pub class-fits : (b : ℕ) → Fits (class_of b) b
class-fits b = by (is_letter b) refl (is_digit b) refl
  where
    by : (t : Bool) → t ≡ is_letter b → (u : Bool) → u ≡ is_digit b → Fits (if t then Letter else (if u then Digit else other_class_of b)) b
    by true e u f = sym e
    by false e true f = sym f
    by false e false f = other-fits b
