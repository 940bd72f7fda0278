-- The token found byte by byte is the longest one, and there is a token wherever a piece spells one.
use Rattle.std.proofs.Common.{◌≡◌, ◌≢◌, ◌<◌, ◌≤◌, ◌+◌, ◌⊎◌, ℕ, zero, suc, List, [], ◌∷◌, ◌++◌, Bool, true, false, not, ◌==◌, ◌&&◌, ◌||◌, if◌then◌else◌, Option, Some, None, take, drop, length, refl, sym, ap, subst, ◌∙◌, inl, inr, arith, append_assoc, length-append}
use Rattle.std.specs.Bool.{⊤}
use Rattle.std.specs.List.{prefix_len, list_any}
use Rattle.std.proofs.lemmas.Bool.{eq-eqb, eqb-true}
use Rattle.kasa_syntax.specs.declared.tokens.TokenKind.{TokenKind}
use Rattle.kasa_syntax.specs.declared.tokens.TokenKind.TheVariants.{Name, Number, Quoted, Text, Percent, Dollar, Underscore, Break, Arrow, BothArrow, Symbol}
use Rattle.kasa_lexer.specs.declared.bytes.Class.{Class}
use Rattle.kasa_lexer.specs.declared.bytes.Class.TheVariants.{Letter, Digit, Low, Single, Double, PerCent, Cash, LineEnd, Minus, Less, Punctuation, Other}
use Rattle.kasa_lexer.specs.Bytes.{Are, is_digit, is_letter, is_letter_or_digit, is_word_byte}
use Rattle.kasa_lexer.specs.Front.{begins, behind, number_len, word_len, letters_len, inner_len, quoted_len, sized, low_token, minus_token, less_token, token_at, token_of, class_of}
use Rattle.kasa_lexer.specs.Tokens.{AreLetters, IsNumberText, IsBetween, Spells}
use Rattle.kasa_lexer.proofs.RunLemmas.{false_true, one-more, two-more, Are-run, prefix_len-yes, prefix_len-Are, prefix_len-stop, prefix_len-within, begins-run, begins-at}
use Rattle.kasa_lexer.proofs.NumberLemmas.{number-most, number-is, number-within}
use Rattle.kasa_lexer.proofs.ClassLemmas.{Fits, class-fits, class-letter, class-digit, class-symbol, low_byte, letter-no_digit}

-- ---- wherever a piece spells a token, one is found that reaches as far

-- a token is found that has n bytes or more, and that is of the kind where it has just these
abbrev pub Reaches : List ℕ → ℕ → TokenKind → Type 0
Reaches text n kind = (k : TokenKind) × (m : ℕ) × (token_of text ≡ Some (k, m)) × (n ≤ m) × (n ≡ m → kind ≡ k)

token-class : (c : Class) (b : ℕ) (bs : List ℕ) → class_of b ≡ c → token_of (b ∷ bs) ≡ token_at c b bs
token-class c b bs e = ap (λ k. token_at k b bs) e

-- a token of the same kind that has at least as many bytes
same_kind : (text : List ℕ) (n m : ℕ) (kind : TokenKind) → token_of text ≡ Some (kind, m) → n ≤ m → Reaches text n kind
same_kind text n m kind is most = (kind, m, is, most, λ e. refl)

-- what a piece of a known form reaches
reach : (text piece rest form : List ℕ) (kind : TokenKind) → text ≡ piece ++ rest → piece ≡ form → Reaches (form ++ rest) (length form) kind → Reaches text (length piece) kind
reach text piece rest form kind split is (k, m, found, most, same) =
    let size = ap {A = List ℕ} {B = ℕ} (λ xs. length xs) is in
    (k, m, ap token_of (split ∙ ap {B = List ℕ} (λ xs. xs ++ rest) is) ∙ found, omega (arith, size, most), λ e. same (sym size ∙ e))

any-take : (p : ℕ → Bool) (ys zs : List ℕ) (n : ℕ) → list_any p ys ≡ true → length ys ≤ n → list_any p (take n (ys ++ zs)) ≡ true
any-take p [] zs n some within = false_true (sym some)
any-take p (y ∷ ys) zs zero some within = absurd (omega arith)
any-take p (y ∷ ys) zs (suc n) some within = by (p y) refl some (any-take p ys zs n)
  where
    by : (t : Bool) → t ≡ p y → (t || list_any p ys) ≡ true → (list_any p ys ≡ true → length ys ≤ n → list_any p (take n (ys ++ zs)) ≡ true) →
        (t || list_any p (take n (ys ++ zs))) ≡ true
    by true e some later = refl
    by false e some later = later some (omega arith)

name-reaches : (b : ℕ) (bytes rest : List ℕ) → is_digit b ≡ false → Are is_word_byte (b ∷ bytes) → list_any is_letter_or_digit (b ∷ bytes) ≡ true →
    Reaches (b ∷ (bytes ++ rest)) (length (b ∷ bytes)) Name
name-reaches b bytes rest no_digit are some = by (is_letter b) refl
  where
    run : prefix_len is_word_byte (b ∷ (bytes ++ rest)) ≡ length (b ∷ bytes) + prefix_len is_word_byte rest
    run = prefix_len-Are is_word_byte (b ∷ bytes) rest are

    within : length (b ∷ bytes) ≤ word_len (b ∷ (bytes ++ rest))
    within = omega (arith, run)

    by : (t : Bool) → t ≡ is_letter b → Reaches (b ∷ (bytes ++ rest)) (length (b ∷ bytes)) Name
    by true e = same_kind (b ∷ (bytes ++ rest)) (length (b ∷ bytes)) (word_len (b ∷ (bytes ++ rest))) Name (token-class Letter b (bytes ++ rest) (class-letter b (sym e))) within
    by false e =
        let low : b ≡ 95 = low_byte b are.0 (sym e) no_digit in
        let class : class_of b ≡ Low = ap class_of low in
        let holds = any-take is_letter_or_digit (b ∷ bytes) rest (word_len (b ∷ (bytes ++ rest))) some within in
        let is : low_token (b ∷ (bytes ++ rest)) ≡ Some (Name, word_len (b ∷ (bytes ++ rest))) = rw holds refl in
        same_kind (b ∷ (bytes ++ rest)) (length (b ∷ bytes)) (word_len (b ∷ (bytes ++ rest))) Name (token-class Low b (bytes ++ rest) class ∙ is) within

-- a number begins with a digit
number-front : (piece : List ℕ) → IsNumberText piece → (d : ℕ) × (ds : List ℕ) × (piece ≡ d ∷ ds) × (is_digit d ≡ true)
number-front piece ([], fraction, exponent, (some, are), is_fraction, is_exponent, is) = absurd (some refl)
number-front piece (d ∷ ds, fraction, exponent, (some, (digit, are)), is_fraction, is_exponent, is) = (d, (ds ++ fraction) ++ exponent, is, digit)

number-reaches : (text piece rest : List ℕ) → text ≡ piece ++ rest → IsNumberText piece → Reaches text (length piece) Number
number-reaches text piece rest split spelled =
    let front = number-front piece spelled in
    let whole : text ≡ front.0 ∷ (front.1 ++ rest) = split ∙ ap {B = List ℕ} (λ xs. xs ++ rest) front.2 in
    let most = number-most piece rest spelled in
    let same = ap number_len split in
    let found : token_of text ≡ Some (Number, number_len text) =
    ap token_of whole ∙ token-class Digit front.0 (front.1 ++ rest) (class-digit front.0 front.3) ∙ ap {A = List ℕ} {B = Option (TokenKind × ℕ)} (λ xs. Some (Number, number_len xs)) (sym whole) in
    same_kind text (length piece) (number_len text) Number found (omega (arith, most, same))

quoted-found : (quote : ℕ) (inner rest : List ℕ) → Are (λ b. not (b == quote) && not (b == 10)) inner → quoted_len quote (inner ++ quote ∷ rest) ≡ 2 + length inner
quoted-found quote inner rest are =
    let test : ℕ → Bool = λ b. not (b == quote) && not (b == 10) in
    let stop : test quote ≡ false = let same = eq-eqb quote quote refl in rw same refl in
    let size : inner_len quote (inner ++ quote ∷ rest) ≡ length inner = prefix_len-stop test inner quote rest are stop in
    let ends : begins quote (drop (inner_len quote (inner ++ quote ∷ rest)) (inner ++ quote ∷ rest)) ≡ true = begins-run test inner quote rest are stop in
    rw ends (ap (λ n. 2 + n) size)

sized-some : (kind : TokenKind) (n : ℕ) → 0 < n → sized kind n ≡ Some (kind, n)
sized-some kind zero h = absurd (omega arith)
sized-some kind (suc n) h = refl

-- a quoted text after its first quote
between-found : (quote : ℕ) (kind : TokenKind) (inner rest : List ℕ) → Are (λ b. not (b == quote) && not (b == 10)) inner →
    sized kind (quoted_len quote ((inner ++ quote ∷ []) ++ rest)) ≡ Some (kind, 2 + length inner)
between-found quote kind inner rest are =
    let size = ap (quoted_len quote) (append_assoc inner (quote ∷ []) rest) ∙ quoted-found quote inner rest are in
    ap (sized kind) size ∙ sized-some kind (2 + length inner) (omega arith)

word-found : (kind : TokenKind) (word rest : List ℕ) → AreLetters word → sized kind (behind 1 (letters_len (word ++ rest))) ≡ Some (kind, 1 + letters_len (word ++ rest))
word-found kind word rest are = some (letters_len (word ++ rest)) (omega (arith, prefix_len-Are is_letter word rest are.1, nonempty word are.0))
  where
    nonempty : (xs : List ℕ) → xs ≢ [] → 0 < length xs
    nonempty [] h = absurd (h refl)
    nonempty (x ∷ xs) h = omega arith

    some : (n : ℕ) → 0 < n → sized kind (behind 1 n) ≡ Some (kind, 1 + n)
    some zero h = absurd (omega arith)
    some (suc n) h = sized-some kind (1 + suc n) (omega arith)

low-reaches : (rest : List ℕ) → Reaches (95 ∷ rest) 1 Underscore
low-reaches rest = by (list_any is_letter_or_digit (take (word_len (95 ∷ rest)) (95 ∷ rest))) refl (word_len rest) refl
  where
    by : (t : Bool) → t ≡ list_any is_letter_or_digit (take (word_len (95 ∷ rest)) (95 ∷ rest)) → (n : ℕ) → n ≡ word_len rest → Reaches (95 ∷ rest) 1 Underscore
    by false e n h =
        let is : low_token (95 ∷ rest) ≡ Some (Underscore, 1) = rw (← e) refl in
        same_kind (95 ∷ rest) 1 1 Underscore is (omega arith)
    by true e zero h =
        let size : word_len (95 ∷ rest) ≡ 1 = omega (arith, h) in
        let alone : list_any is_letter_or_digit (take (word_len (95 ∷ rest)) (95 ∷ rest)) ≡ false =
        ap (λ m. list_any is_letter_or_digit (take m (95 ∷ rest))) size in
        false_true (e ∙ alone)
    by true e (suc n) h =
        let size : word_len (95 ∷ rest) ≡ 2 + n = omega (arith, h) in
        let is : low_token (95 ∷ rest) ≡ Some (Name, word_len (95 ∷ rest)) = rw (← e) refl in
        (Name, word_len (95 ∷ rest), is, omega (arith, size), λ same. absurd (omega (arith, size, same)))

minus-reaches : (b : ℕ) (rest : List ℕ) → b ≡ 45 → Reaches (b ∷ rest) 1 (Symbol b)
minus-reaches b rest is = by (begins 62 rest) refl
  where
    found : token_of (b ∷ rest) ≡ minus_token rest
    found = ap (λ c. token_of (c ∷ rest)) is

    by : (t : Bool) → t ≡ begins 62 rest → Reaches (b ∷ rest) 1 (Symbol b)
    by true e = (Arrow, 2, found ∙ (let value : minus_token rest ≡ Some (Arrow, 2) = rw (← e) refl in value), omega arith, λ same. absurd (omega (arith, same)))
    by false e = (Symbol 45, 1, found ∙ (let value : minus_token rest ≡ Some (Symbol 45, 1) = rw (← e) refl in value), omega arith, λ same. ap Symbol is)

less-reaches : (b : ℕ) (rest : List ℕ) → b ≡ 60 → Reaches (b ∷ rest) 1 (Symbol b)
less-reaches b rest is = by (begins 45 rest && begins 62 (drop 1 rest)) refl
  where
    found : token_of (b ∷ rest) ≡ less_token rest
    found = ap (λ c. token_of (c ∷ rest)) is

    by : (t : Bool) → t ≡ (begins 45 rest && begins 62 (drop 1 rest)) → Reaches (b ∷ rest) 1 (Symbol b)
    by true e = (BothArrow, 3, found ∙ (let value : less_token rest ≡ Some (BothArrow, 3) = rw (← e) refl in value), omega arith, λ same. absurd (omega (arith, same)))
    by false e = (Symbol 60, 1, found ∙ (let value : less_token rest ≡ Some (Symbol 60, 1) = rw (← e) refl in value), omega arith, λ same. ap Symbol is)

symbol-reaches : (b : ℕ) (rest : List ℕ) → (class_of b ≡ Minus) ⊎ (class_of b ≡ Less) ⊎ (class_of b ≡ Punctuation) → Reaches (b ∷ rest) 1 (Symbol b)
symbol-reaches b rest (inl class) = minus-reaches b rest (let fits : Fits Minus b = subst (λ c. Fits c b) class (class-fits b) in fits)
symbol-reaches b rest (inr (inl class)) = less-reaches b rest (let fits : Fits Less b = subst (λ c. Fits c b) class (class-fits b) in fits)
symbol-reaches b rest (inr (inr class)) = same_kind (b ∷ rest) 1 1 (Symbol b) (token-class Punctuation b rest class) (omega arith)

pub token-most : (text piece rest : List ℕ) (kind : TokenKind) → text ≡ piece ++ rest → Spells piece kind → Reaches text (length piece) kind
token-most text [] rest Name split spelled = absurd spelled
token-most text (b ∷ bytes) rest Name split (no_digit, are, some) =
    reach text (b ∷ bytes) rest (b ∷ bytes) Name split refl (name-reaches b bytes rest no_digit are some)
token-most text piece rest Number split spelled = number-reaches text piece rest split spelled
token-most text piece rest Quoted split (inner, are, is) =
    let form : List ℕ = 39 ∷ inner ++ 39 ∷ [] in
    reach text piece rest form Quoted split is
    (same_kind (form ++ rest) (length form) (2 + length inner) Quoted (between-found 39 Quoted inner rest are) (omega (arith, length-append inner (39 ∷ []))))
token-most text piece rest Text split (inner, are, is) =
    let form : List ℕ = 34 ∷ inner ++ 34 ∷ [] in
    reach text piece rest form Text split is
    (same_kind (form ++ rest) (length form) (2 + length inner) Text (between-found 34 Text inner rest are) (omega (arith, length-append inner (34 ∷ []))))
token-most text piece rest Percent split (word, are, is) =
    reach text piece rest (37 ∷ word) Percent split is
    (same_kind (37 ∷ (word ++ rest)) (length (37 ∷ word)) (1 + letters_len (word ++ rest)) Percent (word-found Percent word rest are) (omega (arith, prefix_len-Are is_letter word rest are.1)))
token-most text piece rest Dollar split (word, are, is) =
    reach text piece rest (36 ∷ word) Dollar split is
    (same_kind (36 ∷ (word ++ rest)) (length (36 ∷ word)) (1 + letters_len (word ++ rest)) Dollar (word-found Dollar word rest are) (omega (arith, prefix_len-Are is_letter word rest are.1)))
token-most text piece rest Underscore split is = reach text piece rest (95 ∷ []) Underscore split is (low-reaches rest)
token-most text piece rest Break split is = reach text piece rest (10 ∷ []) Break split is (same_kind (10 ∷ rest) 1 1 Break refl (omega arith))
token-most text piece rest Arrow split is = reach text piece rest (45 ∷ 62 ∷ []) Arrow split is (same_kind (45 ∷ 62 ∷ rest) 2 2 Arrow refl (omega arith))
token-most text piece rest BothArrow split is = reach text piece rest (60 ∷ 45 ∷ 62 ∷ []) BothArrow split is (same_kind (60 ∷ 45 ∷ 62 ∷ rest) 3 3 BothArrow refl (omega arith))
token-most text piece rest (Symbol b) split (is, symbol) =
    reach text piece rest (b ∷ []) (Symbol b) split is (symbol-reaches b rest (class-symbol b symbol))

-- ---- what is found is a token

abbrev pub IsToken : List ℕ → Option (TokenKind × ℕ) → Type 0
IsToken text None = ⊤
IsToken text (Some (kind, n)) = (0 < n) × (n ≤ length text) × Spells (take n text) kind

any-here : (p : ℕ → Bool) (x : ℕ) (xs : List ℕ) → p x ≡ true → list_any p (x ∷ xs) ≡ true
any-here p x xs h = rw h refl

name-is : (b : ℕ) (bs : List ℕ) → is_letter b ≡ true → IsToken (b ∷ bs) (Some (Name, word_len (b ∷ bs)))
name-is b bs letter =
    let word : is_word_byte b ≡ true = rw letter refl in
    let alnum : is_letter_or_digit b ≡ true = rw letter refl in
    let size = prefix_len-yes is_word_byte b bs word in
    let within = prefix_len-within is_word_byte bs in
    let are = Are-run is_word_byte bs in
    rw size (omega arith, omega (arith, within), (letter-no_digit b letter, (word, are), any-here is_letter_or_digit b (take (word_len bs) bs) alnum))

number-found : (b : ℕ) (bs : List ℕ) → is_digit b ≡ true → IsToken (b ∷ bs) (Some (Number, number_len (b ∷ bs)))
number-found b bs digit =
    let size = prefix_len-yes is_digit b bs digit in
    (omega (arith, size), number-within (b ∷ bs), number-is (b ∷ bs) (omega (arith, size)))

low-is : (b : ℕ) (bs : List ℕ) → b ≡ 95 → IsToken (b ∷ bs) (low_token (b ∷ bs))
low-is b bs is = by (list_any is_letter_or_digit (take (word_len (b ∷ bs)) (b ∷ bs))) refl
  where
    by : (t : Bool) → t ≡ list_any is_letter_or_digit (take (word_len (b ∷ bs)) (b ∷ bs)) →
        IsToken (b ∷ bs) (if t then Some (Name, word_len (b ∷ bs)) else Some (Underscore, 1))
    by false e = (omega arith, omega arith, ap {B = List ℕ} (λ c. c ∷ []) is)
    by true e =
        let word : is_word_byte b ≡ true = ap is_word_byte is in
        let no_digit : is_digit b ≡ false = ap is_digit is in
        let size = prefix_len-yes is_word_byte b bs word in
        let within = prefix_len-within is_word_byte bs in
        let are = Are-run is_word_byte bs in
        let some : list_any is_letter_or_digit (take (suc (word_len bs)) (b ∷ bs)) ≡ true =
        ap {A = ℕ} {B = Bool} (λ n. list_any is_letter_or_digit (take n (b ∷ bs))) (sym size) ∙ sym e in
        let all : IsToken (b ∷ bs) (Some (Name, suc (word_len bs))) = (omega arith, omega (arith, within), (no_digit, (word, are), some)) in
        subst (λ n. IsToken (b ∷ bs) (Some (Name, n))) (sym size) all

-- a quoted text of its kind
quoted-is : (quote : ℕ) (kind : TokenKind) (b : ℕ) (bs : List ℕ) → ((piece : List ℕ) → IsBetween quote piece → Spells piece kind) → b ≡ quote →
    IsToken (b ∷ bs) (sized kind (quoted_len quote bs))
quoted-is quote kind b bs spells is = by (begins quote (drop (inner_len quote bs) bs)) refl
  where
    by : (t : Bool) → t ≡ begins quote (drop (inner_len quote bs) bs) → IsToken (b ∷ bs) (sized kind (if t then 2 + inner_len quote bs else 0))
    by false e = tt
    by true e =
        let n = inner_len quote bs in
        let ends = begins-at quote n bs e in
        let are = Are-run (λ c. not (c == quote) && not (c == 10)) bs in
        let piece : b ∷ take (suc n) bs ≡ quote ∷ take n bs ++ quote ∷ [] =
        ap {B = List ℕ} (λ xs. b ∷ xs) ends.1 ∙ ap {B = List ℕ} (λ c. c ∷ (take n bs ++ quote ∷ [])) is in
        let spelled : Spells (b ∷ take (suc n) bs) kind = spells (b ∷ take (suc n) bs) (take n bs, are, piece) in
        let all : IsToken (b ∷ bs) (Some (kind, suc (suc n))) = (omega arith, omega (arith, ends.0), spelled) in
        subst (λ m. IsToken (b ∷ bs) (sized kind m)) (sym (two-more n)) all

-- a word of letters behind a sign
word-is : (sign : ℕ) (kind : TokenKind) (b : ℕ) (bs : List ℕ) →
    ((piece word : List ℕ) → AreLetters word → piece ≡ sign ∷ word → Spells piece kind) → b ≡ sign →
    IsToken (b ∷ bs) (sized kind (behind 1 (letters_len bs)))
word-is sign kind b bs spells is = by (letters_len bs) refl (prefix_len-within is_letter bs)
  where
    letters : (xs : List ℕ) (n : ℕ) → suc n ≡ letters_len xs → AreLetters (take (suc n) xs)
    letters [] n h = absurd (omega arith)
    letters (x ∷ xs) n h =
        (λ e. absurd (let different : ⊥ = cc in different), subst (λ m. Are is_letter (take m (x ∷ xs))) (sym h) (Are-run is_letter (x ∷ xs)))

    by : (n : ℕ) → n ≡ letters_len bs → n ≤ length bs → IsToken (b ∷ bs) (sized kind (behind 1 n))
    by zero h within = tt
    by (suc n) h within =
        let piece : b ∷ take (suc n) bs ≡ sign ∷ take (suc n) bs = ap {B = List ℕ} (λ c. c ∷ take (suc n) bs) is in
        let spelled : Spells (b ∷ take (suc n) bs) kind = spells (b ∷ take (suc n) bs) (take (suc n) bs) (letters bs n h) piece in
        let all : IsToken (b ∷ bs) (Some (kind, suc (suc n))) = (omega arith, omega (arith, within), spelled) in
        subst (λ m. IsToken (b ∷ bs) (sized kind m)) (sym (one-more (suc n))) all

minus-is : (b : ℕ) (bs : List ℕ) → b ≡ 45 → IsToken (b ∷ bs) (minus_token bs)
minus-is b bs is = by bs (begins 62 bs) refl
  where
    by : (xs : List ℕ) (t : Bool) → t ≡ begins 62 xs → IsToken (b ∷ xs) (if t then Some (Arrow, 2) else Some (Symbol 45, 1))
    by xs false e = (omega arith, omega arith, (ap {B = List ℕ} (λ c. c ∷ []) is, refl))
    by [] true e = false_true e
    by (c ∷ xs) true e =
        let second : c ≡ 62 = eqb-true c 62 (sym e) in
        let piece : b ∷ c ∷ [] ≡ 45 ∷ 62 ∷ [] = rw (is, second) refl in
        (omega arith, omega arith, piece)

less-is : (b : ℕ) (bs : List ℕ) → b ≡ 60 → IsToken (b ∷ bs) (less_token bs)
less-is b bs is = by bs (begins 45 bs) refl (begins 62 (drop 1 bs)) refl
  where
    by : (xs : List ℕ) (t : Bool) → t ≡ begins 45 xs → (u : Bool) → u ≡ begins 62 (drop 1 xs) →
        IsToken (b ∷ xs) (if t && u then Some (BothArrow, 3) else Some (Symbol 60, 1))
    by xs false e u f = (omega arith, omega arith, (ap {B = List ℕ} (λ c. c ∷ []) is, refl))
    by xs true e false f = (omega arith, omega arith, (ap {B = List ℕ} (λ c. c ∷ []) is, refl))
    by [] true e true f = false_true e
    by (c ∷ []) true e true f = false_true f
    by (c ∷ d ∷ xs) true e true f =
        let second : c ≡ 45 = eqb-true c 45 (sym e) in
        let third : d ≡ 62 = eqb-true d 62 (sym f) in
        let piece : b ∷ c ∷ d ∷ [] ≡ 60 ∷ 45 ∷ 62 ∷ [] = rw (is, second, third) refl in
        (omega arith, omega arith, piece)

at-is : (c : Class) (b : ℕ) (bs : List ℕ) → Fits c b → IsToken (b ∷ bs) (token_at c b bs)
at-is Letter b bs fits = name-is b bs fits
at-is Digit b bs fits = number-found b bs fits
at-is Low b bs fits = low-is b bs fits
at-is Single b bs fits = quoted-is 39 Quoted b bs (λ piece h. h) fits
at-is Double b bs fits = quoted-is 34 Text b bs (λ piece h. h) fits
at-is PerCent b bs fits = word-is 37 Percent b bs (λ piece word are is. (word, are, is)) fits
at-is Cash b bs fits = word-is 36 Dollar b bs (λ piece word are is. (word, are, is)) fits
at-is LineEnd b bs fits = (omega arith, omega arith, ap {B = List ℕ} (λ c. c ∷ []) fits)
at-is Minus b bs fits = minus-is b bs fits
at-is Less b bs fits = less-is b bs fits
at-is Punctuation b bs fits = (omega arith, omega arith, (refl, fits))
at-is Other b bs fits = tt

pub token-is : (text : List ℕ) → IsToken text (token_of text)
token-is [] = tt
token-is (b ∷ bs) = at-is (class_of b) b bs (class-fits b)
