-- A text has exactly one outcome, and what is taken step by step leads to it.
use Rattle.std.proofs.Common.{◌≡◌, ◌≢◌, ◌<◌, ◌≤◌, ◌+◌, ◌-◌, ◌⊎◌, ℕ, zero, suc, List, [], ◌∷◌, ◌++◌, Bool, true, false, ◌==◌, Option, Some, None, Result, Ok, Err, take, drop, length, refl, sym, ap, subst, ◌∙◌, inl, inr, arith, append_assoc, add-zero, cond}
use Rattle.std.specs.List.{prefix_len, list_any}
use Rattle.std.proofs.lemmas.Bool.{eqb-true}
use Rattle.std.proofs.lemmas.List.{length-drop, drop_all, drop-drop, append-nil}
use Rattle.kasa_num.specs.declared.Place.{Place}
use Rattle.kasa_syntax.specs.Place.{place_at}
use Rattle.kasa_syntax.specs.declared.tokens.TokenKind.{TokenKind}
use Rattle.kasa_syntax.specs.declared.tokens.TokenKind.TheVariants.{Name, Number, Quoted, Text, Percent, Dollar, Underscore, Break, Arrow, BothArrow, Symbol}
use Rattle.kasa_syntax.specs.declared.tokens.Token.{Token}
use Rattle.kasa_lexer.specs.declared.LexFault.{LexFault}
use Rattle.kasa_lexer.specs.declared.LexFault.TheVariants.{NoMemory, BadByte, UnclosedComment, UnclosedQuote, LongName}
use Rattle.kasa_lexer.specs.declared.front.Front.{Front}
use Rattle.kasa_lexer.specs.declared.front.Front.TheVariants.{Blank as blank_front, Token as token_front, Fault as fault_front}
use Rattle.kasa_lexer.specs.Bytes.{is_letter_or_digit, is_word_byte}
use Rattle.kasa_lexer.specs.Front.{token_of, low_token, word_len, front_of, lone_tokens, taken_len, taken_tokens}
use Rattle.kasa_lexer.specs.Tokens.{StandsToken, StandsFault, Lexes, IsOutcome, token_from}
use Rattle.kasa_lexer.specs.Tokens.Lexes.{ended, blank, token, fault_later, fault_here}
use Rattle.kasa_lexer.proofs.RunLemmas.{false_true, prefix_len-yes}
use Rattle.kasa_lexer.proofs.FrontLemmas.{IsFront, front-is, front-only, longest-only, found-token}

abbrev pub Outcome : Type 0
Outcome = Result (List Token) LexFault

-- tokens before others
abbrev pub onto : List Token → Outcome → Outcome
onto ts (Ok us) = Ok (ts ++ us)
onto ts (Err fault) = Err fault

pub onto-nil : (o : Outcome) → onto [] o ≡ o
onto-nil (Ok us) = refl
onto-nil (Err fault) = refl

pub onto-append : (ts us : List Token) (o : Outcome) → onto ts (onto us o) ≡ onto (ts ++ us) o
onto-append ts us (Ok vs) = ap {B = Outcome} (λ x. Ok x) (sym (append_assoc ts us vs))
onto-append ts us (Err fault) = refl

-- ---- one step

-- what follows from what stands at the front
abbrev pub Follows : List ℕ → ℕ → Front → Outcome → Type 0
Follows text at (blank_front n) o = Lexes text (at + n) o
Follows text at (token_front kind n) o = (p : Outcome) × Lexes text (at + n) p × (o ≡ onto (token_from at kind n ∷ []) p)
Follows text at (fault_front fault) o = o ≡ Err fault

nonempty : (xs : List ℕ) (n : ℕ) → 0 < n → n ≤ length xs → xs ≢ []
nonempty [] n some within e = omega arith
nonempty (x ∷ xs) n some within e = let different : ⊥ = cc in different

fault-nonempty : (place : Place) (at : ℕ) (xs : List ℕ) (fault : LexFault) → StandsFault place at xs fault → xs ≢ []
fault-nonempty place at (x ∷ xs) fault stands e = let different : ⊥ = cc in different
fault-nonempty place at [] NoMemory stands e = stands
fault-nonempty place at [] (UnclosedComment p) (is, none, (rest, opens)) e = let different : ⊥ = cc in different
fault-nonempty place at [] (UnclosedQuote p) (is, other, quote, none) e = quote
fault-nonempty place at [] (LongName p) (is, other, (kind, n, longest, long)) e =
    let found = longest-only [] kind n longest in
    let different : ⊥ = cc in different
fault-nonempty place at [] (BadByte p) (is, other, some, no_quote, none) e = some refl

token-nonempty : (at : ℕ) (xs : List ℕ) (kind : TokenKind) (n : ℕ) → StandsToken at xs kind n → xs ≢ []
token-nonempty at (x ∷ xs) kind n stands e = let different : ⊥ = cc in different
token-nonempty at [] kind n (other, longest, short) e =
    let found = longest-only [] kind n longest in
    let different : ⊥ = cc in different

-- the front of what is left of a text
abbrev pub front_at : List ℕ → ℕ → Front
front_at text at = front_of (place_at text at) at (drop at text)

abbrev pub Goes : List ℕ → ℕ → Outcome → Type 0
Goes text at o = ((drop at text ≡ []) × (o ≡ Ok [])) ⊎ ((drop at text ≢ []) × Follows text at (front_at text at) o)

goes : (text : List ℕ) (at : ℕ) (o : Outcome) (f : Front) → IsFront (place_at text at) at (drop at text) f → drop at text ≢ [] → Follows text at f o → Goes text at o
goes text at o f is some follows = inr (some, subst (λ g. Follows text at g o) (sym (front-only (place_at text at) at (drop at text) f is)) follows)

pub follows : (text : List ℕ) {at : ℕ} {o : Outcome} → Lexes text at o → Goes text at o
follows text (ended e) = inl (e, refl)
follows text {at = at} {o = o} (blank n stands rest) =
    goes text at o (blank_front n) stands (nonempty (drop at text) n stands.0 stands.1) rest
follows text {at = at} {o = o} (token {tokens = tokens} kind n stands rest) =
    goes text at o (token_front kind n) stands (token-nonempty at (drop at text) kind n stands) (Ok tokens, rest, refl)
follows text {at = at} {o = o} (fault_later {fault = fault} kind n stands rest) =
    goes text at o (token_front kind n) stands (token-nonempty at (drop at text) kind n stands) (Err fault, rest, refl)
follows text {at = at} {o = o} (fault_here fault stands) =
    goes text at o (fault_front fault) stands (fault-nonempty (place_at text at) at (drop at text) fault stands) refl

-- ---- one outcome at most

left_over : (text : List ℕ) (at : ℕ) → drop at text ≢ [] → at < length text
left_over text at some = by (drop at text) refl some
  where
    by : (xs : List ℕ) → xs ≡ drop at text → xs ≢ [] → at < length text
    by [] e h = absurd (h refl)
    by (x ∷ xs) e h =
        let size : length (x ∷ xs) ≡ length text - at = ap {A = List ℕ} {B = ℕ} (λ ys. length ys) e ∙ length-drop at text in
        omega (arith, size)

pub progress : (at : ℕ) (xs : List ℕ) (kind : TokenKind) (n : ℕ) → StandsToken at xs kind n → 0 < n
progress at xs kind zero stands = absurd (some_token (longest-only xs kind 0 stands.1))
  where
    some_token : (let o : Option (TokenKind × ℕ) = Some (kind, 0) in token_of xs ≡ o) → ⊥
    some_token e = let is = found-token xs kind 0 e in omega (arith, is.0)
progress at xs kind (suc n) stands = omega arith

-- what is left behind an offset has one outcome at most, where it has at most k bytes
abbrev Unique : List ℕ → ℕ → Type 0
Unique text k = (at : ℕ) (one other : Outcome) → length text ≤ at + k → Lexes text at one → Lexes text at other → one ≡ other

unique-zero : (text : List ℕ) → Unique text 0
unique-zero text at one other near first second = by (follows text first) (follows text second)
  where
    by : Goes text at one → Goes text at other → one ≡ other
    by (inl a) (inl b) = a.1 ∙ sym b.1
    by (inl a) (inr b) = absurd (b.0 a.0)
    by (inr a) b = let within = left_over text at a.0 in absurd (omega (arith, within))

unique-suc : (text : List ℕ) (k : ℕ) → Unique text k → Unique text (suc k)
unique-suc text k later at one other near first second = by (follows text first) (follows text second)
  where
    step : (f : Front) → IsFront (place_at text at) at (drop at text) f → Follows text at f one → Follows text at f other → one ≡ other
    step (blank_front n) is a b = later (at + n) one other (let some = is.0 in omega (arith, some)) a b
    step (token_front kind n) is (p, a, pa) (q, b, qb) =
        let some = progress at (drop at text) kind n is in
        let same = later (at + n) p q (omega (arith, some)) a b in
        pa ∙ ap (onto (token_from at kind n ∷ [])) same ∙ sym qb
    step (fault_front fault) is a b = a ∙ sym b

    by : Goes text at one → Goes text at other → one ≡ other
    by (inl a) (inl b) = a.1 ∙ sym b.1
    by (inl a) (inr b) = absurd (b.0 a.0)
    by (inr a) (inl b) = absurd (a.0 b.0)
    by (inr a) (inr b) = step (front_at text at) (front-is (place_at text at) at (drop at text) a.0) a.1 b.1

unique : (text : List ℕ) (k : ℕ) → Unique text k
unique text zero = unique-zero text
unique text (suc k) = unique-suc text k (unique text k)

pub one_outcome : (text : List ℕ) (one other : Outcome) → Lexes text 0 one → Lexes text 0 other → one ≡ other
one_outcome text one other first second = unique text (length text) 0 one other (omega arith) first second

-- ---- steps back

-- a token before what follows it
pub token-step : (text : List ℕ) (at : ℕ) (kind : TokenKind) (n : ℕ) (o : Outcome) → StandsToken at (drop at text) kind n → Lexes text (at + n) o →
    Lexes text at (onto (token_from at kind n ∷ []) o)
token-step text at kind n (Ok ts) stands rest = token kind n stands rest
token-step text at kind n (Err fault) stands rest = fault_later kind n stands rest

abbrev Exists : List ℕ → ℕ → Type 0
Exists text k = (at : ℕ) → length text ≤ at + k → (o : Outcome) × Lexes text at o

exists-suc : (text : List ℕ) (k : ℕ) → Exists text k → Exists text (suc k)
exists-suc text k later at near = by (drop at text) refl
  where
    step : (f : Front) → IsFront (place_at text at) at (drop at text) f → (o : Outcome) × Lexes text at o
    step (blank_front n) is =
        let rest = later (at + n) (let some = is.0 in omega (arith, some)) in
        (rest.0, blank n is rest.1)
    step (token_front kind n) is =
        let some = progress at (drop at text) kind n is in
        let rest = later (at + n) (omega (arith, some)) in
        (onto (token_from at kind n ∷ []) rest.0, token-step text at kind n rest.0 is rest.1)
    step (fault_front fault) is = (Err fault, fault_here fault is)

    by : (xs : List ℕ) → drop at text ≡ xs → (o : Outcome) × Lexes text at o
    by [] e = (Ok [], ended e)
    by (x ∷ xs) e = step (front_at text at) (front-is (place_at text at) at (drop at text) (λ none. let different : ⊥ = cc in different))

exists : (text : List ℕ) (k : ℕ) → Exists text k
exists text zero at near = (Ok [], ended (drop_all at text (omega arith)))
exists text (suc k) at near = exists-suc text k (exists text k) at near

pub an_outcome : (text : List ℕ) → (o : Outcome) × Lexes text 0 o
an_outcome text = exists text (length text) 0 (omega arith)

-- ---- a run of `_`

-- a run of letters, digits and `_` that holds `_` alone
abbrev IsLone : List ℕ → Type 0
IsLone xs = list_any is_letter_or_digit (take (word_len xs) xs) ≡ false

-- the first of a run of `_`
lone-front : (place : Place) (at : ℕ) (rest : List ℕ) → IsLone (95 ∷ rest) → StandsToken at (95 ∷ rest) Underscore 1
lone-front place at rest alone =
    let found : front_of place at (95 ∷ rest) ≡ token_front Underscore 1 = rw alone refl in
    subst (IsFront place at (95 ∷ rest)) found (front-is place at (95 ∷ rest) (λ e. let different : ⊥ = cc in different))

lone-rest : (rest : List ℕ) → IsLone (95 ∷ rest) → IsLone rest
lone-rest rest alone =
    let size : word_len (95 ∷ rest) ≡ suc (word_len rest) = prefix_len-yes is_word_byte 95 rest refl in
    ap {A = ℕ} {B = Bool} (λ n. list_any is_letter_or_digit (take n (95 ∷ rest))) (sym size) ∙ alone

lone-run : (text : List ℕ) (k : ℕ) (at : ℕ) (xs : List ℕ) (o : Outcome) → drop at text ≡ xs → IsLone xs → k ≤ prefix_len (λ b. b == 95) xs →
    Lexes text (at + k) o → Lexes text at (onto (lone_tokens at k) o)
lone-run text zero at xs o left alone within rest =
    subst (λ p. Lexes text at p) (sym (onto-nil o)) (subst (λ n. Lexes text n o) (add-zero at) rest)
lone-run text (suc k) at [] o left alone within rest = absurd (omega arith)
lone-run text (suc k) at (b ∷ bs) o left alone within rest =
    by (b == 95) refl within (λ bs-left bs-alone bs-within. lone-run text k (at + 1) bs o bs-left bs-alone bs-within (let same : (at + 1) + k ≡ at + suc k = omega arith in subst (λ n. Lexes text n o) (sym same) rest))
  where
    first : b ≡ 95 → Lexes text (at + 1) (onto (lone_tokens (at + 1) k) o) → Lexes text at (onto (lone_tokens at (suc k)) o)
    first is later =
        let whole : drop at text ≡ 95 ∷ bs = left ∙ ap {B = List ℕ} (λ c. c ∷ bs) is in
        let lone : IsLone (95 ∷ bs) = subst IsLone (ap {B = List ℕ} (λ c. c ∷ bs) is) alone in
        let stands : StandsToken at (drop at text) Underscore 1 = subst (λ ys. StandsToken at ys Underscore 1) (sym whole) (lone-front (place_at text at) at bs lone) in
        subst (λ p. Lexes text at p) (onto-append (token_from at Underscore 1 ∷ []) (lone_tokens (at + 1) k) o)
        (token-step text at Underscore 1 (onto (lone_tokens (at + 1) k) o) stands later)

    by : (t : Bool) → t ≡ (b == 95) → (let n : ℕ = cond t (1 + prefix_len (λ c. c == 95) bs) 0 in suc k ≤ n) →
        (drop (at + 1) text ≡ bs → IsLone bs → k ≤ prefix_len (λ c. c == 95) bs → Lexes text (at + 1) (onto (lone_tokens (at + 1) k) o)) →
        Lexes text at (onto (lone_tokens at (suc k)) o)
    by false e within later = absurd (omega arith)
    by true e within later =
        let is : b ≡ 95 = eqb-true b 95 (sym e) in
        let lone : IsLone (95 ∷ bs) = subst IsLone (ap {B = List ℕ} (λ c. c ∷ bs) is) alone in
        let next : drop (at + 1) text ≡ bs = sym (one_on at text) ∙ ap {A = List ℕ} {B = List ℕ} (λ xs. drop 1 xs) left in
        first is (later next (lone-rest bs lone) (omega arith))
      where
        one_on : (n : ℕ) (xs : List ℕ) → drop 1 (drop n xs) ≡ drop (n + 1) xs
        one_on n xs = drop-drop 1 n xs

other_kinds : (m n : ℕ) → (let a : Option (TokenKind × ℕ) = Some (Underscore, m) in let b : Option (TokenKind × ℕ) = Some (Name, n) in a ≡ b) → ⊥
other_kinds m n e = false_true (sym (ap {A = Option (TokenKind × ℕ)} {B = Bool} is_name e))
  where
    is_name : Option (TokenKind × ℕ) → Bool
    is_name None = false
    is_name (Some (kind, n')) = of_kind kind
      where
        of_kind : TokenKind → Bool
        of_kind Name = true
        of_kind _ = false

lone-from : (at : ℕ) (xs : List ℕ) (n : ℕ) → StandsToken at xs Underscore n → IsLone xs
lone-from at [] n stands = refl
lone-from at (b ∷ bs) n (other, longest, short) = by (list_any is_letter_or_digit (take (word_len (b ∷ bs)) (b ∷ bs))) refl
  where
    first : b ≡ 95
    first = front n longest.spelled
      where
        front : (m : ℕ) → take m (b ∷ bs) ≡ 95 ∷ [] → b ≡ 95
        front zero e = absurd (let different : ⊥ = cc in different)
        front (suc m) e = cc

    by : (t : Bool) → t ≡ list_any is_letter_or_digit (take (word_len (b ∷ bs)) (b ∷ bs)) → list_any is_letter_or_digit (take (word_len (b ∷ bs)) (b ∷ bs)) ≡ false
    by false e = sym e
    by true e =
        let found = longest-only (b ∷ bs) Underscore n longest in
        let class : token_of (b ∷ bs) ≡ low_token (b ∷ bs) = low-class b bs first in
        let name : low_token (b ∷ bs) ≡ Some (Name, word_len (b ∷ bs)) = rw (← e) refl in
        absurd (other_kinds n (word_len (b ∷ bs)) (sym found ∙ class ∙ name))
      where
        low-class : (c : ℕ) (cs : List ℕ) → c ≡ 95 → token_of (c ∷ cs) ≡ low_token (c ∷ cs)
        low-class c cs is = rw is refl

-- what is taken where a token stands, before what follows
pub taken-step : (text : List ℕ) (at : ℕ) (kind : TokenKind) (n : ℕ) (o : Outcome) → StandsToken at (drop at text) kind n →
    Lexes text (at + taken_len kind n (drop at text)) o → Lexes text at (onto (taken_tokens at kind n (drop at text)) o)
taken-step text at Underscore n o stands rest =
    lone-run text (prefix_len (λ b. b == 95) (drop at text)) at (drop at text) o refl (lone-from at (drop at text) n stands) (omega arith) rest
taken-step text at Name n o stands rest = token-step text at Name n o stands rest
taken-step text at Number n o stands rest = token-step text at Number n o stands rest
taken-step text at Quoted n o stands rest = token-step text at Quoted n o stands rest
taken-step text at Text n o stands rest = token-step text at Text n o stands rest
taken-step text at Percent n o stands rest = token-step text at Percent n o stands rest
taken-step text at Dollar n o stands rest = token-step text at Dollar n o stands rest
taken-step text at Break n o stands rest = token-step text at Break n o stands rest
taken-step text at Arrow n o stands rest = token-step text at Arrow n o stands rest
taken-step text at BothArrow n o stands rest = token-step text at BothArrow n o stands rest
taken-step text at (Symbol b) n o stands rest = token-step text at (Symbol b) n o stands rest

-- something is taken
pub taken-some : (at : ℕ) (xs : List ℕ) (kind : TokenKind) (n : ℕ) → StandsToken at xs kind n → 0 < taken_len kind n xs
taken-some at xs Underscore n stands = low xs n stands.1.spelled
  where
    low : (ys : List ℕ) (m : ℕ) → take m ys ≡ 95 ∷ [] → 0 < prefix_len (λ b. b == 95) ys
    low ys zero e = absurd (let different : ⊥ = cc in different)
    low [] (suc m) e = absurd (let different : ⊥ = cc in different)
    low (y ∷ ys) (suc m) e = let first : y ≡ 95 = cc in rw first (omega arith)
taken-some at xs Name n stands = progress at xs Name n stands
taken-some at xs Number n stands = progress at xs Number n stands
taken-some at xs Quoted n stands = progress at xs Quoted n stands
taken-some at xs Text n stands = progress at xs Text n stands
taken-some at xs Percent n stands = progress at xs Percent n stands
taken-some at xs Dollar n stands = progress at xs Dollar n stands
taken-some at xs Break n stands = progress at xs Break n stands
taken-some at xs Arrow n stands = progress at xs Arrow n stands
taken-some at xs BothArrow n stands = progress at xs BothArrow n stands
taken-some at xs (Symbol b) n stands = progress at xs (Symbol b) n stands

pub lone-more : (at i : ℕ) → lone_tokens at (i + 1) ≡ lone_tokens at i ++ token_from (at + i) Underscore 1 ∷ []
lone-more at zero = rw (add-zero at) refl
lone-more at (suc i) =
    let more : suc i + 1 ≡ suc (i + 1) = omega arith in
    let place : (at + 1) + i ≡ at + suc i = omega arith in
    rw more (ap {B = List Token} (λ ts. token_from at Underscore 1 ∷ ts) (lone-more (at + 1) i ∙ rw place refl))

pub lone-pushed : (old now new : List Token) (at i : ℕ) → now ≡ old ++ lone_tokens at i → new ≡ now ++ token_from (at + i) Underscore 1 ∷ [] → new ≡ old ++ lone_tokens at (i + 1)
lone-pushed old now new at i before pushed =
    pushed ∙ ap {B = List Token} (λ ts. ts ++ token_from (at + i) Underscore 1 ∷ []) before ∙ append_assoc old (lone_tokens at i) (token_from (at + i) Underscore 1 ∷ []) ∙ ap {B = List Token} (λ ts. old ++ ts) (sym (lone-more at i))

-- ---- the loop over a text

-- what is found at an offset of a text stands there
pub stands : (text : List ℕ) (at : ℕ) (f : Front) → at < length text → f ≡ front_at text at → IsFront (place_at text at) at (drop at text) f
stands text at f within found = subst (IsFront (place_at text at) at (drop at text)) (sym found) (front-is (place_at text at) at (drop at text) some)
  where
    some : drop at text ≢ []
    some none =
        let size : length text - at ≡ 0 = sym (length-drop at text) ∙ ap {A = List ℕ} {B = ℕ} (λ xs. length xs) none in
        omega (arith, size)

pub blank-fits : (text : List ℕ) (at n : ℕ) → at < length text → blank_front n ≡ front_at text at → (0 < n) × (at + n ≤ length text)
blank-fits text at n within found =
    let is = stands text at (blank_front n) within found in
    (is.0, omega (arith, is.1, length-drop at text))

pub token-fits : (text : List ℕ) (at : ℕ) (kind : TokenKind) (n : ℕ) → at < length text → token_front kind n ≡ front_at text at →
    (at + n ≤ length text) × (0 < taken_len kind n (drop at text))
token-fits text at kind n within found =
    let is = stands text at (token_front kind n) within found in
    (let size = is.1.within in omega (arith, size, length-drop at text), taken-some at (drop at text) kind n is)

-- these tokens, and what follows at an offset, are what the text gives
abbrev pub Leads : List ℕ → ℕ → List Token → Type 0
Leads text at ts = (o : Outcome) → Lexes text at o → Lexes text 0 (onto ts o)

pub blank-leads : (text : List ℕ) (at n : ℕ) (ts : List Token) → Leads text at ts → at < length text → blank_front n ≡ front_at text at → Leads text (at + n) ts
blank-leads text at n ts leads within found o rest = leads o (blank n (stands text at (blank_front n) within found) rest)

pub token-leads : (text : List ℕ) (at : ℕ) (kind : TokenKind) (n len : ℕ) (ts new : List Token) → Leads text at ts → at < length text → token_front kind n ≡ front_at text at →
    len ≡ taken_len kind n (drop at text) → new ≡ ts ++ taken_tokens at kind n (drop at text) → Leads text (at + len) new
token-leads text at kind n len ts new leads within found size pushed o rest =
    let more = taken_tokens at kind n (drop at text) in
    let is = stands text at (token_front kind n) within found in
    let behind : Lexes text (at + taken_len kind n (drop at text)) o = subst (λ m. Lexes text (at + m) o) size rest in
    let whole = leads (onto more o) (taken-step text at kind n o is behind) in
    subst (λ us. Lexes text 0 (onto us o)) (sym pushed) (subst (λ p. Lexes text 0 p) (onto-append ts more o) whole)

is_outcome : (text : List ℕ) (o : Outcome) → Lexes text 0 o → IsOutcome text o
is_outcome text o lexes = record { lexes = lexes; only = λ other also. one_outcome text other o also lexes }

pub fault-outcome : (text : List ℕ) (at : ℕ) (fault : LexFault) (ts : List Token) → Leads text at ts → at < length text → fault_front fault ≡ front_at text at → IsOutcome text (Err fault)
fault-outcome text at fault ts leads within found =
    is_outcome text (Err fault) (leads (Err fault) (fault_here fault (stands text at (fault_front fault) within found)))

pub tokens-outcome : (text : List ℕ) (at : ℕ) (ts : List Token) → Leads text at ts → length text ≤ at → IsOutcome text (Ok ts)
tokens-outcome text at ts leads over =
    let whole : Lexes text 0 (Ok (ts ++ [])) = leads (Ok []) (ended (drop_all at text over)) in
    is_outcome text (Ok ts) (subst (λ us. Lexes text 0 (Ok us)) (append-nil ts) whole)
