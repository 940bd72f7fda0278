-- What is found at the front of what is left of a text is what the definition of tokens has there.
use Rattle.std.proofs.Common.{◌≡◌, ◌≢◌, ◌<◌, ◌≤◌, ◌⊎◌, ℕ, List, [], ◌∷◌, Bool, true, false, ◌==◌, ◌||◌, if◌then◌else◌, Option, Some, None, take, drop, length, refl, sym, ap, subst, ◌∙◌, inl, inr, arith}
use Rattle.std.specs.Prelude.{nat_lt}
use Rattle.std.proofs.lemmas.Bool.{eqb-true}
use Rattle.std.proofs.lemmas.Bool.Decides.{nat_tests}
use Rattle.std.proofs.lemmas.List.{take-append-drop, length-take-le}
use Rattle.kasa_num.specs.declared.Place.{Place}
use Rattle.kasa_syntax.specs.declared.tokens.TokenKind.{TokenKind}
use Rattle.kasa_syntax.specs.declared.tokens.TokenKind.TheVariants.{Name, Number, Quoted, Text, Percent, Dollar, Underscore, Break, Arrow, BothArrow, Symbol}
use Rattle.kasa_lexer.specs.declared.LexFault.{LexFault}
use Rattle.kasa_lexer.specs.declared.LexFault.TheVariants.{NoMemory, BadByte, UnclosedComment, UnclosedQuote, LongName}
use Rattle.kasa_lexer.specs.declared.front.Front.{Front}
use Rattle.kasa_lexer.specs.declared.front.Front.TheVariants.{Blank as blank_front, Token as token_front, Fault as fault_front}
use Rattle.kasa_lexer.specs.Front.{blank_len, opens_comment, token_of, is_too_long, begins_with_quote, token_or_fault, front_of}
use Rattle.kasa_lexer.specs.Tokens.{Spells, IsLongestToken, StandsBlank, StandsOther, StandsToken, StandsFault, IsTooLong, HasToken, BeginsWithQuote}
use Rattle.kasa_lexer.proofs.RunLemmas.{false_true}
use Rattle.kasa_lexer.proofs.BlankLemmas.{blank-only, blank-stands, both-true}
use Rattle.kasa_lexer.proofs.TokenLemmas.{token-most, token-is, IsToken}

-- ---- the longest token

pub found-token : (text : List ℕ) (kind : TokenKind) (n : ℕ) → token_of text ≡ Some (kind, n) → (0 < n) × (n ≤ length text) × Spells (take n text) kind
found-token text kind n found = subst (IsToken text) found (token-is text)

some_size : (k l : TokenKind) (m n : ℕ) → (let a : Option (TokenKind × ℕ) = Some (k, m) in let b : Option (TokenKind × ℕ) = Some (l, n) in a ≡ b) → m ≡ n
some_size k l m n e = ap {A = Option (TokenKind × ℕ)} {B = ℕ} size e
  where
    size : Option (TokenKind × ℕ) → ℕ
    size None = 0
    size (Some (k', n')) = n'

same_some : (k l : TokenKind) (m n : ℕ) → k ≡ l → m ≡ n → (let a : Option (TokenKind × ℕ) = Some (l, n) in let b : Option (TokenKind × ℕ) = Some (k, m) in a ≡ b)
same_some k l m n kinds sizes = rw (kinds, sizes) refl

pub longest-is : (text : List ℕ) (kind : TokenKind) (n : ℕ) → token_of text ≡ Some (kind, n) → IsLongestToken text kind n
longest-is text kind n found =
    let is = found-token text kind n found in
    record {
      within = is.1;
      spelled = is.2;
      longest = λ piece rest other split spelled.
          let (k, m, also, most, same) = token-most text piece rest other split spelled in
          let size = some_size kind k n m (sym found ∙ also) in
          omega (arith, size, most);
    }

pub longest-only : (text : List ℕ) (kind : TokenKind) (n : ℕ) → IsLongestToken text kind n → token_of text ≡ Some (kind, n)
longest-only text kind n token =
    let (k, m, found, most, same) = token-most text (take n text) (drop n text) kind (sym (take-append-drop n text)) token.spelled in
    let is = found-token text k m found in
    let least = token.longest (take m text) (drop m text) k (sym (take-append-drop m text)) is.2 in
    let n_size = length-take-le n text token.within in
    let m_size = length-take-le m text is.1 in
    let size : length (take n text) ≡ m = omega (arith, most, least, n_size, m_size) in
    let kinds = same size in
    let sizes : n ≡ m = sym n_size ∙ size in
    found ∙ same_some kind k n m kinds sizes

pub no_token : (text : List ℕ) → token_of text ≡ None → ¬ HasToken text
no_token text none (piece, rest, kind, split, spelled) =
    let (k, m, found, most, same) = token-most text piece rest kind split spelled in
    absurd (let different : ⊥ = cc in different)

pub no_token-only : (text : List ℕ) → ¬ HasToken text → token_of text ≡ None
no_token-only text none = by (token_of text) refl
  where
    by : (o : Option (TokenKind × ℕ)) → token_of text ≡ o → o ≡ None
    by None e = refl
    by (Some (kind, n)) e =
        let is = found-token text kind n e in
        absurd (none (take n text, drop n text, kind, sym (take-append-drop n text), is.2))

-- ---- tests and what they tell

pub too_long : (kind : TokenKind) (n : ℕ) → is_too_long kind n ≡ true → IsTooLong kind n
too_long Name n h = grind (arith, nat_tests)
too_long Number n h = grind (arith, nat_tests)
too_long Quoted n h = grind (arith, nat_tests)
too_long Text n h = false_true (sym h)
too_long Percent n h = false_true (sym h)
too_long Dollar n h = false_true (sym h)
too_long Underscore n h = false_true (sym h)
too_long Break n h = false_true (sym h)
too_long Arrow n h = false_true (sym h)
too_long BothArrow n h = false_true (sym h)
too_long (Symbol b) n h = false_true (sym h)

pub too_long-only : (kind : TokenKind) (n : ℕ) → IsTooLong kind n → is_too_long kind n ≡ true
too_long-only Name n h = grind (arith, nat_tests)
too_long-only Number n h = grind (arith, nat_tests)
too_long-only Quoted n h = grind (arith, nat_tests)
too_long-only Text n h = absurd h
too_long-only Percent n h = absurd h
too_long-only Dollar n h = absurd h
too_long-only Underscore n h = absurd h
too_long-only Break n h = absurd h
too_long-only Arrow n h = absurd h
too_long-only BothArrow n h = absurd h
too_long-only (Symbol b) n h = absurd h

not_true : (t : Bool) → (t ≡ true → ⊥) → t ≡ false
not_true true h = absurd (h refl)
not_true false h = refl

false_not : {A : Type 0} (t : Bool) → t ≡ false → t ≡ true → A
false_not t f e = false_true (sym e ∙ f)

comment-opens : (text : List ℕ) → opens_comment text ≡ true → (rest : List ℕ) × (text ≡ 47 ∷ 42 ∷ rest)
comment-opens [] h = false_true (sym h)
comment-opens (b ∷ []) h = let parts = both-true (b == 47) false (sym h) in false_true (sym parts.1)
comment-opens (b ∷ c ∷ rest) h =
    let parts = both-true (b == 47) (c == 42) (sym h) in
    let first : b ≡ 47 = eqb-true b 47 parts.0 in
    let second : c ≡ 42 = eqb-true c 42 parts.1 in
    (rest, rw (first, second) refl)

quote-is : (text : List ℕ) → begins_with_quote text ≡ true → BeginsWithQuote text
quote-is [] h = false_true (sym h)
quote-is (b ∷ rest) h = by (b == 39) refl (b == 34) refl h
  where
    by : (t : Bool) → t ≡ (b == 39) → (u : Bool) → u ≡ (b == 34) → (t || u) ≡ true → (b ≡ 39) ⊎ (b ≡ 34)
    by true e u f h = inl (eqb-true b 39 (sym e))
    by false e true f h = inr (eqb-true b 34 (sym f))
    by false e false f h = false_true (sym h)

quote-only : (text : List ℕ) → BeginsWithQuote text → begins_with_quote text ≡ true
quote-only [] h = absurd h
quote-only (b ∷ rest) (inl is) = rw is refl
quote-only (b ∷ rest) (inr is) = rw is refl

-- ---- what is found stands there

abbrev pub IsFront : Place → ℕ → List ℕ → Front → Type 0
IsFront place at text (blank_front n) = StandsBlank at text n
IsFront place at text (token_front kind n) = StandsToken at text kind n
IsFront place at text (fault_front fault) = StandsFault place at text fault

token_or_fault-is : (place : Place) (at : ℕ) (text : List ℕ) → text ≢ [] → StandsOther at text → IsFront place at text (token_or_fault place text (token_of text))
token_or_fault-is place at text some other = by (token_of text) refl
  where
    no_quote : ¬ BeginsWithQuote text → begins_with_quote text ≡ false
    no_quote h = not_true (begins_with_quote text) (λ e. h (quote-is text e))

    none : token_of text ≡ None → (t : Bool) → begins_with_quote text ≡ t → IsFront place at text (if t then fault_front (UnclosedQuote place) else fault_front (BadByte place))
    none e true q = (refl, other, quote-is text q, no_token text e)
    none e false q = (refl, other, some, λ h. false_not (begins_with_quote text) q (quote-only text h), no_token text e)

    one : (kind : TokenKind) (n : ℕ) → token_of text ≡ Some (kind, n) → (t : Bool) → is_too_long kind n ≡ t →
        IsFront place at text (if t then fault_front (LongName place) else token_front kind n)
    one kind n e true long = (refl, other, (kind, n, longest-is text kind n e, too_long kind n long))
    one kind n e false short = (other, longest-is text kind n e, λ h. false_not (is_too_long kind n) short (too_long-only kind n h))

    by : (o : Option (TokenKind × ℕ)) → token_of text ≡ o → IsFront place at text (token_or_fault place text o)
    by None e = none e (begins_with_quote text) refl
    by (Some (kind, n)) e = one kind n e (is_too_long kind n) refl

pub front-is : (place : Place) (at : ℕ) (text : List ℕ) → text ≢ [] → IsFront place at text (front_of place at text)
front-is place at text some = by (nat_lt 0 (blank_len at text)) refl (opens_comment text) refl
  where
    no_blank : nat_lt 0 (blank_len at text) ≡ false → (n : ℕ) → ¬ StandsBlank at text n
    no_blank e n stands =
        let size = blank-only at text n stands in
        let more : 0 < n = stands.0 in
        let least : nat_lt 0 (blank_len at text) ≡ true = grind (arith, nat_tests) in
        false_not (nat_lt 0 (blank_len at text)) e least

    by : (t : Bool) → nat_lt 0 (blank_len at text) ≡ t → (u : Bool) → opens_comment text ≡ u →
        IsFront place at text (if t then blank_front (blank_len at text) else (if u then fault_front (UnclosedComment place) else token_or_fault place text (token_of text)))
    by true e u f = blank-stands at text (grind (arith, nat_tests))
    by false e true f = (refl, no_blank e, comment-opens text f)
    by false e false f =
        token_or_fault-is place at text some (record {
          not_blank = no_blank e;
          not_comment = λ rest is. false_not (opens_comment text) f (ap opens_comment is);
        })

-- ---- what stands there is found

blank-front : (place : Place) (at : ℕ) (text : List ℕ) (n : ℕ) → StandsBlank at text n → front_of place at text ≡ blank_front n
blank-front place at text n stands =
    let size = blank-only at text n stands in
    let more : 0 < n = stands.0 in
    let some : nat_lt 0 (blank_len at text) ≡ true = grind (arith, nat_tests) in
    rw some (ap blank_front size)

no_blank-len : (at : ℕ) (text : List ℕ) → ((n : ℕ) → ¬ StandsBlank at text n) → nat_lt 0 (blank_len at text) ≡ false
no_blank-len at text none =
    not_true (nat_lt 0 (blank_len at text)) (λ e. none (blank_len at text) (blank-stands at text (grind (arith, nat_tests))))

other-front : (place : Place) (at : ℕ) (text : List ℕ) → StandsOther at text → front_of place at text ≡ token_or_fault place text (token_of text)
other-front place at text other =
    let no_blank = no_blank-len at text other.not_blank in
    let no_comment : opens_comment text ≡ false =
    not_true (opens_comment text) (λ e. let opens = comment-opens text e in other.not_comment opens.0 opens.1) in
    rw (no_blank, no_comment) refl

token-front : (place : Place) (at : ℕ) (text : List ℕ) (kind : TokenKind) (n : ℕ) → StandsToken at text kind n → front_of place at text ≡ token_front kind n
token-front place at text kind n (other, token, short) =
    let found = longest-only text kind n token in
    let fits : is_too_long kind n ≡ false = not_true (is_too_long kind n) (λ e. short (too_long kind n e)) in
    other-front place at text other ∙ ap (token_or_fault place text) found ∙ rw fits refl

fault-front : (place : Place) (at : ℕ) (text : List ℕ) (fault : LexFault) → StandsFault place at text fault → front_of place at text ≡ fault_front fault
fault-front place at text NoMemory h = absurd h
fault-front place at text (UnclosedComment p) (is, none, (rest, opens)) =
    let no_blank = no_blank-len at text none in
    let comment : opens_comment text ≡ true = ap opens_comment opens in
    rw (no_blank, comment) (ap (λ q. fault_front (UnclosedComment q)) (sym is))
fault-front place at text (UnclosedQuote p) (is, other, quote, none) =
    let quoted = quote-only text quote in
    other-front place at text other ∙ ap (token_or_fault place text) (no_token-only text none) ∙ rw quoted (ap (λ q. fault_front (UnclosedQuote q)) (sym is))
fault-front place at text (LongName p) (is, other, (kind, n, token, long)) =
    let found = longest-only text kind n token in
    let exceeds = too_long-only kind n long in
    other-front place at text other ∙ ap (token_or_fault place text) found ∙ rw exceeds (ap (λ q. fault_front (LongName q)) (sym is))
fault-front place at text (BadByte p) (is, other, some, no_quote, none) =
    let plain : begins_with_quote text ≡ false = not_true (begins_with_quote text) (λ e. no_quote (quote-is text e)) in
    other-front place at text other ∙ ap (token_or_fault place text) (no_token-only text none) ∙ rw plain (ap (λ q. fault_front (BadByte q)) (sym is))

pub front-only : (place : Place) (at : ℕ) (text : List ℕ) (f : Front) → IsFront place at text f → front_of place at text ≡ f
front-only place at text (blank_front n) is = blank-front place at text n is
front-only place at text (token_front kind n) is = token-front place at text kind n is
front-only place at text (fault_front fault) is = fault-front place at text fault is
