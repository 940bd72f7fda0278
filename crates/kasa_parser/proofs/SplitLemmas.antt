-- Where declarations end, token by token.
use Rattle.std.proofs.lemmas.List.{drop_all}
use Rattle.std.proofs.Math.Seq.{drop-cons}
use Rattle.std.proofs.Common.{if◌then◌else◌, zero, suc, add-one, drop, ◌≡◌, ℕ, ◌+◌, ◌-◌, ◌<◌, ◌≤◌, List, [], ◌∷◌, ◌++◌, Bool, true, false, not, length, get_or, Option, Some, None, refl, ap, arith}
use Rattle.kasa_syntax.specs.declared.tokens.Token.{Token}
use Rattle.kasa_parser.specs.Words.{Word, word_of, words_of}
use Rattle.kasa_parser.specs.Declarations.{Declaration, is_break, goes_on, last_kind, next_kind, ends_at, ended, declarations_from}
use Rattle.kasa_syntax.specs.declared.tokens.TokenKind.TheVariants.{Name}
use Rattle.kasa_parser.specs.Steps.{is_none}
use Rattle.kasa_parser.specs.Steps.{may_end, AreWithin}
use Rattle.kasa_parser.specs.Split.{broken_from}

last-is : (text : List ℕ) (t : Token) (ts : List Token) (other : Token) → last_kind (words_of text (t ∷ ts)) ≡ Some (get_or (t ∷ ts) (length ts) other).kind
last-is text t [] other = refl
last-is text t (x ∷ xs) other = last-is text x xs other

pub may_end_last : (text : List ℕ) (ts : List Token) (other : Token) → 1 ≤ length ts → not (goes_on (get_or ts (length ts - 1) other).kind) ≡ may_end (last_kind (words_of text ts))
may_end_last text [] other some = absurd (omega arith)
may_end_last text (t ∷ ts) other some =
    let less : length (t ∷ ts) - 1 ≡ length ts = omega arith in
    rw (less, last-is text t ts other) refl

-- ---- breaks

either-way : (b : Bool) (ds : List Declaration) → (if b then ds else ds) ≡ ds
either-way true ds = refl
either-way false ds = refl

break-again : (size depth : ℕ) (read : List Word) (break_at : ℕ) (w : Word) (ws : List Word) (b : Bool) → is_break w.kind ≡ true → ends_at depth (last_kind read) (next_kind ws) ≡ b
    → broken_from size depth read (Some break_at) (w ∷ ws) ≡ broken_from size depth read (Some break_at) ws
break-again size depth read break_at w ws true k e = rw (k, e) (ap (λ more. ended read break_at ++ more) (either-way (ends_at 0 None (next_kind ws)) (declarations_from size 0 [] ws)))
break-again size depth read break_at w ws false k e = rw (k, e) refl

-- the first break behind the words that have been read is the one that counts
abbrev pub or_break : Option ℕ → ℕ → Option ℕ
or_break None break_at = Some break_at
or_break (Some first_break) break_at = Some first_break

pub break_passed : (size depth : ℕ) (read : List Word) (broken : Option ℕ) (w : Word) (ws : List Word) → is_break w.kind ≡ true
    → broken_from size depth read broken (w ∷ ws) ≡ broken_from size depth read (or_break broken w.span.start) ws
break_passed size depth read None w ws k = rw k refl
break_passed size depth read (Some break_at) w ws k = break-again size depth read break_at w ws (ends_at depth (last_kind read) (next_kind ws)) k refl

-- ---- other words

pub break_kept : (size depth : ℕ) (read : List Word) (broken : Option ℕ) (w : Word) (ws : List Word) → is_none broken ≡ false → is_break w.kind ≡ true
    → broken_from size depth read broken (w ∷ ws) ≡ broken_from size depth read broken ws
break_kept size depth read None w ws some k = absurd (cc)
break_kept size depth read (Some break_at) w ws some k = break_passed size depth read (Some break_at) w ws k

-- ---- tokens

abbrev pub no_token : Token
no_token = record { kind = Name; start = 0; end = 0 }

pub next_word : (text : List ℕ) (ts : List Token) (i : ℕ) → i < length ts → words_of text (drop i ts) ≡ word_of text (get_or ts i no_token) ∷ words_of text (drop (i + 1) ts)
next_word text ts i less = rw (add-one, drop-cons ts i no_token) refl

pub no_word : (text : List ℕ) (ts : List Token) (i : ℕ) → length ts ≤ i → words_of text (drop i ts) ≡ []
no_word text ts i most = rw (drop_all i ts most) refl

pub token_within : (size : ℕ) (ts : List Token) (i : ℕ) → AreWithin size ts → i < length ts → ((get_or ts i no_token).start ≤ (get_or ts i no_token).end) × ((get_or ts i no_token).end ≤ size)
token_within size [] i within less = absurd (omega arith)
token_within size (t ∷ ts) zero within less = within.0
token_within size (t ∷ ts) (suc i) within less = token_within size ts i within.1 (omega arith)

pub within_push : (size : ℕ) (ts : List Token) (t : Token) → AreWithin size ts → (t.start ≤ t.end) × (t.end ≤ size) → AreWithin size (ts ++ t ∷ [])
within_push size [] t within last = (last, tt)
within_push size (x ∷ xs) t within last = (within.0, within_push size xs t within.1 last)
