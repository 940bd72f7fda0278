-- Where a declaration is stuck is its fault, with its cause.
use Rattle.std.proofs.Common.{◌≡◌, ◌≤◌, ◌<◌, ◌⊎◌, inl, inr, ℕ, ◌-◌, List, [], ◌∷◌, ◌++◌, length, take, length-append, Bool, true, false, not, ◌&&◌, ◌||◌, nat_le, Some, refl, sym, ap, ◌∙◌, append_assoc, append-nil, codes, arith}
use Rattle.std.proofs.lemmas.Bool.Decides.{nat_tests}
use Rattle.std.proofs.lemmas.List.{take-map, length-map}
use Rattle.std.specs.Str.Parse.{digits_value}
use Rattle.kasa_num.specs.declared.Place.{Place}
use Rattle.kasa_syntax.specs.Place.{place_at}
use Rattle.kasa_syntax.specs.declared.tokens.Token.{Token}
use Rattle.kasa_syntax.specs.declared.tokens.TokenKind.{TokenKind}
use Rattle.kasa_syntax.specs.declared.tokens.TokenKind.TheVariants.{Number, Percent, Symbol}
use Rattle.kasa_syntax.specs.declared.decls.Decl.{Decl}
use Rattle.kasa_parser.specs.declared.ParseFault.{ParseFault}
use Rattle.kasa_parser.specs.Words.{Word, word_of, words_of, same_kind, is_of, only, but, starts, begins_with, is_digits, is_digits_at, are_digits}
use Rattle.kasa_parser.specs.Rules.{Outcome, got, stuck}
use Rattle.kasa_parser.specs.Grammar.{is_label}
use Rattle.kasa_parser.specs.Decls.{Said, is_keyword, is_intervention, declaration, read_declaration, IsDeclaration, span_of, said_of}
use Rattle.kasa_parser.specs.DeclFaults.{CanGoOn, IsCut, an_agent, a_label, IsItemPlace, IsTokens, IsIntervention, IsLongLabel, IsCause, IsFault}
use Rattle.kasa_parser.specs.Steps.{AreWithin, IsLeft, first, can_go_on, before, is_item_place, is_long, fault_at, fault_of}
use Rattle.kasa_parser.proofs.KindSets.{false_true, same_kind-same, both}
use Rattle.kasa_parser.proofs.DeclLaws.{declaration-law}
use Rattle.kasa_parser.proofs.Whole.{IsStuckWhole, WholeReads, whole-reads, ends, refused}

whole : (ws : List Word) → WholeReads declaration ws (read_declaration ws)
whole ws = whole-reads declaration true (but []) (but []) declaration-law ws

-- ---- words behind which a declaration goes on

begun : (ws left : List Word) (i : IsStuckWhole declaration ws left) → CanGoOn i.used
begun ws left i = (i.can.0, i.can.1 (span_of (i.used ++ i.can.0)), (i.can.1, i.can.2, refl))

cut_there : (ws left : List Word) (i : IsStuckWhole declaration ws left) → IsCut i.used left
cut_there ws [] i = λ d is. ends declaration true (but []) (but []) declaration-law ws i is.0 is.1
cut_there ws (w ∷ others) i = λ goes. refused declaration true (but []) (but []) declaration-law ws others w i goes.0 goes.2.0 goes.2.1

-- what can go on can go on with fewer words
fewer : (u v : List Word) → CanGoOn (u ++ v) → CanGoOn u
fewer u v (more, d, is) = (v ++ more, d, rw (← append_assoc u v more) is)

-- reading tells whether words can go on
goes-on : (ws : List Word) → ((can_go_on ws ≡ true) × CanGoOn ws) ⊎ ((can_go_on ws ≡ false) × (¬ CanGoOn ws))
goes-on ws = by (read_declaration ws) refl (whole ws)
  where
    by : (o : Outcome Said) → read_declaration ws ≡ o → WholeReads declaration ws o → ((can_go_on ws ≡ true) × CanGoOn ws) ⊎ ((can_go_on ws ≡ false) × (¬ CanGoOn ws))
    by (got said left) e i = inl (rw e refl, ([], said (span_of ws), (said, rw (append-nil ws) i.1, rw (append-nil ws) refl)))
    by (stuck []) e i = inl (rw e refl, rw (i.cut, append-nil i.used) (begun ws [] i))
    by (stuck (w ∷ left)) e i = inr (rw e refl, λ goes. cut_there ws (w ∷ left) i (fewer (i.used ++ w ∷ []) left (rw (append_assoc i.used (w ∷ []) left, ← i.cut) goes)))

can-go : (ws : List Word) → can_go_on ws ≡ true → CanGoOn ws
can-go ws e = by (goes-on ws)
  where
    by : ((can_go_on ws ≡ true) × CanGoOn ws) ⊎ ((can_go_on ws ≡ false) × (¬ CanGoOn ws)) → CanGoOn ws
    by (inl i) = i.1
    by (inr i) = false_true (sym i.0 ∙ e)

goes : (ws : List Word) → CanGoOn ws → can_go_on ws ≡ true
goes ws g = by (goes-on ws)
  where
    by : ((can_go_on ws ≡ true) × CanGoOn ws) ⊎ ((can_go_on ws ≡ false) × (¬ CanGoOn ws)) → can_go_on ws ≡ true
    by (inl i) = i.0
    by (inr i) = absurd (i.1 g)

-- ---- the tests of causes

pub digits-kind : (k : TokenKind) (bytes : List ℕ) → is_digits_at k bytes ≡ true → k ≡ Number
digits-kind Number bytes e = refl
digits-kind k bytes e = false_true e

bar-is : (k : TokenKind) → is_of (Symbol 124 ∷ []) k ≡ true → k ≡ Symbol 124
bar-is k e = by (same_kind (Symbol 124) k) refl e
  where
    by : (c : Bool) → same_kind (Symbol 124) k ≡ c → (c || false) ≡ true → k ≡ Symbol 124
    by true i e = sym (same_kind-same (Symbol 124) k i)
    by false i e = false_true e

no-not : (a : Bool) → not a ≡ true → a ≡ false
no-not true e = false_true e
no-not false e = refl

both-are : (a b : Bool) → a ≡ true → b ≡ true → (a && b) ≡ true
both-are a b i j = rw (i, j) refl

item_place : (used : List Word) → is_item_place used ≡ true → IsItemPlace used
item_place used e =
    let parts = both (not (starts (only (Percent ∷ [])) used)) (can_go_on (used ++ an_agent)) e in
    (no-not (starts (only (Percent ∷ [])) used) parts.0, can-go (used ++ an_agent) parts.1)

is_place : (used : List Word) → IsItemPlace used → is_item_place used ≡ true
is_place used (plain, can) = both-are (not (starts (only (Percent ∷ [])) used)) (can_go_on (used ++ an_agent)) (rw plain refl) (goes (used ++ an_agent) can)

-- digits that are no label are too long
digits-are : (k : TokenKind) (bytes : List ℕ) → is_digits_at k bytes ≡ true → are_digits bytes ≡ true
digits-are Number bytes e = e
digits-are k bytes e = false_true e

long : (w : Word) → is_long w ≡ true → (is_digits w ≡ true) × (65535 < digits_value 10 w.bytes)
long w e =
    let parts = both (is_digits w) (not (is_label w.bytes)) e in
    let digits = digits-are w.kind w.bytes parts.0 in
    let other : not (true && nat_le (digits_value 10 w.bytes) 65535) ≡ true = rw digits at parts.1 in
    (parts.0, grind (arith, nat_tests))

is_too_long : (w : Word) → is_digits w ≡ true → 65535 < digits_value 10 w.bytes → is_long w ≡ true
is_too_long w d large =
    let digits = digits-are w.kind w.bytes d in
    let above : nat_le (digits_value 10 w.bytes) 65535 ≡ false = grind (arith, nat_tests) in
    rw (d, digits, above) refl

-- ---- causes

module _ (used others : List Word) (w : Word) (text : List ℕ) (ending : ℕ) where
  no_tokens : is_keyword (codes "%token") w ≡ false → (is_of (Symbol 124 ∷ []) w.kind && is_item_place used) ≡ false → ¬ IsTokens used w
  no_tokens t b (inl token) = false_true (sym t ∙ token)
  no_tokens t b (inr (bar, place)) = false_true (sym b ∙ rw (bar, is_place used place) refl)

  no_mod : (begins_with (is_keyword (codes "%mod")) used && is_intervention w) ≡ false → ¬ IsIntervention used w
  no_mod m (first, word) = false_true (sym m ∙ rw (first, word) refl)

  no_label : (is_long w && can_go_on (used ++ a_label ∷ [])) ≡ false → ¬ IsLongLabel used w
  no_label l (digits, large, can) = false_true (sym l ∙ both-are (is_long w) (can_go_on (used ++ a_label ∷ [])) (is_too_long w digits large) (goes (used ++ a_label ∷ []) can))

  cause : (t m b l : Bool) → is_keyword (codes "%token") w ≡ t → (begins_with (is_keyword (codes "%mod")) used && is_intervention w) ≡ m → (is_of (Symbol 124 ∷ []) w.kind && is_item_place used) ≡ b →
      (is_long w && can_go_on (used ++ a_label ∷ [])) ≡ l → IsCause text ending used (w ∷ others) (fault_at used w (place_at text w.span.start))
  cause true m b l i j k n = rw i (refl, inl i)
  cause false true b l i j k n = rw (i, j) (refl, both (begins_with (is_keyword (codes "%mod")) used) (is_intervention w) j)
  cause false false true l i j k n =
      let parts = both (is_of (Symbol 124 ∷ []) w.kind) (is_item_place used) k in
      rw (i, j, k) (refl, inr (bar-is w.kind parts.0, item_place used parts.1))
  cause false false false true i j k n =
      let parts = both (is_long w) (can_go_on (used ++ a_label ∷ [])) n in
      let digits = long w parts.0 in
      rw (i, j, k, n) (refl, (digits.0, digits.1, can-go (used ++ a_label ∷ []) parts.1))
  cause false false false false i j k n = rw (i, j, k, n) (refl, no_tokens i k, no_mod j, no_label n)

  the_cause : IsCause text ending used (w ∷ others) (fault_at used w (place_at text w.span.start))
  the_cause = cause _ _ _ _ refl refl refl refl

-- ---- the fault

take-before : (u v : List Word) → take (length (u ++ v) - length v) (u ++ v) ≡ u
take-before u v =
    let n : length (u ++ v) - length v ≡ length u = omega (arith, length-append u v) in
    rw n (taken u)
  where
    taken : (u : List Word) → take (length u) (u ++ v) ≡ u
    taken [] = refl
    taken (x ∷ u) = rw (taken u) refl

causes : (text : List ℕ) (ending : ℕ) (ws left : List Word) (i : IsStuckWhole declaration ws left) → IsCause text ending i.used left (fault_of text ending ws left)
causes text ending ws [] i = refl
causes text ending ws (w ∷ others) i =
    let used : before ws (w ∷ others) ≡ i.used = rw i.cut (take-before i.used (w ∷ others)) in
    rw used (the_cause i.used others w text ending)

stuck-fault : (text : List ℕ) (ending : ℕ) (ws left : List Word) → IsStuckWhole declaration ws left → IsFault text ws ending (fault_of text ending ws left)
stuck-fault text ending ws left i = record { before = i.used; others = left; cut = i.cut; goes_on = begun ws left i; stuck = cut_there ws left i; cause = causes text ending ws left i }

-- ---- what reading gives

pub tree : (ws left : List Word) (d : List Decl) → said_of (span_of ws) (read_declaration ws) ≡ got d left → IsDeclaration ws d
tree ws left d e = by (read_declaration ws) (whole ws) e
  where
    by : (o : Outcome Said) → WholeReads declaration ws o → said_of (span_of ws) o ≡ got d left → IsDeclaration ws d
    by (got said last) i e = (said, i.1, let same : said (span_of ws) ≡ d = cc in sym same)
    by (stuck last) i e = absurd (let different : ⊥ = cc in different)

is_stuck : (ws left : List Word) → said_of (span_of ws) (read_declaration ws) ≡ stuck left → IsStuckWhole declaration ws left
is_stuck ws left e = by (read_declaration ws) (whole ws) e
  where
    by : (o : Outcome Said) → WholeReads declaration ws o → said_of (span_of ws) o ≡ stuck left → IsStuckWhole declaration ws left
    by (got said last) i e = absurd (let different : ⊥ = cc in different)
    by (stuck last) i e = let there : last ≡ left = cc in rw (← there) i

pub fault : (text : List ℕ) (ending : ℕ) (ws left : List Word) → said_of (span_of ws) (read_declaration ws) ≡ stuck left → IsFault text ws ending (fault_of text ending ws left)
fault text ending ws left e = stuck-fault text ending ws left (is_stuck ws left e)

-- what is left are the last words
pub are_left : (ws left : List Word) → said_of (span_of ws) (read_declaration ws) ≡ stuck left → IsLeft ws left
are_left ws left e = let i = is_stuck ws left e in (i.used, i.cut)

-- the first word begins within a text of so many bytes
abbrev IsFirstWithin : ℕ → List Word → Type 0
IsFirstWithin size [] = Unit {0}
IsFirstWithin size (w ∷ ws) = w.span.start ≤ size

first-within : (text : List ℕ) (size : ℕ) (tokens : List Token) (used left : List Word) → AreWithin size tokens → words_of text tokens ≡ used ++ left → IsFirstWithin size left
first-within text size tokens used [] h e = tt
first-within text size [] [] (w ∷ ws) h e = absurd (let different : ⊥ = cc in different)
first-within text size [] (u ∷ used) (w ∷ ws) h e = absurd (let different : ⊥ = cc in different)
first-within text size (t ∷ tokens) [] (w ∷ ws) h e =
    let start = ap first_start e in
    rw (← start) (omega (arith, h.0.0, h.0.1))
  where
    first_start : List Word → ℕ
    first_start [] = 0
    first_start (v ∷ vs) = v.span.start
first-within text size (t ∷ tokens) (u ∷ used) (w ∷ ws) h e = first-within text size tokens used (w ∷ ws) h.1 (ap rest e)
  where
    rest : List Word → List Word
    rest [] = []
    rest (v ∷ vs) = vs

-- the first of the words that are left begins within the text
pub start-within : (text : List ℕ) (size : ℕ) (tokens : List Token) (left : List Word) (w : Word) → AreWithin size tokens → IsLeft (words_of text tokens) left → first left ≡ Some w → w.span.start ≤ size
start-within text size tokens left w h (used, cut) e = by left e (first-within text size tokens used left h cut)
  where
    by : (left : List Word) → first left ≡ Some w → IsFirstWithin size left → w.span.start ≤ size
    by [] e within = absurd (let different : ⊥ = cc in different)
    by (v ∷ vs) e within = let same : v ≡ w = cc in rw (← same) within

-- what the code computes of the tokens is the fault of their words
pub fault_is : (text : List ℕ) (ending : ℕ) (tokens : List Token) (left : List Word) (w : Word) (place : Place) (fault : ParseFault) → first left ≡ Some w → place ≡ place_at text w.span.start →
    fault ≡ fault_at (words_of text (take (length tokens - length left) tokens)) w place → fault ≡ fault_of text ending (words_of text tokens) left
fault_is text ending tokens [] w place is e p f = absurd (let different : ⊥ = cc in different)
fault_is text ending tokens (v ∷ vs) w place is e p f =
    let same : v ≡ w = cc in
    let used : take (length (words_of text tokens) - length (v ∷ vs)) (words_of text tokens) ≡ words_of text (take (length tokens - length (v ∷ vs)) tokens) =
    rw (length-map tokens (word_of text)) (take-map (word_of text) (length tokens - length (v ∷ vs)) tokens) in
    rw (used, same, ← p) f
