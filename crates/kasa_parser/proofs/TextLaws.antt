-- What is read of a text is what its tokens give, and nothing else.
use Rattle.std.proofs.Common.{◌≡◌, ◌⊎◌, ℕ, List, [], ◌∷◌, ◌++◌, length, length-drop, Bool, true, false, Result, Ok, Err, refl, sym, ap, subst, ◌∙◌, inl, inr, append_assoc, append-nil, codes, arith}
use Rattle.kasa_syntax.specs.declared.tokens.Token.{Token}
use Rattle.kasa_syntax.specs.declared.tokens.TokenKind.TheVariants.{Percent, Dollar, Symbol}
use Rattle.kasa_syntax.specs.declared.decls.Decl.{Decl}
use Rattle.kasa_lexer.specs.Cover.{Covers}
use Rattle.kasa_lexer.specs.Tokens.{IsOutcome as IsLexed}
use Rattle.kasa_lexer.proofs.CoverLemmas.{covers}
use Rattle.kasa_parser.specs.declared.ParseFault.{ParseFault}
use Rattle.kasa_parser.specs.declared.ParseFault.TheVariants.{NoMemory, Unexpected, Tokens, Intervention, LongLabel}
use Rattle.kasa_parser.specs.Words.{Word, words_of, same_kind, are_equal, but}
use Rattle.kasa_parser.specs.Rules.{Outcome, got, stuck}
use Rattle.kasa_parser.specs.Decls.{is_keyword, declaration, IsDeclaration}
use Rattle.kasa_parser.specs.Declarations.{Declaration, declarations_of}
use Rattle.kasa_parser.specs.DeclFaults.{CanGoOn, IsCut, IsTokens, IsIntervention, IsLongLabel, IsCause, IsFault}
use Rattle.kasa_parser.specs.Parses.{Parses, IsOutcome, declaration_from, with_more, with_read, read_all}
use Rattle.kasa_parser.specs.Parses.Parses.{ended, read, fault_later, fault_here}
use Rattle.kasa_parser.specs.Steps.{AreWithin, fault_of, onto}
use Rattle.kasa_parser.specs.Split.{with_done, read_behind}
use Rattle.kasa_parser.proofs.KindSets.{false_true, same_kind-same, both}
use Rattle.kasa_parser.proofs.DeclLaws.{declaration-law}
use Rattle.kasa_parser.proofs.Whole.{whole-is}
use Rattle.kasa_parser.proofs.FaultLaws.{digits-kind, tree, fault}

pub complete : (ws : List Word) (d : List Decl) → IsDeclaration ws d → declaration_from ws ≡ got d []
complete ws d (said, is, same) =
    let read = whole-is declaration true (but []) (but []) declaration-law ws said is in
    rw (read, same) refl

pub one_declaration : (ws : List Word) (d e : List Decl) → IsDeclaration ws d → IsDeclaration ws e → d ≡ e
one_declaration ws d e first second =
    let same : got d [] ≡ got e [] = sym (complete ws d first) ∙ complete ws e second in
    cc

-- a declaration without a fault
pub no-fault : (text : List ℕ) (d : Declaration) (given : List Decl) (fault : ParseFault) → IsDeclaration d.words given → ¬ IsFault text d.words d.ending fault
no-fault text d given fault is f = by f.others f.cut f.stuck
  where
    by : (rest : List Word) → d.words ≡ f.before ++ rest → IsCut f.before rest → ⊥
    by [] cut halted = halted given (subst (λ v. IsDeclaration v given) (cut ∙ append-nil f.before) is)
    by (w ∷ rest) cut halted = halted (rest, given, subst (λ v. IsDeclaration v given) (cut ∙ sym (append_assoc f.before (w ∷ []) rest)) is)

-- ---- one fault at most

-- two ways to cut words: at one place, or one before the other
abbrev Cuts : List Word → List Word → List Word → List Word → Type 0
Cuts a b c d =
    ((a ≡ c) × (b ≡ d)) ⊎ ((w : Word) × (e : List Word) × (c ≡ a ++ w ∷ e) × (b ≡ w ∷ e ++ d)) ⊎ ((w : Word) × (e : List Word) × (a ≡ c ++ w ∷ e) × (d ≡ w ∷ e ++ b))

cuts : (a b c d : List Word) → a ++ b ≡ c ++ d → Cuts a b c d
cuts [] b [] d e = inl (refl, e)
cuts [] b (w ∷ c) d e = inr (inl (w, c, refl, e))
cuts (w ∷ a) b [] d e = inr (inr (w, a, refl, sym e))
cuts (w ∷ a) b (v ∷ c) d e =
    let same : w ≡ v = cc in
    let rest : a ++ b ≡ c ++ d = cc in
    onto same (cuts a b c d rest)
  where
    onto : w ≡ v → Cuts a b c d → Cuts (w ∷ a) b (v ∷ c) d
    onto same (inl (first, second)) = inl (cc, second)
    onto same (inr (inl (x, e, first, second))) = inr (inl (x, e, cc, second))
    onto same (inr (inr (x, e, first, second))) = inr (inr (x, e, cc, second))

shorter : (before rest other : List Word) (w : Word) (e : List Word) → IsCut before rest → CanGoOn other → other ≡ before ++ w ∷ e → (tail : List Word) → ¬ (rest ≡ w ∷ e ++ tail)
shorter before [] other w e halted can split tail same = let different : ⊥ = cc in different
shorter before (v ∷ rest) other w e halted (more, d, is) split tail same =
    let one : v ≡ w = cc in
    let whole : other ++ more ≡ (before ++ v ∷ []) ++ (e ++ more) =
    ap (λ x. x ++ more) split ∙ append_assoc before (w ∷ e) more ∙ ap {B = List Word} (λ x. before ++ x ∷ (e ++ more)) (sym one) ∙ sym (append_assoc before (v ∷ []) (e ++ more)) in
    halted (e ++ more, d, subst (λ x. IsDeclaration x d) whole is)

one_cut : (a b c d : List Word) → a ++ b ≡ c ++ d → IsCut a b → CanGoOn a → IsCut c d → CanGoOn c → (a ≡ c) × (b ≡ d)
one_cut a b c d e a_stuck a_goes c_stuck c_goes = by (cuts a b c d e)
  where
    by : Cuts a b c d → (a ≡ c) × (b ≡ d)
    by (inl same) = same
    by (inr (inl (w, more, longer, left))) = absurd (shorter a b c w more a_stuck c_goes longer d left)
    by (inr (inr (w, more, longer, left))) = absurd (shorter c d a w more c_stuck a_goes longer b left)

intervention-word : (before : List Word) (w : Word) → IsIntervention before w → w.kind ≡ Dollar
intervention-word before w (first, word) = by (same_kind Dollar w.kind) refl
  where
    by : (t : Bool) → same_kind Dollar w.kind ≡ t → w.kind ≡ Dollar
    by true i = sym (same_kind-same Dollar w.kind i)
    by false i = false_true (rw i at word)

token-word : (w : Word) → is_keyword (codes "%token") w ≡ true → w.kind ≡ Percent
token-word w e = sym (same_kind-same Percent w.kind (both (same_kind Percent w.kind) (are_equal w.bytes (codes "%token")) e).0)

-- causes exclude one another
tokens-intervention : (before : List Word) (w : Word) → IsTokens before w → IsIntervention before w → ⊥
tokens-intervention before w (inl token) is =
    let percent = token-word w token in
    let dollar = intervention-word before w is in
    let different : ⊥ = cc in different
tokens-intervention before w (inr (bar, place)) is =
    let symbol : w.kind ≡ Symbol 124 = bar in
    let dollar = intervention-word before w is in
    let different : ⊥ = cc in different

tokens-label : (before : List Word) (w : Word) → IsTokens before w → IsLongLabel before w → ⊥
tokens-label before w (inl token) is =
    let percent = token-word w token in
    let number = digits-kind w.kind w.bytes is.0 in
    let different : ⊥ = cc in different
tokens-label before w (inr (bar, place)) is =
    let symbol : w.kind ≡ Symbol 124 = bar in
    let number = digits-kind w.kind w.bytes is.0 in
    let different : ⊥ = cc in different

intervention-label : (before : List Word) (w : Word) → IsIntervention before w → IsLongLabel before w → ⊥
intervention-label before w is long =
    let dollar = intervention-word before w is in
    let number = digits-kind w.kind w.bytes long.0 in
    let different : ⊥ = cc in different

one_cause : (text : List ℕ) (ending : ℕ) (before rest : List Word) (f g : ParseFault) → IsCause text ending before rest f → IsCause text ending before rest g → f ≡ g
one_cause text ending before [] (Unexpected p) (Unexpected q) a b = ap Unexpected (a ∙ sym b)
one_cause text ending before [] (Unexpected p) NoMemory a b = absurd b
one_cause text ending before [] (Unexpected p) (Tokens q) a b = absurd b
one_cause text ending before [] (Unexpected p) (Intervention q) a b = absurd b
one_cause text ending before [] (Unexpected p) (LongLabel q) a b = absurd b
one_cause text ending before [] NoMemory g a b = absurd a
one_cause text ending before [] (Tokens p) g a b = absurd a
one_cause text ending before [] (Intervention p) g a b = absurd a
one_cause text ending before [] (LongLabel p) g a b = absurd a
one_cause text ending before (w ∷ rest) NoMemory g a b = absurd a
one_cause text ending before (w ∷ rest) (Unexpected p) NoMemory a b = absurd b
one_cause text ending before (w ∷ rest) (Unexpected p) (Unexpected q) a b = ap Unexpected (a.0 ∙ sym b.0)
one_cause text ending before (w ∷ rest) (Unexpected p) (Tokens q) a b = absurd (a.1 b.1)
one_cause text ending before (w ∷ rest) (Unexpected p) (Intervention q) a b = absurd (a.2 b.1)
one_cause text ending before (w ∷ rest) (Unexpected p) (LongLabel q) a b = absurd (a.3 b.1)
one_cause text ending before (w ∷ rest) (Tokens p) NoMemory a b = absurd b
one_cause text ending before (w ∷ rest) (Tokens p) (Unexpected q) a b = absurd (b.1 a.1)
one_cause text ending before (w ∷ rest) (Tokens p) (Tokens q) a b = ap Tokens (a.0 ∙ sym b.0)
one_cause text ending before (w ∷ rest) (Tokens p) (Intervention q) a b = absurd (tokens-intervention before w a.1 b.1)
one_cause text ending before (w ∷ rest) (Tokens p) (LongLabel q) a b = absurd (tokens-label before w a.1 b.1)
one_cause text ending before (w ∷ rest) (Intervention p) NoMemory a b = absurd b
one_cause text ending before (w ∷ rest) (Intervention p) (Unexpected q) a b = absurd (b.2 a.1)
one_cause text ending before (w ∷ rest) (Intervention p) (Tokens q) a b = absurd (tokens-intervention before w b.1 a.1)
one_cause text ending before (w ∷ rest) (Intervention p) (Intervention q) a b = ap Intervention (a.0 ∙ sym b.0)
one_cause text ending before (w ∷ rest) (Intervention p) (LongLabel q) a b = absurd (intervention-label before w a.1 b.1)
one_cause text ending before (w ∷ rest) (LongLabel p) NoMemory a b = absurd b
one_cause text ending before (w ∷ rest) (LongLabel p) (Unexpected q) a b = absurd (b.3 a.1)
one_cause text ending before (w ∷ rest) (LongLabel p) (Tokens q) a b = absurd (tokens-label before w b.1 a.1)
one_cause text ending before (w ∷ rest) (LongLabel p) (Intervention q) a b = absurd (intervention-label before w b.1 a.1)
one_cause text ending before (w ∷ rest) (LongLabel p) (LongLabel q) a b = ap LongLabel (a.0 ∙ sym b.0)

pub one_fault : (text : List ℕ) (d : Declaration) (f g : ParseFault) → IsFault text d.words d.ending f → IsFault text d.words d.ending g → f ≡ g
one_fault text d f g a b =
    let same = one_cut a.before a.others b.before b.others (sym a.cut ∙ b.cut) a.stuck a.goes_on b.stuck b.goes_on in
    one_cause text d.ending b.before b.others f g
    (subst (λ x. IsCause text d.ending b.before x f) same.1 (subst (λ x. IsCause text d.ending x a.others f) same.0 a.cause)) b.cause

-- ---- the whole text

pub Parses-read : (text : List ℕ) (ds : List Declaration) → Parses text ds (read_all text ds)
Parses-read text [] = ended
Parses-read text (d ∷ ds) = by (declaration_from d.words) refl (read_all text ds) (Parses-read text ds)
  where
    by : (o : Outcome (List Decl)) → declaration_from d.words ≡ o → (more : Result (List Decl) ParseFault) → Parses text ds more → Parses text (d ∷ ds) (with_read text d o more)
    by (got given rest) e (Ok decls) later = read given (tree d.words rest given e) later
    by (got given rest) e (Err bad) later = fault_later given (tree d.words rest given e) later
    by (stuck rest) e more later = fault_here (fault_of text d.ending d.words rest) (fault text d.ending d.words rest e)

-- a declaration that is read
read-on : (text : List ℕ) (d : Declaration) (ds : List Declaration) (given : List Decl) (more : Result (List Decl) ParseFault) → IsDeclaration d.words given → more ≡ read_all text ds →
    with_more given more ≡ read_all text (d ∷ ds)
read-on text d ds given more is same =
    ap (with_more given) same ∙ ap (λ o. with_read text d o (read_all text ds)) (sym (complete d.words given is))

-- a declaration with a fault
fault-read : (text : List ℕ) (d : Declaration) (ds : List Declaration) (bad : ParseFault) → IsFault text d.words d.ending bad → Err bad ≡ read_all text (d ∷ ds)
fault-read text d ds bad is = by (declaration_from d.words) refl
  where
    by : (o : Outcome (List Decl)) → declaration_from d.words ≡ o → Err bad ≡ with_read text d o (read_all text ds)
    by (got given rest) e = absurd (no-fault text d given bad (tree d.words rest given e) is)
    by (stuck rest) e = ap {B = Result (List Decl) ParseFault} (λ f. Err f) (one_fault text d bad (fault_of text d.ending d.words rest) is (fault text d.ending d.words rest e))

pub read-only : (text : List ℕ) {ds : List Declaration} {one : Result (List Decl) ParseFault} → Parses text ds one → one ≡ read_all text ds
read-only text ended = refl
read-only text (read {d = d} {ds = ds} {decls = decls} given is later) = read-on text d ds given (Ok decls) is (read-only text later)
read-only text (fault_later {d = d} {ds = ds} {fault = bad} given is later) = read-on text d ds given (Err bad) is (read-only text later)
read-only text (fault_here {d = d} {ds = ds} bad is) = fault-read text d ds bad is

pub one_outcome : (text : List ℕ) (ds : List Declaration) (one other : Result (List Decl) ParseFault) → Parses text ds one → Parses text ds other → one ≡ other
one_outcome text ds one other first second = read-only text first ∙ sym (read-only text second)

pub an_outcome : (text : List ℕ) (ds : List Declaration) → (outcome : Result (List Decl) ParseFault) × Parses text ds outcome
an_outcome text ds = (read_all text ds, Parses-read text ds)

-- what `parse` cites
pub outcome-is : (text : List ℕ) (tokens : List Token) → IsOutcome text tokens (read_all text (declarations_of (length text) (words_of text tokens)))
outcome-is text tokens =
    let ds : List Declaration = declarations_of (length text) (words_of text tokens) in
    record { parses = Parses-read text ds; only = λ other is. read-only text is }

covers-within : (text : List ℕ) (start : ℕ) (ts : List Token) → Covers text start ts → AreWithin (length text) ts
covers-within text start [] covered = tt
covers-within text start (t ∷ ts) covered =
    let some = covered.1 in
    let most = covered.2.within in
    let size = length-drop t.start text in
    ((omega (arith, some), omega (arith, some, most, size)), covers-within text t.end ts covered.3)

pub outcome_within : (text : List ℕ) (ts : List Token) → IsLexed text (Ok ts) → AreWithin (length text) ts
outcome_within text ts outcome = covers-within text 0 ts (covers text ts outcome.lexes)

pub is_outcome : (text : List ℕ) (tokens : List Token) (declared : List Declaration) (outcome : Result (List Decl) ParseFault)
    → declared ≡ declarations_of (length text) (words_of text tokens) → read_all text declared ≡ outcome → IsOutcome text tokens outcome
is_outcome text tokens declared outcome e h = subst (IsOutcome text tokens) (ap (read_all text) (sym e) ∙ h) (outcome-is text tokens)

-- what a declaration that is read adds
pub read_behind-next : (text : List ℕ) (done new : List Decl) (d : Declaration) (more : List Declaration) (left : List Word) → onto done (declaration_from d.words) ≡ got new left →
    read_behind text done (d ∷ more) ≡ read_behind text new more
read_behind-next text done new d more left e = by (declaration_from d.words) refl e
  where
    at : (given : List Decl) (later : Result (List Decl) ParseFault) → done ++ given ≡ new → with_done done (with_more given later) ≡ with_done new later
    at given (Ok decls) all = rw (← all) (ap {B = Result (List Decl) ParseFault} (λ l. Ok l) (sym (append_assoc done given decls)))
    at given (Err bad) all = refl

    by : (o : Outcome (List Decl)) → declaration_from d.words ≡ o → onto done o ≡ got new left → with_done done (with_read text d (declaration_from d.words) (read_all text more)) ≡ with_done new (read_all text more)
    by (got given last) i e = let all : done ++ given ≡ new = cc in rw i (at given (read_all text more) all)
    by (stuck last) i e = absurd (let different : ⊥ = cc in different)
