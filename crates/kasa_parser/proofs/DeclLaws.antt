-- The laws of declarations, by the laws of their parts.
use Rattle.std.proofs.Common.{◌≡◌, List, [], ◌∷◌, ◌++◌, length, ◌≤◌, ℕ, zero, suc, Bool, true, false, ◌==◌, ◌||◌, ◌&&◌, if◌then◌else◌, Some, None, refl, sym, ◌∙◌, append_assoc, inl, inr, arith, codes}
use Rattle.kasa_syntax.specs.declared.tokens.Span.{Span}
use Rattle.kasa_syntax.specs.declared.tokens.TokenKind.{TokenKind}
use Rattle.kasa_syntax.specs.declared.tokens.TokenKind.TheVariants.{Name, Number, Quoted, Percent, Dollar, Arrow, BothArrow, Symbol}
use Rattle.kasa_syntax.specs.declared.decls.Item.{Item}
use Rattle.kasa_parser.specs.declared.run.Keyword.{Keyword}
use Rattle.kasa_parser.specs.declared.run.Keyword.TheVariants as keyword
use Rattle.kasa_parser.specs.declared.run.Run.{Run}
use Rattle.kasa_parser.specs.declared.run.Run.TheVariants.{Links, Mod, Rate}
use Rattle.kasa_parser.specs.declared.run.DollarWord.{DollarWord}
use Rattle.kasa_parser.specs.declared.run.DollarWord.TheVariants.{Addition, Other}
use Rattle.kasa_parser.specs.declared.additions.EndedAgent.{EndedAgent}
use Rattle.kasa_parser.specs.Words.{Word, Kinds, only, but, ◌or◌, same_kind, has, starts, a_word}
use Rattle.kasa_parser.specs.Rules.{got, stuck, word, read_many, behind_comma}
use Rattle.kasa_parser.specs.Grammar.{agent}
use Rattle.kasa_parser.specs.Decls.{passing, run, brackets, run_kinds, run_test, run_of, state_name_at, state_name_of, quoted_at, quoted_of, arrow_at, arrow_of, count_at, count_of, keyword_of, state_names, states, links, declared_parts, site_decl, site_decls, agent_text, counted, closed, agents, init_agents, dollar_at, dollar_of, closing_of, closing, begins_agent, agent_follows, ended_agent, added, behind_dollar, dollar_part, dollar_parts, mod_text, arrow, body_behind, body, rate, rule_text, behind_keyword, declaration}
use Rattle.kasa_parser.proofs.KindSets.{false_true, both, disjoint, within, same_kind-same, disjoint-no, starts-neither, starts-outside}
use Rattle.kasa_parser.proofs.RuleLaws.{IsReader, IsRefused, IsChoice, Closes, none_begins, give-law, word-law, then-law, first-law, many-law, as_long_as-law, weaken, maybe_none, symbol-law, maybe-law, comma-law, some-law, listed-law}
use Rattle.kasa_parser.proofs.GrammarLaws.{none_some, name-law, sites-law, agent-law, items-law}

-- ---- words

passing-is : (test : Word → Bool) (w : Word) (x : Unit {0}) → passing test w ≡ Some x → test w ≡ true
passing-is test w x e = by (test w) e
  where
    by : (t : Bool) → (if t then Some tt else None) ≡ Some x → t ≡ true
    by true e = refl
    by false e = none_some e

has-pass : (kinds : Kinds) (test : Word → Bool) (w : Word) → (has kinds w.kind && test w) ≡ true → has kinds w.kind ≡ true
has-pass kinds test w e = (both (has kinds w.kind) (test w) e).0

-- words that pass a test, as a number does
run-law : (kinds : Kinds) (test : Word → Bool) → within kinds kinds ≡ true → disjoint (only []) kinds ≡ true → (has kinds Number && test (a_word Number)) ≡ true → IsReader (run kinds test) true kinds (kinds or only [])
run-law kinds test w d sample =
    many-law (word (passing (λ w. has kinds w.kind && test w))) kinds (only []) kinds w d
    (word-law (passing (λ w. has kinds w.kind && test w)) kinds (λ v x e. has-pass kinds test v (passing-is (λ w. has kinds w.kind && test w) v x e)) (a_word Number) tt (rw sample refl))

state_name-begins : (k : TokenKind) (w : Word) (x : Span) → state_name_at k w ≡ Some x → has (only (Name ∷ Number ∷ [])) k ≡ true
state_name-begins Name w x e = refl
state_name-begins Number w x e = refl
state_name-begins k w x e = none_some e

state_name-law : IsReader (word state_name_of) false (only (Name ∷ Number ∷ [])) (only [])
state_name-law = word-law state_name_of (only (Name ∷ Number ∷ [])) (λ w x e. state_name-begins w.kind w x e) (a_word Name) (a_word Name).span refl

quoted-begins : (k : TokenKind) (span x : Span) → quoted_at k span ≡ Some x → has (only (Quoted ∷ [])) k ≡ true
quoted-begins Quoted span x e = refl
quoted-begins k span x e = none_some e

quoted-law : IsReader (word quoted_of) false (only (Quoted ∷ [])) (only [])
quoted-law =
    word-law quoted_of (only (Quoted ∷ [])) (λ w x e. quoted-begins w.kind w.span x e) (a_word Quoted) (a_word Quoted).span refl

arrow-begins : (k : TokenKind) (x : Bool) → arrow_at k ≡ Some x → has (only (Arrow ∷ BothArrow ∷ [])) k ≡ true
arrow-begins Arrow x e = refl
arrow-begins BothArrow x e = refl
arrow-begins k x e = none_some e

arrow_word-law : IsReader (word arrow_of) false (only (Arrow ∷ BothArrow ∷ [])) (only [])
arrow_word-law =
    word-law arrow_of (only (Arrow ∷ BothArrow ∷ [])) (λ w x e. arrow-begins w.kind x e) (a_word Arrow) false refl

abbrev counts : Kinds
counts = only (Number ∷ Quoted ∷ Symbol 43 ∷ Symbol 45 ∷ Symbol 42 ∷ Symbol 47 ∷ Symbol 40 ∷ Symbol 41 ∷ [])

count-begins : (k : TokenKind) (x : Bool) → count_at k ≡ Some x → has counts k ≡ true
count-begins Number x e = refl
count-begins Quoted x e = refl
count-begins (Symbol b) x e = by (b == 40) (b == 43) (b == 45) (b == 42) (b == 47) (b == 41) e
  where
    by : (o p m t d c : Bool) → (if o then Some true else (if p || m || t || d || c then Some false else None)) ≡ Some x → (p || (m || (t || (d || (o || (c || false)))))) ≡ true
    by true true m t d c e = refl
    by true false true t d c e = refl
    by true false false true d c e = refl
    by true false false false true c e = refl
    by true false false false false c e = refl
    by false true m t d c e = refl
    by false false true t d c e = refl
    by false false false true d c e = refl
    by false false false false true c e = refl
    by false false false false false true e = refl
    by false false false false false false e = none_some e
count-begins k x e = none_some e

count_word-law : IsReader (word count_of) false counts (only [])
count_word-law =
    word-law count_of counts (λ w x e. count-begins w.kind x e) (a_word Number) false refl

-- ---- agent declarations

state_names-law : IsReader state_names true (only (Name ∷ Number ∷ [])) (only (Symbol 44 ∷ Name ∷ Number ∷ []))
state_names-law =
    listed-law (word state_name_of) (only (Name ∷ Number ∷ [])) (only (Symbol 44 ∷ Name ∷ Number ∷ [])) refl refl refl refl
    (some-law (only (Name ∷ Number ∷ [])) refl refl refl refl refl refl refl refl refl state_name-law)

states-law : IsReader states false (only (Symbol 123 ∷ [])) (only [])
states-law = then-law refl (symbol-law 123 refl) (λ opening. then-law refl state_names-law (λ some. then-law refl (symbol-law 125 refl) (λ closing. give-law some)))

run_of-law : (which : Run) → IsReader (run_of which) true (run_kinds which) (run_kinds which)
run_of-law Links = then-law refl (run-law (but brackets) (run_test Links) refl refl refl) (λ some. give-law tt)
run_of-law Mod = then-law refl (run-law (but (Percent ∷ Arrow ∷ BothArrow ∷ Dollar ∷ [])) (run_test Mod) refl refl refl) (λ some. give-law tt)
run_of-law Rate = then-law refl (run-law (but (Percent ∷ Arrow ∷ BothArrow ∷ [])) (run_test Rate) refl refl refl) (λ some. give-law tt)

links-law : IsReader links false (only (Symbol 91 ∷ [])) (only [])
links-law = then-law refl (symbol-law 91 refl) (λ opening. then-law refl (run_of-law Links) (λ some. symbol-law 93 refl))

declared_parts-law : (n : Span) → IsReader (declared_parts n) true (only (Symbol 123 ∷ Symbol 91 ∷ [])) (only (Symbol 123 ∷ Symbol 91 ∷ []))
declared_parts-law n =
    weaken (only (Symbol 123 ∷ Symbol 91 ∷ [])) (only (Symbol 123 ∷ Symbol 91 ∷ [])) refl refl
    (first-law (only (Symbol 123 ∷ [])) refl refl (then-law refl states-law (λ s. then-law refl (maybe-law (only (Symbol 91 ∷ [])) refl refl refl links-law) (λ l. give-law _)))
    (first-law (only (Symbol 91 ∷ [])) refl refl (then-law refl links-law (λ l. then-law refl (maybe-law (only (Symbol 123 ∷ [])) refl refl refl states-law) (λ s. give-law _)))
    (give-law _)))

pub site_decl-law : IsReader site_decl false (only (Name ∷ [])) (only (Symbol 123 ∷ Symbol 91 ∷ []))
site_decl-law = then-law refl name-law (λ n. declared_parts-law n)

site_decls-law : IsReader site_decls true (only (Name ∷ [])) (only (Symbol 44 ∷ Name ∷ Symbol 123 ∷ Symbol 91 ∷ []))
site_decls-law =
    listed-law site_decl (only (Name ∷ [])) (only (Symbol 44 ∷ Name ∷ Symbol 123 ∷ Symbol 91 ∷ [])) refl refl refl refl
    (some-law (only (Name ∷ [])) refl refl refl refl refl refl refl refl refl site_decl-law)

agent_text-law : IsReader agent_text false (only (Symbol 58 ∷ [])) (only [])
agent_text-law =
    then-law refl (symbol-law 58 refl) (λ colon. then-law refl name-law (λ n. then-law refl (symbol-law 40 refl) (λ opening.
    then-law refl site_decls-law (λ some. then-law refl (symbol-law 41 refl) (λ closing. give-law _)))))

-- ---- inits

closed-law : (is_open : Bool) → IsReader (closed is_open) true (only (Symbol 41 ∷ [])) (only [])
closed-law true = maybe_none (symbol-law 41 refl)
closed-law false = weaken (only (Symbol 41 ∷ [])) (only []) refl refl (give-law tt)

counted-law : IsReader counted true counts counts
counted-law = then-law refl (many-law (word count_of) counts (only []) counts refl refl count_word-law) (λ some. give-law _)

agents-law : IsReader agents false (only (Name ∷ [])) (only (Symbol 44 ∷ Name ∷ Symbol 43 ∷ Symbol 45 ∷ []))
agents-law = some-law (only (Name ∷ [])) refl refl refl refl refl refl refl refl refl (agent-law false)

init_agents-law : IsReader init_agents false (only (Symbol 58 ∷ [])) (only (Symbol 44 ∷ Name ∷ Symbol 43 ∷ Symbol 45 ∷ []))
init_agents-law =
    weaken (only (Symbol 58 ∷ [])) (only (Symbol 44 ∷ Name ∷ Symbol 43 ∷ Symbol 45 ∷ [])) refl refl
    (then-law refl (symbol-law 58 refl) (λ colon. then-law refl counted-law (λ after_open.
    then-law refl agents-law (λ some. then-law refl (closed-law _) (λ closing. give-law _)))))

-- ---- additions

dollar-begins : (k : TokenKind) (w : Word) (x : DollarWord) → dollar_at k w ≡ Some x → has (only (Dollar ∷ [])) k ≡ true
dollar-begins Dollar w x e = refl
dollar-begins k w x e = none_some e

dollar_word-law : IsReader (word dollar_of) false (only (Dollar ∷ [])) (only [])
dollar_word-law = word-law dollar_of (only (Dollar ∷ [])) (λ w x e. dollar-begins w.kind w x e) (a_word Dollar) Other refl

closing-begins : (w : Word) (x : ℕ) → closing_of w ≡ Some x → has (only (Symbol 41 ∷ [])) w.kind ≡ true
closing-begins w x e = by (same_kind (Symbol 41) w.kind) refl e
  where
    by : (t : Bool) → same_kind (Symbol 41) w.kind ≡ t → (if t then Some w.span.end else None) ≡ Some x → has (only (Symbol 41 ∷ [])) w.kind ≡ true
    by true i e = rw i refl
    by false i e = none_some e

closing-law : IsReader closing false (only (Symbol 41 ∷ [])) (only [])
closing-law = word-law closing_of (only (Symbol 41 ∷ [])) closing-begins (a_word (Symbol 41)) 0 refl

ended_agent-law : IsReader ended_agent false (only (Name ∷ [])) (only [])
ended_agent-law =
    then-law refl name-law (λ n. then-law refl (symbol-law 40 refl) (λ opening. then-law refl (sites-law false) (λ some.
    then-law refl closing-law (λ end. give-law _))))

pub next_ended-law : IsReader (behind_comma ended_agent) false (only (Symbol 44 ∷ Name ∷ [])) (only [])
next_ended-law = comma-law (only []) refl refl refl ended_agent-law

-- words that follow as an agent does follow so with more words behind them
begins-more : (us vs : List Word) → begins_agent us ≡ true → begins_agent (us ++ vs) ≡ true
begins-more [] vs e = false_true e
begins-more (u ∷ []) vs e = false_true (both (has (only (Name ∷ [])) u.kind) false e).1
begins-more (u ∷ (v ∷ us)) vs e = e

follows-more : (us vs : List Word) → agent_follows us ≡ true → agent_follows (us ++ vs) ≡ true
follows-more [] vs e = false_true e
follows-more (u ∷ us) vs e = by (same_kind (Symbol 44) u.kind) refl
  where
    by : (t : Bool) → same_kind (Symbol 44) u.kind ≡ t → agent_follows ((u ∷ us) ++ vs) ≡ true
    by true i = rw i (begins-more us vs (rw i at e))
    by false i = rw i (begins-more (u ∷ us) vs (rw i at e))

-- where only more words make an agent of them, an agent ends too early
begins-short : (us vs : List Word) → begins_agent us ≡ false → begins_agent (us ++ vs) ≡ true → ended_agent.read us ≡ stuck []
begins-short [] vs e i = refl
begins-short (u ∷ []) vs e i =
    let named = (both (has (only (Name ∷ [])) u.kind) (starts (only (Symbol 40 ∷ [])) vs) i).0 in
    let is_name : Name ≡ u.kind = same_kind-same Name u.kind (by (same_kind Name u.kind) named) in
    rw (← is_name) refl
  where
    by : (t : Bool) → (t || false) ≡ true → t ≡ true
    by true e = refl
    by false e = false_true e
begins-short (u ∷ (v ∷ us)) vs e i = false_true (sym e ∙ i)

follows-short : (us vs : List Word) → agent_follows us ≡ false → agent_follows (us ++ vs) ≡ true → (behind_comma ended_agent).read us ≡ stuck []
follows-short [] vs e i = refl
follows-short (u ∷ us) vs e i = by (same_kind (Symbol 44) u.kind) refl
  where
    by : (t : Bool) → same_kind (Symbol 44) u.kind ≡ t → (behind_comma ended_agent).read (u ∷ us) ≡ stuck []
    by true j = rw j (begins-short us vs (rw j at e) (rw j at i))
    by false j = rw j (begins-short (u ∷ us) vs (rw j at e) (rw j at i))

-- an agent begins as the test says, and with no comma
agent-begins : (used others : List Word) (x : EndedAgent) → ended_agent.Is used x → (begins_agent (used ++ others) ≡ true) × (starts (only (Symbol 44 ∷ [])) (used ++ others) ≡ false)
agent-begins used others x (n, a, b, (w, named, first), (u, c, d, (v, opened, second), more, behind_name), cut) =
    let name_first = rw first at (name-law.begun a n (w, named, first)) in
    let open_second = rw second at ((symbol-law 40 refl).begun c u (v, opened, second)) in
    rw (cut, behind_name, first, second) (both_are name_first open_second, disjoint-no (only (Name ∷ [])) (only (Symbol 44 ∷ [])) w.kind refl name_first)
  where
    both_are : {p q : Bool} → p ≡ true → q ≡ true → (p && q) ≡ true
    both_are i j = rw (i, j) refl

next-begins : (used others : List Word) (x : EndedAgent) → (behind_comma ended_agent).Is used x → agent_follows (used ++ others) ≡ true
next-begins used others x (inr agent) = let begins = agent-begins used others x agent in rw begins.1 begins.0
next-begins used others x (inl (u, a, b, (w, comma, first), agent, cut)) =
    let stands = rw first at ((symbol-law 44 refl).begun a u (w, comma, first)) in
    rw (cut, first, stands) (agent-begins b others x agent).0

pub agents_follow : IsChoice (behind_comma ended_agent) (only []) agent_follows
agents_follow = record {
  none = refl;
  begins = next-begins;
  stops = λ ws e. nothing ws;
  refuses = refuses;
}
  where
    nothing : (ws : List Word) → starts (only []) ws ≡ false
    nothing [] = refl
    nothing (w ∷ ws) = refl

    refuses : (used left other : List Word) → ((other : List Word) → IsRefused left other → (behind_comma ended_agent).read (used ++ other) ≡ stuck other) → IsRefused left other → agent_follows (used ++ left) ≡ true →
        agent_follows (used ++ other) ≡ true
    refuses used [] [] same a e = e
    refuses used [] (v ∷ vs) same a e = absurd a
    refuses used (w ∷ ws) [] same a e = absurd a
    refuses used (w ∷ ws) (v ∷ vs) same a e = by (agent_follows (used ++ w ∷ [])) refl
      where
        by : (t : Bool) → agent_follows (used ++ w ∷ []) ≡ t → agent_follows (used ++ v ∷ vs) ≡ true
        by true i = let more = follows-more (used ++ w ∷ []) vs i in rw (← a) (rw (append_assoc used (w ∷ []) vs) at more)
        by false i =
            let ends = follows-short (used ++ w ∷ []) ws i (rw (append_assoc used (w ∷ []) ws) e) in
            let halts = same (w ∷ []) refl in
            absurd (let different : stuck [] ≡ stuck (w ∷ []) = sym ends ∙ halts in let no : ⊥ = cc in no)

-- a run of words that pass is read as far as their kinds go
run-ends : (kinds : Kinds) (test : Word → Bool) → ((w : Word) → test w ≡ true) → (ws : List Word) (most : ℕ) → length ws ≤ most →
    (xs : List (Unit {0})) × (left : List Word) × (read_many (starts kinds) (word (passing (λ w. has kinds w.kind && test w))).read most ws ≡ got xs left) × (starts kinds left ≡ false)
run-ends kinds test pass [] most l = ([], [], none_begins (starts kinds) (word (passing (λ w. has kinds w.kind && test w))).read [] most refl, refl)
run-ends kinds test pass (w ∷ ws) zero l = absurd (omega arith)
run-ends kinds test pass (w ∷ ws) (suc m) l = by (has kinds w.kind) refl (run-ends kinds test pass ws m (omega arith))
  where
    by : (t : Bool) → has kinds w.kind ≡ t → (xs : List (Unit {0})) × (left : List Word) × (read_many (starts kinds) (word (passing (λ w. has kinds w.kind && test w))).read m ws ≡ got xs left) × (starts kinds left ≡ false) →
        (xs : List (Unit {0})) × (left : List Word) × (read_many (starts kinds) (word (passing (λ w. has kinds w.kind && test w))).read (suc m) (w ∷ ws) ≡ got xs left) × (starts kinds left ≡ false)
    by true i (xs, left, read, ended) = (tt ∷ xs, left, rw (i, pass w, read) refl, ended)
    by false i more = ([], w ∷ ws, rw i refl, i)

-- the words of agents
abbrev agent_words : Kinds
agent_words = only (Symbol 44 ∷ Name ∷ Symbol 40 ∷ [])

begins-near : (us left : List Word) → starts (only (Name ∷ [])) left ≡ false → starts (only (Symbol 40 ∷ [])) left ≡ false → begins_agent (us ++ left) ≡ begins_agent us
begins-near [] left named opened = rw named refl
begins-near (u ∷ []) left named opened = rw opened refl
begins-near (u ∷ (v ∷ us)) left named opened = refl

follows-near : (used left : List Word) → starts agent_words left ≡ false → agent_follows (used ++ left) ≡ agent_follows used
follows-near used left e =
    let no_comma = starts-neither (only (Symbol 44 ∷ [])) (only (Name ∷ Symbol 40 ∷ [])) left e in
    let no_name = starts-neither (only (Name ∷ [])) (only (Symbol 40 ∷ [])) left no_comma.1 in
    by used no_comma.0 no_name.0 no_name.1
  where
    by : (used : List Word) → starts (only (Symbol 44 ∷ [])) left ≡ false → starts (only (Name ∷ [])) left ≡ false → starts (only (Symbol 40 ∷ [])) left ≡ false → agent_follows (used ++ left) ≡ agent_follows used
    by [] comma named opened = rw comma (rw named refl)
    by (u ∷ us) comma named opened = at_comma (same_kind (Symbol 44) u.kind) refl
      where
        at_comma : (t : Bool) → same_kind (Symbol 44) u.kind ≡ t → agent_follows ((u ∷ us) ++ left) ≡ agent_follows (u ∷ us)
        at_comma true i = rw i (begins-near us left named opened)
        at_comma false i = rw i (begins-near (u ∷ us) left named opened)

mod_closes : Closes (run_of Mod) agent_words agent_follows
mod_closes = record {
  empty = ([], [], [], refl, (refl, refl), refl);
  ends = λ ws. at_end ws (run-ends (run_kinds Mod) (run_test Mod) (λ w. refl) ws (length ws) (omega arith));
  near = follows-near;
}
  where
    at_end : (ws : List Word) → (xs : List (Unit {0})) × (left : List Word) × ((run (run_kinds Mod) (run_test Mod)).read ws ≡ got xs left) × (starts (run_kinds Mod) left ≡ false) →
        (left : List Word) × ((run_of Mod).read ws ≡ got tt left) × (starts agent_words left ≡ false)
    at_end ws (xs, left, read, ended) = (left, rw read refl, starts-outside agent_words (run_kinds Mod) left refl ended)

added-law : (start : ℕ) (is_open : Bool) → IsReader (added start is_open) false (only (Name ∷ [])) (but (Percent ∷ Arrow ∷ BothArrow ∷ Dollar ∷ []))
added-law start true =
    weaken (only (Name ∷ [])) (but (Percent ∷ Arrow ∷ BothArrow ∷ Dollar ∷ [])) refl refl (then-law refl agents-law (λ some. then-law refl closing-law (λ end.
    then-law refl (run_of-law Mod) (λ none. give-law _))))
added-law start false =
    weaken (only (Name ∷ [])) (but (Percent ∷ Arrow ∷ BothArrow ∷ Dollar ∷ [])) refl refl (then-law refl ended_agent-law (λ x.
    then-law refl (as_long_as-law agent_follows agent_words agents_follow mod_closes next_ended-law (run_of-law Mod)) (λ xs. give-law _)))

behind_dollar-law : (w : DollarWord) → IsReader (behind_dollar w) true (but (Percent ∷ Arrow ∷ BothArrow ∷ Dollar ∷ [])) (but (Percent ∷ Arrow ∷ BothArrow ∷ Dollar ∷ []))
behind_dollar-law (Addition start) =
    weaken (but (Percent ∷ Arrow ∷ BothArrow ∷ Dollar ∷ [])) (but (Percent ∷ Arrow ∷ BothArrow ∷ Dollar ∷ [])) refl refl
    (maybe_none (then-law refl (then-law refl counted-law (λ after_open. added-law start after_open)) (λ d. give-law _)))
behind_dollar-law Other = weaken (but (Percent ∷ Arrow ∷ BothArrow ∷ Dollar ∷ [])) (but (Percent ∷ Arrow ∷ BothArrow ∷ Dollar ∷ [])) refl refl (then-law refl (run_of-law Mod) (λ none. give-law _))

pub dollar_part-law : IsReader dollar_part false (only (Dollar ∷ [])) (but (Percent ∷ Arrow ∷ BothArrow ∷ Dollar ∷ []))
dollar_part-law = weaken (only (Dollar ∷ [])) (but (Percent ∷ Arrow ∷ BothArrow ∷ Dollar ∷ [])) refl refl (then-law refl dollar_word-law (λ w. behind_dollar-law w))

dollar_parts-law : IsReader dollar_parts true (only (Dollar ∷ [])) (but (Percent ∷ Arrow ∷ BothArrow ∷ []))
dollar_parts-law =
    weaken (only (Dollar ∷ [])) (but (Percent ∷ Arrow ∷ BothArrow ∷ [])) refl refl
    (then-law refl (many-law dollar_part (only (Dollar ∷ [])) (but (Percent ∷ Arrow ∷ BothArrow ∷ Dollar ∷ [])) (only (Dollar ∷ [])) refl refl dollar_part-law) (λ some. give-law _))

mod_text-law : IsReader mod_text false (only (Symbol 58 ∷ [])) (but [])
mod_text-law =
    weaken (only (Symbol 58 ∷ [])) (but []) refl refl
    (then-law refl (symbol-law 58 refl) (λ colon. then-law refl (run_of-law Mod) (λ none. dollar_parts-law)))

-- ---- rules

-- what may go on behind a body
abbrev bodies : Kinds
bodies = only (Symbol 44 ∷ Name ∷ Symbol 46 ∷ Symbol 43 ∷ Symbol 45 ∷ Arrow ∷ BothArrow ∷ [])

arrow-law : (left : List Item) → IsReader (arrow left) false (only (Arrow ∷ BothArrow ∷ [])) bodies
arrow-law left = weaken (only (Arrow ∷ BothArrow ∷ [])) bodies refl refl (then-law refl arrow_word-law (λ sides. then-law refl (items-law false) (λ right. give-law _)))

body_behind-law : (edited : Bool) (xs : List Item) → IsReader (body_behind edited xs) true (only (Arrow ∷ BothArrow ∷ [])) bodies
body_behind-law edited [] = maybe_none (arrow-law [])
body_behind-law true (x ∷ xs) = weaken (only (Arrow ∷ BothArrow ∷ [])) bodies refl refl (give-law _)
body_behind-law false (x ∷ xs) = weaken (only (Arrow ∷ BothArrow ∷ [])) bodies refl refl (first-law (only (Arrow ∷ BothArrow ∷ [])) refl refl (arrow-law (x ∷ xs)) (give-law _))

body-law : IsReader body true (only (Name ∷ Symbol 46 ∷ Arrow ∷ BothArrow ∷ [])) bodies
body-law = weaken (only (Name ∷ Symbol 46 ∷ Arrow ∷ BothArrow ∷ [])) bodies refl refl (then-law refl (items-law true) (λ some. body_behind-law _ some))

rate-law : IsReader rate true (only (Symbol 64 ∷ [])) (but (Percent ∷ Arrow ∷ BothArrow ∷ []))
rate-law = maybe-law (only (Symbol 64 ∷ [])) refl refl refl (then-law refl (symbol-law 64 refl) (λ at. run_of-law Rate))

rule_text-law : IsReader rule_text true (only (Quoted ∷ Name ∷ Symbol 46 ∷ Arrow ∷ BothArrow ∷ Symbol 64 ∷ [])) (but [])
rule_text-law =
    weaken (only (Quoted ∷ Name ∷ Symbol 46 ∷ Arrow ∷ BothArrow ∷ Symbol 64 ∷ [])) (but []) refl refl
    (then-law refl (maybe-law (only (Quoted ∷ [])) refl refl refl quoted-law) (λ n. then-law refl body-law (λ form. then-law refl rate-law (λ some. give-law _))))

-- ---- declarations

keyword-begins : (w : Word) (k : Keyword) → keyword_of w ≡ Some k → has (only (Percent ∷ [])) w.kind ≡ true
keyword-begins w k e = by (same_kind Percent w.kind) refl
  where
    by : (t : Bool) → same_kind Percent w.kind ≡ t → (t || false) ≡ true
    by true i = refl
    by false i = none_some (rw i at e)

keyword-law : IsReader (word keyword_of) false (only (Percent ∷ [])) (only [])
keyword-law =
    word-law keyword_of (only (Percent ∷ [])) keyword-begins (record { kind = Percent; bytes = codes "%mod"; span = record { start = 0; end = 0 } }) keyword.Mod refl

behind_keyword-law : (k : Keyword) → IsReader (behind_keyword k) true (but []) (but [])
behind_keyword-law keyword.Agent = weaken (but []) (but []) refl refl (maybe_none (then-law refl agent_text-law (λ a. give-law _)))
behind_keyword-law keyword.Init = weaken (but []) (but []) refl refl (maybe_none (then-law refl init_agents-law (λ some. give-law _)))
behind_keyword-law keyword.Mod = weaken (but []) (but []) refl refl (maybe_none (then-law refl mod_text-law (λ some. give-law _)))
behind_keyword-law keyword.Skipped = weaken (but []) (but []) refl refl (then-law refl (run_of-law Rate) (λ some. give-law _))

pub declaration-law : IsReader declaration true (but []) (but [])
declaration-law =
    weaken (but []) (but []) refl refl (first-law (only (Percent ∷ [])) refl refl (then-law refl keyword-law (λ k. behind_keyword-law k)) (then-law refl rule_text-law (λ text. give-law _)))

-- ---- the elements of lists, behind a comma or not

pub next_state-law : IsReader (behind_comma (word state_name_of)) false (only (Symbol 44 ∷ Name ∷ Number ∷ [])) (only [])
next_state-law = comma-law (only []) refl refl refl state_name-law

pub next_decl-law : IsReader (behind_comma site_decl) false (only (Symbol 44 ∷ Name ∷ [])) (only (Symbol 123 ∷ Symbol 91 ∷ []))
next_decl-law = comma-law (only (Symbol 123 ∷ Symbol 91 ∷ [])) refl refl refl site_decl-law

pub next_agent-law : IsReader (behind_comma (agent false)) false (only (Symbol 44 ∷ Name ∷ [])) (only (Symbol 43 ∷ Symbol 45 ∷ []))
next_agent-law = comma-law (only (Symbol 43 ∷ Symbol 45 ∷ [])) refl refl refl (agent-law false)
