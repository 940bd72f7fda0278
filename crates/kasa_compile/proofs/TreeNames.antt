-- The trees that the parser gives have names.
use Rattle.std.proofs.Common.{◌≡◌, ℕ, List, [], ◌∷◌, ◌++◌, map, Bool, true, false, if◌then◌else◌, ◌==◌, ◌⊎◌, inl, inr, Option, Some, None, Ok, length, sym, subst}
use Rattle.std.specs.List.{AllByRecursion, flat_map, list_any}
use Rattle.kasa_graph.proofs.SplitLemmas.{AllByRecursion-append}
use Rattle.kasa_syntax.specs.declared.tokens.Span.{Span}
use Rattle.kasa_syntax.specs.declared.tokens.Token.{Token}
use Rattle.kasa_syntax.specs.declared.tokens.TokenKind.{TokenKind}
use Rattle.kasa_syntax.specs.declared.tokens.TokenKind.TheVariants.{Name, Number, Symbol}
use Rattle.kasa_syntax.specs.declared.agents.StateWord.TheVariants.{Hash, Named}
use Rattle.kasa_syntax.specs.declared.agents.LinkWord.TheVariants as link
use Rattle.kasa_syntax.specs.declared.agents.SiteText.{SiteText}
use Rattle.kasa_syntax.specs.declared.decls.SiteDecl.{SiteDecl}
use Rattle.kasa_syntax.specs.declared.decls.InitDecl.{InitDecl}
use Rattle.kasa_syntax.specs.declared.decls.Item.{Item}
use Rattle.kasa_syntax.specs.declared.decls.Item.TheVariants.{Absent}
use Rattle.kasa_syntax.specs.declared.decls.Decl.{Decl}
use Rattle.kasa_lexer.specs.Tokens.{IsOutcome as IsLexed}
use Rattle.kasa_parser.specs.declared.run.Keyword.{Keyword}
use Rattle.kasa_parser.specs.declared.run.Keyword.TheVariants as keyword
use Rattle.kasa_parser.specs.declared.run.Run.TheVariants.{Mod}
use Rattle.kasa_parser.specs.declared.run.DollarWord.{DollarWord}
use Rattle.kasa_parser.specs.declared.run.DollarWord.TheVariants.{Addition, Other}
use Rattle.kasa_parser.specs.declared.additions.EndedAgent.{EndedAgent}
use Rattle.kasa_parser.specs.Words.{Word, Kinds, only, words_of, same_kind, are_digits}
use Rattle.kasa_parser.specs.Rules.{Rule, give, stuck, AreMany, maybe, behind_comma, listed_some, listed, as_long_as, in_any_order}
use Rattle.kasa_parser.specs.Grammar as grammar
use Rattle.kasa_parser.specs.Decls as decls
use Rattle.kasa_parser.specs.Decls.{state_name_at, Said}
use Rattle.kasa_parser.specs.Declarations.{Declaration, is_break, last_kind, next_kind, ends_at, deeper, ended, declarations_from, declarations_of}
use Rattle.kasa_parser.specs.Parses.{Parses, IsOutcome as IsParsed}
use Rattle.kasa_parser.specs.Parses.Parses.{ended as no_more, read}
use Rattle.kasa_sig.specs.Words.{IsNameSpan, SiteDeclHasNames, AgentDeclHasNames, StateWordHasNames, LinkWordHasNames, IfGiven, StatesHaveNames, LinksHaveNames, SiteHasNames, AgentHasNames, ItemHasNames, FormHasNames, DeclHasNames}
use Rattle.kasa_compile.proofs.WordNames.{IsNamed, AreNamed, words_named}

-- ---- what trees have where their words are named, for each part of a grammar

record Gives {A : Type 0} (text : List ℕ) (Is : List Word → A → Type 0) (Q : A → Type 0) : Type 0 where
  has : (ws : List Word) (x : A) → Is ws x → AreNamed text ws → Q x

cut : (text : List ℕ) (ws xs ys : List Word) → ws ≡ xs ++ ys → AreNamed text ws → AreNamed text xs × AreNamed text ys
cut text ws xs ys is named = all_split xs ys (subst (AreNamed text) is named)
  where
    all_split : (xs ys : List Word) → AreNamed text (xs ++ ys) → AreNamed text xs × AreNamed text ys
    all_split [] ys named = (tt, named)
    all_split (x ∷ xs) ys named = let more = all_split xs ys named.1 in ((named.0, more.0), more.1)

given : {A : Type 0} {text : List ℕ} {x : A} {Q : A → Type 0} → Q x → Gives text (give x).Is Q
given {Q = Q} has = record { has = λ ws y is named. subst Q (sym is.1) has }

a_word : {A : Type 0} {text : List ℕ} {take : Word → Option A} {Q : A → Type 0} → ((w : Word) → IsNamed text w → IfGiven Q (take w)) → Gives text (λ ws x. (w : Word) × (take w ≡ Some x) × (ws ≡ w ∷ [])) Q
a_word {text = text} {Q = Q} taken = record { has = λ ws x is named. subst (IfGiven Q) is.1 (taken is.0 (subst (AreNamed text) is.2 named).0) }

next : {A B : Type 0} {text : List ℕ} {I : List Word → A → Type 0} {J : A → List Word → B → Type 0} {Q : A → Type 0} {R : B → Type 0} →
    Gives text I Q → ((x : A) → Q x → Gives text (J x) R) → Gives text (λ ws y. (x : A) × (a b : List Word) × I a x × J x b y × (ws ≡ a ++ b)) R
next {text = text} one two = record {
  has = λ ws y is named.
      let sides = cut text ws is.1 is.2 is.5 named in
      (two is.0 (one.has is.1 is.0 is.3 sides.0)).has is.2 y is.4 sides.1;
}

-- whatever the first gives
skip : {A B : Type 0} {text : List ℕ} {I : List Word → A → Type 0} {J : A → List Word → B → Type 0} {R : B → Type 0} →
    ((x : A) → Gives text (J x) R) → Gives text (λ ws y. (x : A) × (a b : List Word) × I a x × J x b y × (ws ≡ a ++ b)) R
skip two = next {Q = λ x. Unit {0}} (record { has = λ ws x is named. tt }) (λ x any. two x)

either : {A : Type 0} {text : List ℕ} {I J : List Word → A → Type 0} {Q : A → Type 0} → Gives text I Q → Gives text J Q → Gives text (λ ws x. I ws x ⊎ J ws x) Q
either {A} {text} {I} {J} {Q} one two = record { has = by }
  where
    by : (ws : List Word) (x : A) → I ws x ⊎ J ws x → AreNamed text ws → Q x
    by ws x (inl is) named = one.has ws x is named
    by ws x (inr is) named = two.has ws x is named

all_many : {A : Type 0} (text : List ℕ) (I : List Word → A → Type 0) (Q : A → Type 0) → Gives text I Q → (ws : List Word) (xs : List A) → AreMany I ws xs → AreNamed text ws → AllByRecursion Q xs
all_many text I Q one ws [] are named = tt
all_many text I Q one ws (x ∷ xs) (a, b, is, are, e) named =
    let sides = cut text ws a b e named in
    (one.has a x is sides.0, all_many text I Q one b xs are sides.1)

-- what holds of both holds of the one that a test chooses
chosen : {A : Type 0} (P : A → Type 0) (b : Bool) (x y : A) → P x → P y → P (if b then x else y)
chosen P true x y first second = first
chosen P false x y first second = second

-- what holds of none and of some holds of what may be given
by_given : {A : Type 0} {Q : A → Type 0} (P : Option A → Type 0) → P None → ((x : A) → Q x → P (Some x)) → (o : Option A) → IfGiven Q o → P o
by_given P none some None has = none
by_given P none some (Some x) has = some x has

-- ---- the parts that are made of these

-- a rule by its trees alone, since how it is read is nothing here
abbrev of : {A : Type 0} → (List Word → A → Type 0) → Rule A
of I = record { Is = I; read = λ ws. stuck ws }

abbrev no_kinds : Kinds
no_kinds = only []

perhaps : {A : Type 0} {text : List ℕ} {I : List Word → A → Type 0} {Q : A → Type 0} → Gives text I Q → Gives text (maybe no_kinds (of I)).Is (IfGiven Q)
perhaps one = either (next one (λ x has. given has)) (given tt)

some_listed : {A : Type 0} {text : List ℕ} {I : List Word → A → Type 0} {Q : A → Type 0} → Gives text I Q → Gives text (listed_some no_kinds (of I)).Is (AllByRecursion Q)
some_listed {text = text} {I = I} {Q = Q} one =
    next one (λ x has. next (record { has = all_many text (behind_comma (of I)).Is Q (either (skip (λ comma. one)) one) }) (λ xs have. given (has, have)))

all_listed : {A : Type 0} {text : List ℕ} {I : List Word → A → Type 0} {Q : A → Type 0} → Gives text I Q → Gives text (listed no_kinds (of I)).Is (AllByRecursion Q)
all_listed one = either (some_listed one) (given tt)

-- as long as a test of the words to come passes
as_long : {A : Type 0} {text : List ℕ} {I : List Word → A → Type 0} {Q : A → Type 0} {goes : List Word → Bool} (r : Rule (Unit {0})) → Gives text I Q → Gives text (as_long_as goes (of I) r).Is (AllByRecursion Q)
as_long {text = text} {I = I} {Q = Q} r one = record {
  has = λ ws xs is named. let sides = cut text ws is.0 is.1 is.5 named in all_many text I Q one is.0 xs is.2 sides.0;
}

any_order : {A B C : Type 0} {text : List ℕ} {I : List Word → A → Type 0} {J : List Word → B → Type 0} {Q : A → Type 0} {R : B → Type 0} {S : C → Type 0} (f : Option A → Option B → C) →
    Gives text I Q → Gives text J R → ((x : Option A) (y : Option B) → IfGiven Q x → IfGiven R y → S (f x y)) → Gives text (in_any_order no_kinds (of I) no_kinds (of J) f).Is S
any_order f one two both =
    either (next one (λ x has. next (perhaps two) (λ y also. given (both (Some x) y has also))))
    (either (next two (λ y also. next (perhaps one) (λ x has. given (both x (Some y) has also)))) (given (both None None tt tt)))

-- ---- sites

name : (text : List ℕ) → Gives text grammar.name.Is (IsNameSpan text)
name text = a_word (λ w named. by w.kind w named)
  where
    by : (k : TokenKind) (w : Word) → IfGiven (IsNameSpan text) (state_name_at k w) → IfGiven (IsNameSpan text) (grammar.name_at k w.span)
    by Name w named = named
    by k w named = tt

state_word : (text : List ℕ) → Gives text grammar.state_word.Is (StateWordHasNames text)
state_word text = a_word (λ w named. by w.kind w named)
  where
    digits : (b : Bool) (span : Span) → IfGiven (IsNameSpan text) (if b then Some span else None) → IfGiven (StateWordHasNames text) (if b then Some (Named span) else None)
    digits true span named = named
    digits false span named = tt

    by : (k : TokenKind) (w : Word) → IfGiven (IsNameSpan text) (state_name_at k w) → IfGiven (StateWordHasNames text) (grammar.state_at k w)
    by Name w named = named
    by Number w named = digits (are_digits w.bytes) w.span named
    by (Symbol b) w named = chosen (IfGiven (StateWordHasNames text)) (b == 35) (Some Hash) None tt tt
    by k w named = tt

link_word : (text : List ℕ) → Gives text grammar.link_word.Is (LinkWordHasNames text)
link_word text = either (next (name text) (λ s site. skip (λ dot. next (name text) (λ a agent. given (site, agent))))) (a_word (λ w named. by w.kind w))
  where
    by : (k : TokenKind) (w : Word) → IfGiven (LinkWordHasNames text) (grammar.link_at k w)
    by (Symbol b) w = chosen (IfGiven (LinkWordHasNames text)) (b == 46) (Some link.Free) (if b == 35 then Some link.Hash else None) tt (chosen (IfGiven (LinkWordHasNames text)) (b == 35) (Some link.Hash) None tt tt)
    by Number w = chosen (IfGiven (LinkWordHasNames text)) (grammar.is_label w.bytes) (Some (link.Label _ _)) None tt tt
    by k w = tt

right : {A : Type 0} {text : List ℕ} {Q : A → Type 0} (edit : Bool) (r : Rule A) → Gives text r.Is Q → Gives text (grammar.right edit r).Is (IfGiven Q)
right true r one = perhaps (skip (λ slash. one))
right false r one = given tt

state : (text : List ℕ) (edit : Bool) → Gives text (grammar.state edit).Is (λ t. StatesHaveNames text (Some t))
state text edit = skip (λ opening. next (state_word text) (λ l left. next (right edit grammar.state_word (state_word text)) (λ r behind. skip (λ closing. given (left, behind)))))

link_text : (text : List ℕ) (edit : Bool) → Gives text (grammar.link_text edit).Is (λ t. LinksHaveNames text (Some t))
link_text text edit = skip (λ opening. next (link_word text) (λ l left. next (right edit grammar.link_word (link_word text)) (λ r behind. skip (λ closing. given (left, behind)))))

site : (text : List ℕ) (edit : Bool) → Gives text (grammar.site edit).Is (SiteHasNames text)
site text edit =
    next (name text) (λ n named. any_order {C = SiteText} (λ s l. record { name = n; state = s; link = l }) (state text edit) (link_text text edit)
    (λ s l have has. record { name = named; states = by_given (StatesHaveNames text) tt (λ t all. all) s have; links = by_given (LinksHaveNames text) tt (λ t all. all) l has }))

-- ---- agents

agent : (text : List ℕ) (edit : Bool) → Gives text (grammar.agent edit).Is (AgentHasNames text)
agent text edit =
    next (name text) (λ n named. skip (λ opening. next (all_listed (site text edit)) (λ some sites. skip (λ closing. skip (λ m.
    given (record { name = named; sites = sites }))))))

items : (text : List ℕ) (edit : Bool) → Gives text (grammar.items edit).Is (AllByRecursion (ItemHasNames text))
items text edit =
    all_listed (either (next (agent text edit) (λ a has. given has)) (a_word (λ w named. chosen (IfGiven (ItemHasNames text)) (same_kind (Symbol 46) w.kind) (Some Absent) None tt tt)))

-- ---- agent declarations

states : (text : List ℕ) → Gives text decls.states.Is (AllByRecursion (IsNameSpan text))
states text = skip (λ opening. next (all_listed (a_word (λ w named. named))) (λ some have. skip (λ closing. given have)))

site_decl : (text : List ℕ) → Gives text decls.site_decl.Is (SiteDeclHasNames text)
site_decl text =
    next (name text) (λ n named. any_order {C = SiteDecl} {R = λ x. Unit {0}} (λ s l. record { name = n; states = decls.states_or_none s }) (states text) (record { has = λ ws x is all. tt })
    (λ s l have links. record { name = named; states = by_given (λ o. AllByRecursion (IsNameSpan text) (decls.states_or_none o)) tt (λ some all. all) s have }))

agent_text : (text : List ℕ) → Gives text decls.agent_text.Is (AgentDeclHasNames text)
agent_text text =
    skip (λ colon. next (name text) (λ n named. skip (λ opening. next (all_listed (site_decl text)) (λ some sites. skip (λ closing.
    given (record { name = named; sites = sites }))))))

-- ---- inits, additions and rules

agents : (text : List ℕ) → Gives text decls.agents.Is (AllByRecursion (AgentHasNames text))
agents text = some_listed (agent text false)

init_agents : (text : List ℕ) → Gives text decls.init_agents.Is (AllByRecursion (AgentHasNames text))
init_agents text = skip (λ colon. skip (λ after_open. next (agents text) (λ some have. skip (λ closing. given have))))

ended_agent : (text : List ℕ) → Gives text decls.ended_agent.Is (λ (x : EndedAgent). AgentHasNames text x.agent)
ended_agent text =
    next (name text) (λ n named. skip (λ opening. next (all_listed (site text false)) (λ some sites. skip (λ end.
    given (record { name = named; sites = sites })))))

without_ends : (text : List ℕ) (xs : List EndedAgent) → AllByRecursion (λ (x : EndedAgent). AgentHasNames text x.agent) xs → AllByRecursion (AgentHasNames text) (map (λ (x : EndedAgent). x.agent) xs)
without_ends text [] all = tt
without_ends text (x ∷ xs) all = (all.0, without_ends text xs all.1)

added : (text : List ℕ) (start : ℕ) (opened : Bool) → Gives text (decls.added start opened).Is (λ (d : InitDecl). AllByRecursion (AgentHasNames text) d.agents)
added text start true = next (agents text) (λ some have. skip (λ end. skip (λ none. given have)))
added text start false =
    next (ended_agent text) (λ x has. next (as_long (decls.run_of Mod) (either (skip (λ comma. ended_agent text)) (ended_agent text))) (λ xs have.
    given (without_ends text (x ∷ xs) (has, have))))

behind_dollar : (text : List ℕ) (w : DollarWord) → Gives text (decls.behind_dollar w).Is (AllByRecursion (DeclHasNames text))
behind_dollar text (Addition start) = next (skip (λ after_open. added text start after_open)) (λ d have. given (have, tt))
behind_dollar text Other = skip (λ none. given tt)

joined : (text : List ℕ) (some : List (List Decl)) → AllByRecursion (AllByRecursion (DeclHasNames text)) some → AllByRecursion (DeclHasNames text) (flat_map (λ ds. ds) some)
joined text [] all = tt
joined text (ds ∷ more) all = AllByRecursion-append (DeclHasNames text) ds (flat_map (λ ds. ds) more) all.0 (joined text more all.1)

mod_text : (text : List ℕ) → Gives text decls.mod_text.Is (AllByRecursion (DeclHasNames text))
mod_text text =
    skip (λ colon. skip (λ none.
    next (record { has = all_many text decls.dollar_part.Is (AllByRecursion (DeclHasNames text)) (skip (λ w. behind_dollar text w)) }) (λ some have.
    given (joined text some have))))

arrow : (text : List ℕ) (left : List Item) → AllByRecursion (ItemHasNames text) left → Gives text (decls.arrow left).Is (FormHasNames text)
arrow text left have = skip (λ both. next (items text false) (λ right also. given (have, also)))

body_behind : (text : List ℕ) (edited : Bool) (some : List Item) → AllByRecursion (ItemHasNames text) some → Gives text (decls.body_behind edited some).Is (FormHasNames text)
body_behind text edited [] have = arrow text [] tt
body_behind text true (x ∷ xs) have = given have
body_behind text false (x ∷ xs) have = either (arrow text (x ∷ xs) have) (given have)

body : (text : List ℕ) → Gives text decls.body.Is (FormHasNames text)
body text = next (items text true) (λ some have. body_behind text (list_any decls.is_edited some) some have)

abbrev SaidHasNames : List ℕ → Said → Type 0
SaidHasNames text said = (span : Span) → AllByRecursion (DeclHasNames text) (said span)

behind_keyword : (text : List ℕ) (k : Keyword) → Gives text (decls.behind_keyword k).Is (SaidHasNames text)
behind_keyword text keyword.Agent = next (agent_text text) (λ a has. given (λ span. (has, tt)))
behind_keyword text keyword.Init = next (init_agents text) (λ some have. given (λ span. (have, tt)))
behind_keyword text keyword.Mod = next (mod_text text) (λ some have. given (λ span. have))
behind_keyword text keyword.Skipped = skip (λ some. given (λ span. tt))

declaration : (text : List ℕ) → Gives text decls.declaration.Is (SaidHasNames text)
declaration text =
    either (skip (λ k. behind_keyword text k))
    (next {Q = λ rule. (span : Span) → FormHasNames text (rule span).form} (skip (λ n. next (body text) (λ form has. skip (λ rate. given (λ span. has))))) (λ rule has. given (λ span. (has span, tt))))

-- ---- the declarations of a text

abbrev AllNamed : List ℕ → List Declaration → Type 0
AllNamed text ds = AllByRecursion (λ (d : Declaration). AreNamed text d.words) ds

ended_named : (text : List ℕ) (ws : List Word) (ending : ℕ) → AreNamed text ws → AllNamed text (ended ws ending)
ended_named text [] ending named = tt
ended_named text (w ∷ ws) ending named = (named, tt)

declarations_named : (text : List ℕ) (size depth : ℕ) (done ws : List Word) → AreNamed text done → AreNamed text ws → AllNamed text (declarations_from size depth done ws)
declarations_named text size depth done [] before named = ended_named text done size before
declarations_named text size depth done (w ∷ ws) before named =
    let next = declarations_named text size 0 [] ws tt named.1 in
    let split = AllByRecursion-append (λ (d : Declaration). AreNamed text d.words) (ended done w.span.start) (declarations_from size 0 [] ws) (ended_named text done w.span.start before) next in
    let passed = declarations_named text size depth done ws before named.1 in
    let taken = declarations_named text size (deeper w.kind depth) (done ++ w ∷ []) ws (AllByRecursion-append (IsNamed text) done (w ∷ []) before (named.0, tt)) named.1 in
    chosen (AllNamed text) (is_break w.kind)
    (if ends_at depth (last_kind done) (next_kind ws) then ended done w.span.start ++ declarations_from size 0 [] ws else declarations_from size depth done ws)
    (declarations_from size (deeper w.kind depth) (done ++ w ∷ []) ws)
    (chosen (AllNamed text) (ends_at depth (last_kind done) (next_kind ws)) (ended done w.span.start ++ declarations_from size 0 [] ws) (declarations_from size depth done ws) split passed)
    taken

parsed_names : (text : List ℕ) (ds : List Declaration) (trees : List Decl) → Parses text ds (Ok trees) → AllNamed text ds → AllByRecursion (DeclHasNames text) trees
parsed_names text ds trees no_more named = tt
parsed_names text ds trees (read {d = d} {ds = more} {decls = others} one (said, is, e) rest) named =
    let all = parsed_names text more others rest named.1 in
    AllByRecursion-append (DeclHasNames text) one others
    (subst (AllByRecursion (DeclHasNames text)) (sym e) ((declaration text).has d.words said is named.0 (decls.span_of d.words))) all

-- the names of a text's tree are names
pub tree_names : (text : List ℕ) (tokens : List Token) (trees : List Decl) → IsLexed text (Ok tokens) → IsParsed text tokens (Ok trees) → AllByRecursion (DeclHasNames text) trees
tree_names text tokens trees lexed parsed =
    parsed_names text (declarations_of (length text) (words_of text tokens)) trees parsed.parses (declarations_named text (length text) 0 [] (words_of text tokens) tt (words_named text 0 tokens lexed.lexes))
