-- The laws of the grammar's rules, by the laws of their parts.
use Rattle.std.proofs.Common.{◌≡◌, [], ◌∷◌, Bool, true, false, ◌==◌, if◌then◌else◌, Some, None, refl}
use Rattle.kasa_syntax.specs.declared.tokens.Span.{Span}
use Rattle.kasa_syntax.specs.declared.tokens.TokenKind.{TokenKind}
use Rattle.kasa_syntax.specs.declared.tokens.TokenKind.TheVariants.{Name, Number, Underscore, Symbol}
use Rattle.kasa_syntax.specs.declared.agents.StateWord.{StateWord}
use Rattle.kasa_syntax.specs.declared.agents.StateWord.TheVariants.{Hash, Named}
use Rattle.kasa_syntax.specs.declared.agents.LinkWord.{LinkWord}
use Rattle.kasa_syntax.specs.declared.agents.LinkWord.TheVariants.{Free, Hash as hash_link, Bound}
use Rattle.kasa_syntax.specs.declared.agents.Mark.TheVariants.{Plain, Plus, Minus}
use Rattle.kasa_syntax.specs.declared.decls.Item.{Item}
use Rattle.kasa_syntax.specs.declared.decls.Item.TheVariants.{Absent, Agent}
use Rattle.kasa_parser.specs.Words.{Word, Kinds, only, has, same_kind, a_word}
use Rattle.kasa_parser.specs.Rules.{Rule, word, behind_comma}
use Rattle.kasa_parser.specs.Grammar.{name_at, name_of, state_at, state_of, link_at, link_of, absent_of, name, state_word, link_word, right, state, link_text, parts, site, mark, sites, agent, item, items}
use Rattle.kasa_parser.proofs.RuleLaws.{IsReader, give-law, word-law, then-law, first-law, weaken, symbol-law, maybe-law, comma-law, some-law, listed-law}

pub none_some : {A B : Type 0} {x : A} → None ≡ Some x → B
none_some e = absurd (let different : ⊥ = cc in different)

-- ---- words

name-begins : (k : TokenKind) (span x : Span) → name_at k span ≡ Some x → has (only (Name ∷ [])) k ≡ true
name-begins Name span x e = refl
name-begins k span x e = none_some e

pub name-law : IsReader name false (only (Name ∷ [])) (only [])
name-law =
    word-law name_of (only (Name ∷ [])) (λ w x e. name-begins w.kind w.span x e) (a_word Name) (a_word Name).span refl

state-begins : (k : TokenKind) (w : Word) (x : StateWord) → state_at k w ≡ Some x → has (only (Symbol 35 ∷ Name ∷ Number ∷ [])) k ≡ true
state-begins Name w x e = refl
state-begins Number w x e = refl
state-begins (Symbol b) w x e = by (b == 35) refl e
  where
    by : (t : Bool) → (b == 35) ≡ t → (if t then Some Hash else None) ≡ Some x → has (only (Symbol 35 ∷ Name ∷ Number ∷ [])) (Symbol b) ≡ true
    by true i e = rw i refl
    by false i e = none_some e
state-begins k w x e = none_some e

pub state_word-law : IsReader state_word false (only (Symbol 35 ∷ Name ∷ Number ∷ [])) (only [])
state_word-law = word-law state_of (only (Symbol 35 ∷ Name ∷ Number ∷ [])) (λ w x e. state-begins w.kind w x e) (a_word Name) (Named (a_word Name).span) refl

link-begins : (k : TokenKind) (w : Word) (x : LinkWord) → link_at k w ≡ Some x → has (only (Symbol 46 ∷ Symbol 35 ∷ Underscore ∷ Number ∷ [])) k ≡ true
link-begins Underscore w x e = refl
link-begins Number w x e = refl
link-begins (Symbol b) w x e = by (b == 46) (b == 35) refl refl e
  where
    by : (t u : Bool) → (b == 46) ≡ t → (b == 35) ≡ u → (if t then Some Free else (if u then Some hash_link else None)) ≡ Some x → has (only (Symbol 46 ∷ Symbol 35 ∷ Underscore ∷ Number ∷ [])) (Symbol b) ≡ true
    by true u i j e = rw i refl
    by false true i j e = rw (i, j) refl
    by false false i j e = none_some e
link-begins k w x e = none_some e

link_one-law : IsReader (word link_of) false (only (Symbol 46 ∷ Symbol 35 ∷ Underscore ∷ Number ∷ [])) (only [])
link_one-law = word-law link_of (only (Symbol 46 ∷ Symbol 35 ∷ Underscore ∷ Number ∷ [])) (λ w x e. link-begins w.kind w x e) (a_word Underscore) Bound refl

link_word-law : IsReader link_word false (only (Name ∷ Symbol 46 ∷ Symbol 35 ∷ Underscore ∷ Number ∷ [])) (only [])
link_word-law =
    first-law (only (Name ∷ [])) refl refl (then-law refl name-law (λ site. then-law refl (symbol-law 46 refl) (λ dot. then-law refl name-law (λ agent. give-law _))))
    link_one-law

-- ---- states, links and sites

right-law : {A : Type 0} (edit : Bool) {r : Rule A} {b : Kinds} → IsReader r false b (only []) → IsReader (right edit r) true (only (Symbol 47 ∷ [])) (only (Symbol 47 ∷ []))
right-law true one = maybe-law (only (Symbol 47 ∷ [])) refl refl refl (then-law refl (symbol-law 47 refl) (λ slash. one))
right-law false one = weaken (only (Symbol 47 ∷ [])) (only (Symbol 47 ∷ [])) refl refl (give-law None)

pub state-law : (edit : Bool) → IsReader (state edit) false (only (Symbol 123 ∷ [])) (only [])
state-law edit =
    then-law refl (symbol-law 123 refl) (λ opening. then-law refl state_word-law (λ l. then-law refl (right-law edit state_word-law) (λ r.
    then-law refl (symbol-law 125 refl) (λ closing. give-law _))))

pub link-law : (edit : Bool) → IsReader (link_text edit) false (only (Symbol 91 ∷ [])) (only [])
link-law edit =
    then-law refl (symbol-law 91 refl) (λ opening. then-law refl link_word-law (λ l. then-law refl (right-law edit link_word-law) (λ r.
    then-law refl (symbol-law 93 refl) (λ closing. give-law _))))

pub parts-law : (edit : Bool) (n : Span) → IsReader (parts edit n) true (only (Symbol 123 ∷ Symbol 91 ∷ [])) (only (Symbol 123 ∷ Symbol 91 ∷ []))
parts-law edit n =
    weaken (only (Symbol 123 ∷ Symbol 91 ∷ [])) (only (Symbol 123 ∷ Symbol 91 ∷ [])) refl refl
    (first-law (only (Symbol 123 ∷ [])) refl refl (then-law refl (state-law edit) (λ s. then-law refl (maybe-law (only (Symbol 91 ∷ [])) refl refl refl (link-law edit)) (λ l. give-law _)))
    (first-law (only (Symbol 91 ∷ [])) refl refl (then-law refl (link-law edit) (λ l. then-law refl (maybe-law (only (Symbol 123 ∷ [])) refl refl refl (state-law edit)) (λ s. give-law _)))
    (give-law _)))

pub site-law : (edit : Bool) → IsReader (site edit) false (only (Name ∷ [])) (only (Symbol 123 ∷ Symbol 91 ∷ []))
site-law edit = then-law refl name-law (λ n. parts-law edit n)

-- ---- agents and items

pub sites-law : (edit : Bool) → IsReader (sites edit) true (only (Name ∷ [])) (only (Symbol 44 ∷ Name ∷ Symbol 123 ∷ Symbol 91 ∷ []))
sites-law edit =
    listed-law (site edit) (only (Name ∷ [])) (only (Symbol 44 ∷ Name ∷ Symbol 123 ∷ Symbol 91 ∷ [])) refl refl refl refl
    (some-law (only (Name ∷ [])) refl refl refl refl refl refl refl refl refl (site-law edit))

pub mark-law : (edit : Bool) → IsReader (mark edit) true (only (Symbol 43 ∷ Symbol 45 ∷ [])) (only (Symbol 43 ∷ Symbol 45 ∷ []))
mark-law true =
    weaken (only (Symbol 43 ∷ Symbol 45 ∷ [])) (only (Symbol 43 ∷ Symbol 45 ∷ [])) refl refl
    (first-law (only (Symbol 43 ∷ [])) refl refl (then-law refl (symbol-law 43 refl) (λ plus. give-law Plus))
    (first-law (only (Symbol 45 ∷ [])) refl refl (then-law refl (symbol-law 45 refl) (λ minus. give-law Minus)) (give-law Plain)))
mark-law false = weaken (only (Symbol 43 ∷ Symbol 45 ∷ [])) (only (Symbol 43 ∷ Symbol 45 ∷ [])) refl refl (give-law Plain)

pub agent-law : (edit : Bool) → IsReader (agent edit) false (only (Name ∷ [])) (only (Symbol 43 ∷ Symbol 45 ∷ []))
agent-law edit =
    then-law refl name-law (λ n. then-law refl (symbol-law 40 refl) (λ opening. then-law refl (sites-law edit) (λ some. then-law refl (symbol-law 41 refl) (λ closing.
    then-law refl (mark-law edit) (λ m. give-law _)))))

absent-begins : (w : Word) (x : Item) → absent_of w ≡ Some x → has (only (Symbol 46 ∷ [])) w.kind ≡ true
absent-begins w x e = by (same_kind (Symbol 46) w.kind) refl e
  where
    by : (t : Bool) → same_kind (Symbol 46) w.kind ≡ t → (if t then Some Absent else None) ≡ Some x → has (only (Symbol 46 ∷ [])) w.kind ≡ true
    by true i e = rw i refl
    by false i e = none_some e

pub item-law : (edit : Bool) → IsReader (item edit) false (only (Name ∷ Symbol 46 ∷ [])) (only (Symbol 43 ∷ Symbol 45 ∷ []))
item-law edit =
    weaken (only (Name ∷ Symbol 46 ∷ [])) (only (Symbol 43 ∷ Symbol 45 ∷ [])) refl refl
    (first-law (only (Name ∷ [])) refl refl (then-law refl (agent-law edit) (λ a. give-law (Agent a)))
    (word-law absent_of (only (Symbol 46 ∷ [])) absent-begins (a_word (Symbol 46)) Absent refl))

pub items-law : (edit : Bool) → IsReader (items edit) true (only (Name ∷ Symbol 46 ∷ [])) (only (Symbol 44 ∷ Name ∷ Symbol 46 ∷ Symbol 43 ∷ Symbol 45 ∷ []))
items-law edit =
    listed-law (item edit) (only (Name ∷ Symbol 46 ∷ [])) (only (Symbol 44 ∷ Name ∷ Symbol 46 ∷ Symbol 43 ∷ Symbol 45 ∷ [])) refl refl refl refl
    (some-law (only (Name ∷ Symbol 46 ∷ [])) refl refl refl refl refl refl refl refl refl (item-law edit))

-- ---- the elements of lists, behind a comma or not

pub next_site-law : (edit : Bool) → IsReader (behind_comma (site edit)) false (only (Symbol 44 ∷ Name ∷ [])) (only (Symbol 123 ∷ Symbol 91 ∷ []))
next_site-law edit = comma-law (only (Symbol 123 ∷ Symbol 91 ∷ [])) refl refl refl (site-law edit)

pub next_item-law : (edit : Bool) → IsReader (behind_comma (item edit)) false (only (Symbol 44 ∷ Name ∷ Symbol 46 ∷ [])) (only (Symbol 43 ∷ Symbol 45 ∷ []))
next_item-law edit = comma-law (only (Symbol 43 ∷ Symbol 45 ∷ [])) refl refl refl (item-law edit)
