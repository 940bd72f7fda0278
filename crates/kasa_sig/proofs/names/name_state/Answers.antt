use Rattle.std.proofs.Common.{◌≡◌, ℕ, true, false, List, Option, Some, None, Ok, ap, subst, sym, ◌∙◌, arith}
use Rattle.std.specs.Prelude.{slice_get, is_some, MatchOption}
use Rattle.kasa_syntax.specs.Place.{place_at}
use Rattle.kasa_graph.specs.Lists.{Has}
use Rattle.kasa_graph.specs.Signature.{TypeEntry, state_names, with_new_state}
use Rattle.kasa_graph.proofs.NameLemmas.{HasSite-named}
use Rattle.kasa_sig.specs.declared.names.Source.TheVariants.{Declarations, Uses}
use Rattle.kasa_sig.specs.Mentions.{word}
use Rattle.kasa_sig.specs.Outcome.{type_at, site_at}
use Rattle.kasa_sig.proofs.StepLemmas.{step_state-again, step_state-full, step_state-new}
use Rattle.kasa_sig.proofs.names.name_state.Goals as goal

-- what was looked for is the word of the text
not_there : (names : List (List ℕ)) (looked named : List ℕ) → looked ≡ named → ¬ Has names looked → ¬ Has names named
not_there names looked named e = subst (λ (w : List ℕ). ¬ Has names w) e

there : (names : List (List ℕ)) (looked named : List ℕ) (k : ℕ) → looked ≡ named → slice_get names k ≡ Some looked → slice_get names k ≡ Some named
there names looked named k e at = at ∙ ap (λ w. Some w) e

made : (sig next : List TypeEntry) (a x : ℕ) (looked named : List ℕ) → looked ≡ named → next ≡ with_new_state sig a x looked → next ≡ with_new_state sig a x named
made sig next a x looked named e h = h ∙ ap (with_new_state sig a x) e

found : {X : Type 0} (o : Option X) (P : Type 0) (Q : X → Type 0) → MatchOption o P Q → is_some o ≡ true → (x : X) × Q x
found None P Q h e = absurd cc
found (Some x) P Q h e = (x, h)

not_found : {X : Type 0} (o : Option X) (P : Type 0) (Q : X → Type 0) → MatchOption o P Q → is_some o ≡ false → P
not_found None P Q h e = h
not_found (Some x) P Q h e = absurd cc

pub returns-then-states-ge32-clause-err : goal.returns-then-states-ge32-clause-err
returns-then-states-ge32-clause-err c known =
    rw c.place_of.ensures (step_state-full c.args.source c.args.sig.now c.args.agent c.args.site (type_at c.args.sig.now c.args.agent) (site_at c.args.sig.now c.args.agent c.args.site) (word c.args.text.now c.args.state) (place_at c.args.text.now c.args.state.start) c.requires.owner (not_there (state_names c.args.sig.now c.args.agent c.args.site) c.word-word.result.now (word c.args.text.now c.args.state) c.word-word.ensures (not_found c.find_state.result _ _ c.find_state.ensures c.if-is_none.ensures)) (omega (arith, c.states.ensures.count)))

pub returns-then-is_none-clause-ok : goal.returns-then-is_none-clause-ok
returns-then-is_none-clause-ok c =
    step_state-new c.args.source c.args.sig.now c.args.agent c.args.site (type_at c.args.sig.now c.args.agent) (site_at c.args.sig.now c.args.agent c.args.site) (word c.args.text.now c.args.state) (place_at c.args.text.now c.args.state.start) c.requires.owner (not_there (state_names c.args.sig.now c.args.agent c.args.site) c.word-word.result.now (word c.args.text.now c.args.state) c.word-word.ensures (not_found c.find_state.result _ _ c.find_state.ensures c.if-is_none.ensures)) (omega (arith, c.states.ensures.count))
    ∙ ap (λ s. Ok s) (sym (made c.args.sig.now c.add_state.new.self c.args.agent c.args.site c.word-word.result.now (word c.args.text.now c.args.state) c.word-word.ensures c.in_ok-add_state.ensures.added))

pub returns-in-Declarations-clause-err : goal.returns-in-Declarations-clause-err
returns-in-Declarations-clause-err c known =
    let at = found c.find_state.result _ _ c.find_state.ensures c.if-is_none.ensures in
    rw (c.in-Declarations.is, c.place_of-in-Declarations.ensures) (step_state-again Declarations c.args.sig.now c.args.agent c.args.site (type_at c.args.sig.now c.args.agent) (site_at c.args.sig.now c.args.agent c.args.site) (word c.args.text.now c.args.state) (place_at c.args.text.now c.args.state.start) c.requires.owner at.0 (there (state_names c.args.sig.now c.args.agent c.args.site) c.word-word.result.now (word c.args.text.now c.args.state) at.0 c.word-word.ensures at.1))

pub returns-in-Uses-clause-ok : goal.returns-in-Uses-clause-ok
returns-in-Uses-clause-ok c =
    let at = found c.find_state.result _ _ c.find_state.ensures c.if-is_none.ensures in
    rw c.in-Uses.is (step_state-again Uses c.args.sig.now c.args.agent c.args.site (type_at c.args.sig.now c.args.agent) (site_at c.args.sig.now c.args.agent c.args.site) (word c.args.text.now c.args.state) (place_at c.args.text.now c.args.state.start) c.requires.owner at.0 (there (state_names c.args.sig.now c.args.agent c.args.site) c.word-word.result.now (word c.args.text.now c.args.state) at.0 c.word-word.ensures at.1))

pub add_state-requires-clause-owner : goal.add_state-requires-clause-owner
add_state-requires-clause-owner c = HasSite-named c.args.sig.now c.args.agent c.args.site (site_at c.args.sig.now c.args.agent c.args.site) c.requires.owner.named
