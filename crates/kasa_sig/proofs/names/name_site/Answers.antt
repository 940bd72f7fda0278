use Rattle.std.proofs.Common.{◌≡◌, ℕ, List, Some, Ok, ap, subst, sym, ◌∙◌, arith}
use Rattle.std.specs.Prelude.{slice_get}
use Rattle.kasa_syntax.specs.Place.{place_at}
use Rattle.kasa_graph.specs.Lists.{Has}
use Rattle.kasa_graph.specs.Signature.{TypeEntry, site_names, with_new_site}
use Rattle.kasa_graph.proofs.NameLemmas.{type_within}
use Rattle.kasa_sig.specs.declared.names.Source.TheVariants.{Declarations, Uses}
use Rattle.kasa_sig.specs.Mentions.{word}
use Rattle.kasa_sig.specs.Outcome.{type_at}
use Rattle.kasa_sig.proofs.StepLemmas.{step_site-again, step_site-full, step_site-new, new_site_named}
use Rattle.kasa_sig.proofs.names.name_site.Goals as goal

-- what was looked for is the word of the text
not_there : (names : List (List ℕ)) (looked named : List ℕ) → looked ≡ named → ¬ Has names looked → ¬ Has names named
not_there names looked named e = subst (λ (w : List ℕ). ¬ Has names w) e

there : (names : List (List ℕ)) (looked named : List ℕ) (k : ℕ) → looked ≡ named → slice_get names k ≡ Some looked → slice_get names k ≡ Some named
there names looked named k e at = at ∙ ap (λ w. Some w) e

made : (sig next : List TypeEntry) (a : ℕ) (looked named : List ℕ) → looked ≡ named → next ≡ with_new_site sig a looked → next ≡ with_new_site sig a named
made sig next a looked named e h = h ∙ ap (with_new_site sig a) e

pub returns-then-sites-ge32-clause-err : goal.returns-then-sites-ge32-clause-err
returns-then-sites-ge32-clause-err c known =
    rw c.place_of.ensures (step_site-full c.args.source c.args.sig.now c.args.agent (type_at c.args.sig.now c.args.agent) (word c.args.text.now c.args.name) (place_at c.args.text.now c.args.name.start) c.requires.owner (not_there _ _ _ c.word-word.ensures c.in_default.ensures) (omega (arith, c.sites.ensures.count)))

pub returns-in_default-clause-ok : goal.returns-in_default-clause-ok
returns-in_default-clause-ok c =
    step_site-new c.args.source c.args.sig.now c.args.agent (type_at c.args.sig.now c.args.agent) (word c.args.text.now c.args.name) (place_at c.args.text.now c.args.name.start) c.requires.owner (not_there _ _ _ c.word-word.ensures c.in_default.ensures) (omega (arith, c.sites.ensures.count))
    ∙ ap (λ s. Ok s) (sym (made c.args.sig.now c.add_site.new.self c.args.agent c.word-word.result.now (word c.args.text.now c.args.name) c.word-word.ensures c.in_ok-add_site.ensures.added))

pub returns-in_default-clause-number : goal.returns-in_default-clause-number
returns-in_default-clause-number c =
    rw (made c.args.sig.now c.add_site.new.self c.args.agent c.word-word.result.now (word c.args.text.now c.args.name) c.word-word.ensures c.in_ok-add_site.ensures.added)
    (new_site_named c.args.sig.now c.args.agent c.in_ok-add_site.field-0 (type_at c.args.sig.now c.args.agent) (word c.args.text.now c.args.name) c.requires.owner (not_there _ _ _ c.word-word.ensures c.in_default.ensures) c.in_ok-add_site.ensures.number)

pub returns-in-Declarations-clause-err : goal.returns-in-Declarations-clause-err
returns-in-Declarations-clause-err c known =
    rw (c.in-Declarations.is, c.place_of-in-Declarations.ensures) (step_site-again Declarations c.args.sig.now c.args.agent (type_at c.args.sig.now c.args.agent) (word c.args.text.now c.args.name) (place_at c.args.text.now c.args.name.start) c.requires.owner c.in-Some.site (there (site_names c.args.sig.now c.args.agent) c.word-word.result.now (word c.args.text.now c.args.name) c.in-Some.site c.word-word.ensures c.in-Some.ensures))

pub returns-in-Uses-clause-ok : goal.returns-in-Uses-clause-ok
returns-in-Uses-clause-ok c =
    rw c.in-Uses.is (step_site-again Uses c.args.sig.now c.args.agent (type_at c.args.sig.now c.args.agent) (word c.args.text.now c.args.name) (place_at c.args.text.now c.args.name.start) c.requires.owner c.in-Some.site (there (site_names c.args.sig.now c.args.agent) c.word-word.result.now (word c.args.text.now c.args.name) c.in-Some.site c.word-word.ensures c.in-Some.ensures))

pub returns-in-Uses-clause-number : goal.returns-in-Uses-clause-number
returns-in-Uses-clause-number c = record {
  owner = c.requires.owner;
  named = there (site_names c.args.sig.now c.args.agent) c.word-word.result.now (word c.args.text.now c.args.name) c.in-Some.site c.word-word.ensures c.in-Some.ensures;
}

pub add_site-requires-clause-owner : goal.add_site-requires-clause-owner
add_site-requires-clause-owner c = type_within c.args.sig.now c.args.agent (type_at c.args.sig.now c.args.agent) c.requires.owner.named
