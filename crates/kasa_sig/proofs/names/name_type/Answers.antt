use Rattle.std.proofs.Common.{◌≡◌, ℕ, List, Some, Ok, ap, subst, sym, ◌∙◌, arith}
use Rattle.std.specs.Prelude.{slice_get}
use Rattle.kasa_syntax.specs.Place.{place_at}
use Rattle.kasa_graph.specs.Lists.{Has}
use Rattle.kasa_graph.specs.Signature.{TypeEntry, type_names, with_new_type}
use Rattle.kasa_sig.specs.declared.names.Source.TheVariants.{Declarations, Uses}
use Rattle.kasa_sig.specs.Mentions.{word}
use Rattle.kasa_sig.proofs.StepLemmas.{differ_in, step_type-again, step_type-full, step_type-new, new_type_named}
use Rattle.kasa_sig.proofs.names.name_type.Goals as goal

-- what was looked for is the word of the text
not_there : (sig : List TypeEntry) (looked named : List ℕ) → looked ≡ named → ¬ Has (type_names sig) looked → ¬ Has (type_names sig) named
not_there sig looked named e = subst (λ (w : List ℕ). ¬ Has (type_names sig) w) e

there : (sig : List TypeEntry) (looked named : List ℕ) (a : ℕ) → looked ≡ named → slice_get (type_names sig) a ≡ Some looked → slice_get (type_names sig) a ≡ Some named
there sig looked named a e at = at ∙ ap (λ w. Some w) e

made : (sig next : List TypeEntry) (looked named : List ℕ) → looked ≡ named → next ≡ with_new_type sig looked → next ≡ with_new_type sig named
made sig next looked named e h = h ∙ ap (with_new_type sig) e

pub returns-then-types-ge500-clause-err : goal.returns-then-types-ge500-clause-err
returns-then-types-ge500-clause-err c known =
    rw c.place_of.ensures (step_type-full c.args.source c.args.sig.now (word c.args.text.now c.args.name) (place_at c.args.text.now c.args.name.start) (not_there _ _ _ c.word-word.ensures c.in_default.ensures) (omega (arith, c.types-types.ensures.count)))

pub returns-in_default-clause-ok : goal.returns-in_default-clause-ok
returns-in_default-clause-ok c =
    step_type-new c.args.source c.args.sig.now (word c.args.text.now c.args.name) (place_at c.args.text.now c.args.name.start) (not_there _ _ _ c.word-word.ensures c.in_default.ensures) (omega (arith, c.types-types.ensures.count))
    ∙ ap (λ s. Ok s) (sym (made c.args.sig.now c.add_type.new.self c.word-word.result.now (word c.args.text.now c.args.name) c.word-word.ensures c.in_ok-add_type.ensures.added))

pub returns-in_default-clause-number : goal.returns-in_default-clause-number
returns-in_default-clause-number c =
    rw (made c.args.sig.now c.add_type.new.self c.word-word.result.now (word c.args.text.now c.args.name) c.word-word.ensures c.in_ok-add_type.ensures.added)
    (new_type_named c.args.sig.now (word c.args.text.now c.args.name) c.in_ok-add_type.field-0 (differ_in c.args.sig.now c.types-types.ensures.valid) (not_there _ _ _ c.word-word.ensures c.in_default.ensures) c.in_ok-add_type.ensures.number)

pub returns-in-Declarations-clause-err : goal.returns-in-Declarations-clause-err
returns-in-Declarations-clause-err c known =
    rw (c.in-Declarations.is, c.place_of-in-Declarations.ensures) (step_type-again Declarations c.args.sig.now (word c.args.text.now c.args.name) (place_at c.args.text.now c.args.name.start) c.in-Some.agent (there c.args.sig.now c.word-word.result.now (word c.args.text.now c.args.name) c.in-Some.agent c.word-word.ensures c.in-Some.ensures))

pub returns-in-Uses-clause-ok : goal.returns-in-Uses-clause-ok
returns-in-Uses-clause-ok c =
    rw c.in-Uses.is (step_type-again Uses c.args.sig.now (word c.args.text.now c.args.name) (place_at c.args.text.now c.args.name.start) c.in-Some.agent (there c.args.sig.now c.word-word.result.now (word c.args.text.now c.args.name) c.in-Some.agent c.word-word.ensures c.in-Some.ensures))

pub returns-in-Uses-clause-number : goal.returns-in-Uses-clause-number
returns-in-Uses-clause-number c = record {
  differ = differ_in c.args.sig.now c.types-types.ensures.valid;
  named = there c.args.sig.now c.word-word.result.now (word c.args.text.now c.args.name) c.in-Some.agent c.word-word.ensures c.in-Some.ensures;
}
