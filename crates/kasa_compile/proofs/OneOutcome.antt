-- A text has one outcome: each of the steps from it to its model gives one.
use Rattle.std.proofs.Common.{◌≡◌, ℕ, List, Result, Ok, Err, refl, sym, ap, ◌∙◌, subst}
use Rattle.kasa_graph.specs.Signature.{TypeEntry}
use Rattle.kasa_syntax.specs.declared.tokens.Token.{Token}
use Rattle.kasa_syntax.specs.declared.decls.Decl.{Decl}
use Rattle.kasa_lexer.specs.Tokens.{IsOutcome as IsLexed}
use Rattle.kasa_lexer.specs.declared.LexFault.{LexFault}
use Rattle.kasa_parser.specs.Parses.{IsOutcome as IsParsed}
use Rattle.kasa_parser.specs.declared.ParseFault.{ParseFault}
use Rattle.kasa_sig.specs.Outcome.{signature_of}
use Rattle.kasa_sig.specs.declared.fault.SigFault.{SigFault}
use Rattle.kasa_rules.specs.declared.model.Model.{Model}
use Rattle.kasa_compile.specs.declared.fault.CompileFault.{CompileFault}
use Rattle.kasa_compile.specs.declared.fault.ModelFault.{ModelFault}
use Rattle.kasa_compile.specs.declared.fault.ModelFault.TheVariants as fault
use Rattle.kasa_compile.specs.Model.{model_of, IsOutcomeOf}

-- what the steps behind each one make of its outcome
abbrev of_model : Result Model CompileFault → Result Model ModelFault
of_model (Ok model) = Ok model
of_model (Err f) = Err (fault.Compile f)

abbrev of_signature : List ℕ → List Decl → Result (List TypeEntry) SigFault → Result Model ModelFault
of_signature text decls (Ok sig) = of_model (model_of text sig decls)
of_signature text decls (Err f) = Err (fault.Sig f)

abbrev of_tree : List ℕ → Result (List Decl) ParseFault → Result Model ModelFault
of_tree text (Ok decls) = of_signature text decls (signature_of text decls)
of_tree text (Err f) = Err (fault.Parse f)

abbrev OfTokens : List ℕ → Result (List Token) LexFault → Result Model ModelFault → Type 0
OfTokens text (Ok tokens) r = (tree : Result (List Decl) ParseFault) × IsParsed text tokens tree × (r ≡ of_tree text tree)
OfTokens text (Err f) r = r ≡ Err (fault.Lex f)

abbrev InSteps : List ℕ → Result Model ModelFault → Type 0
InSteps text r = (tokens : Result (List Token) LexFault) × IsLexed text tokens × OfTokens text tokens r

in_steps : (text : List ℕ) (r : Result Model ModelFault) → IsOutcomeOf text r → InSteps text r
in_steps text (Ok model) is =
    let decls = is.decls in
    (Ok is.signed.tree.tokens, is.signed.tree.lexed, (Ok decls, is.signed.tree.parsed, sym (ap (of_signature text decls) is.signed.signed ∙ ap of_model is.said)))
in_steps text (Err (fault.Lex f)) is = (Err f, is, refl)
in_steps text (Err (fault.Parse f)) (tokens, lexed, parsed) = (Ok tokens, lexed, (Err f, parsed, refl))
in_steps text (Err (fault.Sig f)) (decls, tree, is) = (Ok tree.tokens, tree.lexed, (Ok decls, tree.parsed, sym (ap (of_signature text decls) is)))
in_steps text (Err (fault.Compile f)) (decls, sig, signed, is) =
    (Ok signed.tree.tokens, signed.tree.lexed, (Ok decls, signed.tree.parsed, sym (ap (of_signature text decls) signed.signed ∙ ap of_model is)))
in_steps text (Err fault.NoMemory) is = absurd is

of_tokens_once : (text : List ℕ) (tokens : Result (List Token) LexFault) (x y : Result Model ModelFault) → OfTokens text tokens x → OfTokens text tokens y → x ≡ y
of_tokens_once text (Ok tokens) x y (p, a, is) (q, b, at) = is ∙ ap (of_tree text) (b.only p a.parses) ∙ sym at
of_tokens_once text (Err f) x y is at = is ∙ sym at

steps_once : (text : List ℕ) (x y : Result Model ModelFault) → InSteps text x → InSteps text y → x ≡ y
steps_once text x y (p, a, more) (q, b, others) = of_tokens_once text q x y (subst (λ (r : Result (List Token) LexFault). OfTokens text r x) (b.only p a.lexes) more) others

pub one_outcome : (text : List ℕ) (x y : Result Model ModelFault) → IsOutcomeOf text x → IsOutcomeOf text y → x ≡ y
one_outcome text x y a b = steps_once text x y (in_steps text x a) (in_steps text y b)
