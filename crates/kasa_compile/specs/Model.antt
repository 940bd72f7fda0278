-- The model of a text, or the fault for which it has none.
use Rattle.std.specs.Prelude.{◌≡◌, ℕ, ◌+◌, ◌-◌, Bool, true, false, List, [], ◌∷◌, ◌++◌, Option, Some, None, Result, Ok, Err, length, map, codes, if◌then◌else◌}
use Rattle.kasa_graph.specs.declared.mixture.Agent.{Agent as Cell}
use Rattle.kasa_graph.specs.Signature.{TypeEntry}
use Rattle.kasa_syntax.specs.declared.tokens.Span.{Span}
use Rattle.kasa_syntax.specs.declared.tokens.Token.{Token}
use Rattle.kasa_syntax.specs.declared.decls.InitDecl.{InitDecl}
use Rattle.kasa_syntax.specs.declared.decls.RuleText.{RuleText}
use Rattle.kasa_syntax.specs.declared.decls.Form.{Form}
use Rattle.kasa_syntax.specs.declared.decls.Form.TheVariants.{Edit, Arrow}
use Rattle.kasa_syntax.specs.declared.decls.Decl.{Decl}
use Rattle.kasa_syntax.specs.declared.decls.Decl.TheVariants.{Agent, Init, Add, Rule}
use Rattle.kasa_lexer.specs.Tokens.{IsOutcome as IsLexed}
use Rattle.kasa_parser.specs.Parses.{IsOutcome as IsParsed}
use Rattle.kasa_sig.specs.Mentions.{word}
use Rattle.kasa_sig.specs.Outcome.{signature_of}
use Rattle.kasa_rules.specs.declared.model.Model.{Model}
use Rattle.kasa_rules.specs.Rule.{RuleParts}
use Rattle.kasa_compile.specs.declared.said.AgentSaid.{AgentSaid}
use Rattle.kasa_compile.specs.declared.fault.CompileFault.{CompileFault}
use Rattle.kasa_compile.specs.declared.fault.ModelFault.{ModelFault}
use Rattle.kasa_compile.specs.declared.fault.ModelFault.TheVariants as fault
use Rattle.kasa_compile.specs.declared.resolved.Side.TheVariants.{Left}
use Rattle.kasa_compile.specs.Said.{agent_on, pairs_of, turned}
use Rattle.kasa_compile.specs.Sides.{sides_of}
use Rattle.kasa_compile.specs.Complex.{complex_of}
use Rattle.kasa_compile.specs.Rule.{rule_of}
use Rattle.kasa_compile.specs.Causes.{first_of, init_causes, rule_causes, reverse_causes}

-- ---- declarations

-- the agents of a declared complex
abbrev pub complex_said : List ℕ → List TypeEntry → InitDecl → List AgentSaid
complex_said text sig d = map (agent_on Left text sig) d.agents

-- a rule's name without its quotes, empty where there is none
abbrev pub name_of : List ℕ → Option Span → List ℕ
name_of text None = []
name_of text (Some s) = word text (record { start = s.start + 1; end = s.end - 1 })

-- the reverse rule's name
abbrev pub reverse_name : List ℕ → List ℕ
reverse_name [] = []
reverse_name (b ∷ name) = b ∷ name ++ codes "_op"

-- `<->` gives the rule from left to right and then the rule from right to left
abbrev pub is_both : Form → Bool
is_both (Edit items) = false
is_both (Arrow left right both) = both

abbrev pub forward_rule : List ℕ → List TypeEntry → RuleText → RuleParts
forward_rule text sig d = rule_of sig (name_of text d.name) (sides_of (pairs_of text sig d.form))

abbrev pub reverse_rule : List ℕ → List TypeEntry → RuleText → RuleParts
reverse_rule text sig d = rule_of sig (reverse_name (name_of text d.name)) (sides_of (turned (pairs_of text sig d.form)))

-- ---- the model of declarations

-- a model with one declared complex more; the number of an addition counts inits and additions together, from 1
abbrev pub with_complex : Model → Bool → List (Option Cell) → Model
with_complex m is_addition complex = record {
  sig = m.sig;
  inits = m.inits ++ complex ∷ [];
  added = if is_addition then m.added ++ (length m.inits + 1) ∷ [] else m.added;
  rules = m.rules;
}

-- with one rule more
abbrev pub with_rule : Model → RuleParts → Model
with_rule m rule = record { sig = m.sig; inits = m.inits; added = m.added; rules = m.rules ++ rule ∷ [] }

-- the first of some causes, or else a model
abbrev pub unless_fault : Option CompileFault → Model → Result Model CompileFault
unless_fault None m = Ok m
unless_fault (Some fault) m = Err fault

abbrev pub if_no_fault : Result Model CompileFault → (Model → Result Model CompileFault) → Result Model CompileFault
if_no_fault (Ok m) later = later m
if_no_fault (Err fault) later = Err fault

-- what a declared complex makes of the model before it, and what the rules of a declaration do: the rule from left to
-- right, and then, for `<->`, the rule from right to left
abbrev pub try_complex : List ℕ → Bool → InitDecl → Model → Result Model CompileFault
try_complex text is_addition d m =
    unless_fault (first_of text (init_causes text m.sig (length m.inits) d))
    (with_complex m is_addition (complex_of m.sig (complex_said text m.sig d)))

abbrev pub try_forward : List ℕ → RuleText → Model → Result Model CompileFault
try_forward text d m =
    unless_fault (first_of text (rule_causes text m.sig (length m.rules) d)) (with_rule m (forward_rule text m.sig d))

abbrev pub try_reverse : List ℕ → RuleText → Model → Result Model CompileFault
try_reverse text d m =
    unless_fault (first_of text (reverse_causes text m.sig (length m.rules) d)) (with_rule m (reverse_rule text m.sig d))

abbrev pub try_rules : List ℕ → RuleText → Model → Result Model CompileFault
try_rules text d m = if_no_fault (try_forward text d m) (if is_both d.form then try_reverse text d else Ok)

-- what a declaration does
abbrev pub try_decl : List ℕ → Decl → Model → Result Model CompileFault
try_decl text (Agent d) m = Ok m
try_decl text (Init d) m = try_complex text false d m
try_decl text (Add d) m = try_complex text true d m
try_decl text (Rule d) m = try_rules text d m

-- what declarations do, in text order
unfoldable pub try_decls : List ℕ → List Decl → Model → Result Model CompileFault
try_decls text [] m = Ok m
try_decls text (d ∷ decls) m = if_no_fault (try_decl text d m) (try_decls text decls)

-- the model of a signature alone, and what declarations make of it: the model that they say, or their first fault
abbrev pub only_signature : List TypeEntry → Model
only_signature sig = record { sig = sig; inits = []; added = []; rules = [] }

abbrev pub model_of : List ℕ → List TypeEntry → List Decl → Result Model CompileFault
model_of text sig decls = try_decls text decls (only_signature sig)

-- the tokens of a text and its declarations
pub record IsTree (text : List ℕ) (decls : List Decl) : Type 0 where
  pub tokens : List Token
  pub lexed : IsLexed text (Ok tokens)
  pub parsed : IsParsed text tokens (Ok decls)

-- the same with its signature
pub record IsSigned (text : List ℕ) (decls : List Decl) (sig : List TypeEntry) : Type 0 where
  pub tree : IsTree text decls
  pub signed : signature_of text decls ≡ Ok sig

-- the model of a text
pub record IsModelOf (text : List ℕ) (model : Model) : Type 0 where
  pub decls : List Decl
  pub sig : List TypeEntry
  pub signed : IsSigned text decls sig
  pub said : model_of text sig decls ≡ Ok model

-- a text has no model for this fault, the first one: it is lexed, then parsed, then its signature is built, and then its
-- inits, additions and rules are compiled in text order
abbrev pub IsFaultOf : List ℕ → ModelFault → Type 0
IsFaultOf text (fault.Lex f) = IsLexed text (Err f)
IsFaultOf text (fault.Parse f) = (tokens : List Token) × IsLexed text (Ok tokens) × IsParsed text tokens (Err f)
IsFaultOf text (fault.Sig f) = (decls : List Decl) × IsTree text decls × (signature_of text decls ≡ Err f)
IsFaultOf text (fault.Compile f) = (decls : List Decl) × (sig : List TypeEntry) × IsSigned text decls sig × (model_of text sig decls ≡ Err f)
IsFaultOf text fault.NoMemory = ⊥

-- what a text has: a model, or the fault for which it has none
abbrev pub IsOutcomeOf : List ℕ → Result Model ModelFault → Type 0
IsOutcomeOf text (Ok model) = IsModelOf text model
IsOutcomeOf text (Err fault) = IsFaultOf text fault
