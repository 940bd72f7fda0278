-- What the causes that don't come show of an init and of a rule.
use Rattle.std.proofs.Common.{◌≡◌, ◌≤◌, ◌<◌, ℕ, List, [], ◌∷◌, ◌++◌, length, map, Bool, true, false, nat_le, Option, Some, None, refl, sym, ap, ◌∙◌, arith, Result, Ok, Err, IfOk, IfErr}
use Rattle.std.specs.Prelude.{option_map}
use Rattle.kasa_graph.proofs.SignatureLemmas.{length-map}
use Rattle.std.specs.List.{AllByRecursion}
use Rattle.std.proofs.lemmas.Bool.Decides.{nat_tests}
use Rattle.kasa_graph.specs.Signature.{TypeEntry}
use Rattle.kasa_syntax.specs.Place.{place_at}
use Rattle.kasa_syntax.specs.declared.agents.AgentText.{AgentText}
use Rattle.kasa_syntax.specs.declared.decls.InitDecl.{InitDecl}
use Rattle.kasa_syntax.specs.declared.decls.RuleText.{RuleText}
use Rattle.kasa_syntax.specs.declared.decls.Form.{Form}
use Rattle.kasa_compile.specs.declared.fault.CompileFault.{CompileFault}
use Rattle.kasa_compile.specs.declared.fault.CompileFault.TheVariants.{HalfBond, BadRight, TooManyRules}
use Rattle.kasa_compile.specs.declared.causes.Tried.{Tried}
use Rattle.kasa_compile.specs.declared.resolved.Side.TheVariants.{Left, Right}
use Rattle.kasa_compile.specs.declared.said.Pair.{Pair}
use Rattle.kasa_compile.specs.Said.{agent_on, pairs_of, turned}
use Rattle.kasa_compile.specs.Labels.{agents_on}
use Rattle.kasa_compile.specs.Sides.{sides_of}
use Rattle.kasa_compile.specs.Valid.{AreSaid, AreJoined, AreSides}
use Rattle.kasa_compile.specs.Causes.{Cause, or_else, first_of, head, odd_on, thirteenth, if_past, half_bonds, bad_rights, name_causes, init_causes, form_causes, sides_causes, limit_causes, rule_causes, reverse_causes, agents_of_form}
use Rattle.kasa_compile.specs.Compiling.{AreTried}
use Rattle.kasa_compile.proofs.CauseLemmas.{none_found, none_first, some_first, passed, no_cause}
use Rattle.kasa_compile.proofs.SaidLemmas.{AreSaid-on}
use Rattle.kasa_compile.proofs.JoinLemmas.{AreJoined-on}
use Rattle.kasa_compile.proofs.ValidLemmas.{IsKnown, AreSides-forward, AreSides-reverse, few-behind, neither}

-- where no cause comes, none has a first place
pub none_at : (text : List ℕ) (causes : List Cause) → None ≡ first_of text causes → AllByRecursion (λ (c : Cause). c.first ≡ None) causes
unfolding first_of
none_at text [] none = tt
none_at text (c ∷ causes) none = by c.first refl none (none_at text causes)
  where
    by : (o : Option ℕ) → o ≡ c.first → None ≡ or_else (option_map (λ n. c.fault (place_at text n)) o) (first_of text causes) → (None ≡ first_of text causes → AllByRecursion (λ (d : Cause). d.first ≡ None) causes)
        → (c.first ≡ None) × AllByRecursion (λ (d : Cause). d.first ≡ None) causes
    by None is none later = (sym is, later none)
    by (Some o) is none later = absurd (let different : ⊥ = cc in different)

nothing : (xs : List ℕ) → head xs ≡ None → xs ≡ []
nothing xs none = none_found xs (sym none)

pub not_past : (most count start : ℕ) → if_past (nat_le most count) start ≡ None → count < most
not_past most count start none = by (nat_le most count) refl none
  where
    by : (b : Bool) → b ≡ nat_le most count → if_past b start ≡ None → count < most
    by true e none = absurd (let different : ⊥ = cc in different)
    by false e none = grind (arith, nat_tests)

-- ---- inits

pub record IsFaultless (text : List ℕ) (sig : List TypeEntry) (count : ℕ) (agents : List AgentText) : Type 0 where
  pub said : AreSaid sig (map (agent_on Left text sig) agents)
  pub joined : AreJoined (map (agent_on Left text sig) agents)
  pub few : length (map (agent_on Left text sig) agents) ≤ 200
  pub first : count < 1000

pub init_faultless : (text : List ℕ) (sig : List TypeEntry) (count : ℕ) (d : InitDecl) → None ≡ first_of text (init_causes text sig count d) → IsFaultless text sig count d.agents
init_faultless text sig count d none =
    let (types, (sites, (states, (twice, (labels, (partial, (past, (over, done)))))))) = none_at text (init_causes text sig count d) none in
    let few = few-behind 200 d.agents past in
    record {
      said = AreSaid-on text sig Left d.agents (nothing _ types) (nothing _ sites) (nothing _ states) (nothing _ twice);
      joined = AreJoined-on text sig Left d.agents (nothing _ labels);
      few = omega (arith, few, length-map (agent_on Left text sig) d.agents);
      first = not_past 1000 count d.start.start over;
    }

-- ---- rules

pub form_known : (text : List ℕ) (sig : List TypeEntry) (form : Form) → None ≡ first_of text (name_causes text sig (agents_of_form form) ++ form_causes form (pairs_of text sig form)) → IsKnown text sig form
form_known text sig form none =
    let (types, (sites, (states, (twice, (labels, (same, done)))))) = none_at text (name_causes text sig (agents_of_form form) ++ form_causes form (pairs_of text sig form)) none in
    let even = neither (odd_on Left (agents_on Left form)) (odd_on Right (agents_on Right form)) labels in
    record { types = nothing _ types; sites = nothing _ sites; states = nothing _ states; once = nothing _ twice; left_even = nothing _ even.0; right_even = nothing _ even.1; same = nothing _ same }

pub sides_valid : (text : List ℕ) (sig : List TypeEntry) (form : Form) → None ≡ first_of text (name_causes text sig (agents_of_form form) ++ form_causes form (pairs_of text sig form))
    → AreSides sig (sides_of (pairs_of text sig form)) × AreSides sig (sides_of (turned (pairs_of text sig form)))
sides_valid text sig form none =
    let known = form_known text sig form none in
    (AreSides-forward text sig form known, AreSides-reverse text sig form known)

pub record IsFaultlessRule (text : List ℕ) (sig : List TypeEntry) (count : ℕ) (form : Form) : Type 0 where
  pub reverse : AreSides sig (sides_of (turned (pairs_of text sig form)))
  pub past : thirteenth form ≡ None
  pub first : count < 2000

pub rule_faultless : (text : List ℕ) (sig : List TypeEntry) (count : ℕ) (d : RuleText) → None ≡ first_of text (rule_causes text sig count d) → IsFaultlessRule text sig count d.form
rule_faultless text sig count d none =
    let (types, (sites, (states, (twice, (labels, (same, (half, (bad, (past, (over, done)))))))))) = none_at text (rule_causes text sig count d) none in
    let even = neither (odd_on Left (agents_on Left d.form)) (odd_on Right (agents_on Right d.form)) labels in
    let known : IsKnown text sig d.form = record { types = nothing _ types; sites = nothing _ sites; states = nothing _ states; once = nothing _ twice; left_even = nothing _ even.0; right_even = nothing _ even.1; same = nothing _ same } in
    record { reverse = AreSides-reverse text sig d.form known; past = past; first = not_past 2000 count d.start.start over }

-- ---- the causes of a rule, part by part

-- a fault of the sides of a rule, before which none comes
pub forward_fault : {E : Type 0} (text : List ℕ) (sig : List TypeEntry) (d : RuleText) (r : Result E CompileFault) (unsaid : CompileFault → Type 0)
    → None ≡ first_of text (name_causes text sig (agents_of_form d.form) ++ form_causes d.form (pairs_of text sig d.form))
    → IfErr r (λ f. unsaid f → first_of text (sides_causes (pairs_of text sig d.form)) ≡ Some f)
    → IfErr r (λ f. unsaid f → (count : ℕ) → first_of text (rule_causes text sig count d) ≡ Some f)
forward_fault text sig d (Ok x) unsaid none later = later
forward_fault text sig d (Err f) unsaid none later = λ said count.
    let before = name_causes text sig (agents_of_form d.form) ++ form_causes d.form (pairs_of text sig d.form) in
    let sides = sides_causes (pairs_of text sig d.form) in
    sym (some_first text (before ++ sides) (limit_causes d.form count d.start.start) f (sym (none_first text before sides none ∙ later said)))

pub reverse_fault : {E : Type 0} (text : List ℕ) (sig : List TypeEntry) (d : RuleText) (r : Result E CompileFault) (unsaid : CompileFault → Type 0)
    → IfErr r (λ f. unsaid f → first_of text (sides_causes (turned (pairs_of text sig d.form))) ≡ Some f)
    → IfErr r (λ f. unsaid f → (count : ℕ) → first_of text (reverse_causes text sig count d) ≡ Some f)
reverse_fault text sig d (Ok x) unsaid later = later
reverse_fault text sig d (Err f) unsaid later = λ said count.
    sym (some_first text (sides_causes (turned (pairs_of text sig d.form))) (record { fault = TooManyRules; first = if_past (nat_le 2000 count) d.start.start } ∷ []) f (sym (later said)))

-- where the sides show no fault
pub tried_none : (text : List ℕ) (pairs : List Pair) (t : Tried) → AreTried pairs t → None ≡ first_of text (sides_causes pairs)
tried_none text pairs t are =
    passed text HalfBond (head (half_bonds (sides_of pairs))) (record { fault = BadRight; first = head (bad_rights pairs) } ∷ []) None None refl (ap head (sym (ap half_bonds (sym are.sides) ∙ are.whole)))
    (passed text BadRight (head (bad_rights pairs)) [] None None refl (ap head (sym are.good)) (no_cause text))

pub tried_after : {E : Type 0} (text : List ℕ) (causes : List Cause) (pairs : List Pair) (r : Result Tried E) → None ≡ first_of text causes
    → IfOk r (λ t. AreTried pairs t) → IfOk r (λ t. None ≡ first_of text (causes ++ sides_causes pairs))
tried_after text causes pairs (Ok t) none are = tried_none text pairs t are ∙ sym (none_first text causes (sides_causes pairs) none)
tried_after text causes pairs (Err f) none are = are
