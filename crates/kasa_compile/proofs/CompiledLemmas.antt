-- What is known after one more declaration has been compiled.
use Rattle.std.proofs.Common.{◌≡◌, ◌≤◌, ◌<◌, ◌+◌, ℕ, zero, suc, Bool, true, false, if◌then◌else◌, List, [], ◌∷◌, ◌++◌, length, drop, Result, Ok, Err, Option, Some, None, IsSome, slice_get, slice_index, get_or, inl, inr, refl, sym, ap, ◌∙◌, subst, arith, add-one}
use Rattle.std.specs.List.Sorted.{IsStrictlyIncreasing}
use Rattle.std.proofs.Math.Seq.{drop-cons}
use Rattle.std.proofs.lemmas.List.{drop_all}
use Rattle.kasa_lists.proofs.Elements.{some_below, length-push, slice_get-last, pushed_or}
use Rattle.kasa_graph.specs.declared.mixture.Agent.{Agent as Cell}
use Rattle.kasa_graph.specs.Lists.{Has}
use Rattle.kasa_graph.specs.Signature.{TypeEntry}
use Rattle.kasa_syntax.specs.declared.decls.RuleText.{RuleText}
use Rattle.kasa_syntax.specs.declared.decls.Decl.{Decl}
use Rattle.kasa_rules.specs.declared.model.Model.{Model}
use Rattle.kasa_rules.specs.Rule.{RuleParts}
use Rattle.kasa_rules.specs.Reached.{declared_complex}
use Rattle.kasa_compile.specs.declared.fault.CompileFault.{CompileFault}
use Rattle.kasa_compile.specs.Model.{is_both, forward_rule, reverse_rule, with_complex, with_rule, unless_fault, if_no_fault, only_signature, try_forward, try_reverse, try_rules, try_decl, try_decls}
use Rattle.kasa_compile.specs.Causes.{first_of, rule_causes, reverse_causes}
use Rattle.kasa_compile.specs.Compiling.{IsSmallComplex, IsSmallRule, IsWhole}

-- ---- the numbers of additions

rising-push : (xs : List ℕ) (n : ℕ) → ((k : ℕ) → suc k < length xs → slice_index xs k < slice_index xs (suc k)) → ((x : ℕ) → Has xs x → x < n)
    → (k : ℕ) → suc k < length (xs ++ n ∷ []) → slice_index (xs ++ n ∷ []) k < slice_index (xs ++ n ∷ []) (suc k)
rising-push [] n rising below k inside = absurd (omega arith)
rising-push (x ∷ []) n rising below zero inside = below x (0, refl)
rising-push (x ∷ []) n rising below (suc k) inside = absurd (omega arith)
rising-push (x ∷ y ∷ xs) n rising below zero inside = rising 0 (omega arith)
rising-push (x ∷ y ∷ xs) n rising below (suc k) inside =
    rising-push (y ∷ xs) n (λ i less. rising (suc i) (omega arith)) (λ z has. below z (suc has.0, has.1)) k (omega arith)

IsStrictlyIncreasing-push : (xs : List ℕ) (n : ℕ) → IsStrictlyIncreasing xs → ((x : ℕ) → Has xs x → x < n) → IsStrictlyIncreasing (xs ++ n ∷ [])
IsStrictlyIncreasing-push xs n rising below k inside =
    rw add-one (rising-push xs n (λ i less. subst (λ j. slice_index xs i < slice_index xs j) (add-one i) (rising i (omega arith))) below k (omega arith))

-- a number that has its complex is at most that of the last one
declared-within : (m : Model) (n : ℕ) → IsSome (declared_complex m n) → n ≤ length m.inits
declared-within m zero some = omega arith
declared-within m (suc k) some = let less = (some_below m.inits k).1 some in omega (arith, less)

-- it keeps it
some-pushed : {X : Type 0} (xs : List X) (x : X) (k : ℕ) → IsSome (slice_get xs k) → IsSome (slice_get (xs ++ x ∷ []) k)
some-pushed [] x k some = absurd (let different : ⊥ = cc in different)
some-pushed (y ∷ xs) x zero some = refl
some-pushed (y ∷ xs) x (suc k) some = some-pushed xs x k some

-- ---- one more complex, and one more rule

module _ (m : Model) (complex : List (Option Cell)) (before : IsWhole m) (few : length m.inits < 1000) (small : IsSmallComplex m.sig complex) where
  declared-more : (n : ℕ) → Has m.added n → IsSome (declared_complex (with_complex m false complex) n)
  declared-more n has = by n (before.0.added n has)
    where
      by : (k : ℕ) → IsSome (declared_complex m k) → IsSome (declared_complex (with_complex m false complex) k)
      by zero some = some
      by (suc k) some = some-pushed m.inits complex k some

  pub model-init : IsWhole (with_complex m false complex)
  model-init = (
    record {
      inits = λ i x is. elim (pushed_or m.inits complex x i is) [ inl old ↦ before.0.inits i x old | inr new ↦ rw new small.over ];
      rules = before.0.rules;
      ascending = before.0.ascending;
      added = declared-more;
    },
    record {
      few_inits = omega (arith, few, length-push m.inits complex);
      few_cells = λ i x is. elim (pushed_or m.inits complex x i is) [ inl old ↦ before.1.few_cells i x old | inr new ↦ rw new small.few ];
      few_rules = before.1.few_rules;
      few_agents = before.1.few_agents;
    },
  )

  pub model-addition : IsWhole (with_complex m true complex)
  model-addition = (
    record {
      inits = model-init.0.inits;
      rules = before.0.rules;
      ascending = IsStrictlyIncreasing-push m.added (length m.inits + 1) before.0.ascending (λ n has. let most = declared-within m n (before.0.added n has) in omega (arith, most));
      added = λ n has. elim (pushed_or m.added (length m.inits + 1) n has.0 has.1) [
        | inl old ↦ declared-more n (has.0, old)
        | inr new ↦ rw (new, add-one, slice_get-last m.inits complex (length m.inits) refl) refl
      ];
    },
    record { few_inits = model-init.1.few_inits; few_cells = model-init.1.few_cells; few_rules = before.1.few_rules; few_agents = before.1.few_agents },
  )

pub model-complex : (m : Model) (is_addition : Bool) (complex : List (Option Cell)) → IsWhole m → length m.inits < 1000 → IsSmallComplex m.sig complex
    → IsWhole (with_complex m is_addition complex)
model-complex m false complex before few small = model-init m complex before few small
model-complex m true complex before few small = model-addition m complex before few small

pub model-rule : (m : Model) (r : RuleParts) → IsWhole m → length m.rules < 2000 → IsSmallRule m.sig r → IsWhole (with_rule m r)
model-rule m r before few small = (
  record {
    inits = before.0.inits;
    rules = λ k q is. elim (pushed_or m.rules r q k is) [ inl old ↦ before.0.rules k q old | inr new ↦ rw new small.over ];
    ascending = before.0.ascending;
    added = before.0.added;
  },
  record {
    few_inits = before.1.few_inits;
    few_cells = before.1.few_cells;
    few_rules = omega (arith, few, length-push m.rules r);
    few_agents = λ k q is. elim (pushed_or m.rules r q k is) [ inl old ↦ before.1.few_agents k q old | inr new ↦ rw new small.few ];
  },
)

pub whole-signature : (sig : List TypeEntry) → IsWhole (only_signature sig)
whole-signature sig = (
  record {
    inits = λ i x is. absurd (let different : ⊥ = cc in different);
    rules = λ k r is. absurd (let different : ⊥ = cc in different);
    ascending = λ k inside. absurd (omega arith);
    added = λ n has. let is = has.1 in absurd (let different : ⊥ = cc in different);
  },
  record {
    few_inits = omega arith;
    few_cells = λ i x is. absurd (let different : ⊥ = cc in different);
    few_rules = omega arith;
    few_agents = λ k r is. absurd (let different : ⊥ = cc in different);
  },
)

-- ---- the rules of a declaration

module _ (text : List ℕ) (d : RuleText) (m : Model) where
  pub rule-refused : (f : CompileFault) → try_forward text d m ≡ Err f → try_rules text d m ≡ Err f
  rule-refused f is = ap (λ r. if_no_fault r (if is_both d.form then try_reverse text d else Ok)) is

  pub forward-refused : (n : ℕ) (f : CompileFault) → n ≡ length m.rules → first_of text (rule_causes text m.sig n d) ≡ Some f → try_forward text d m ≡ Err f
  forward-refused n f count some =
      ap (λ o. unless_fault o (with_rule m (forward_rule text m.sig d))) (subst (λ k. first_of text (rule_causes text m.sig k d) ≡ Some f) count some)

  pub forward-tried : (n : ℕ) (r : RuleParts) (next : Model) → n ≡ length m.rules → first_of text (rule_causes text m.sig n d) ≡ None → r ≡ forward_rule text m.sig d → next ≡ with_rule m r → try_forward text d m ≡ Ok next
  forward-tried n r next count none is pushed =
      ap (λ o. unless_fault o (with_rule m (forward_rule text m.sig d))) (subst (λ k. first_of text (rule_causes text m.sig k d) ≡ None) count none)
      ∙ ap (λ (q : RuleParts). Ok (with_rule m q)) (sym is) ∙ ap (λ (k : Model). Ok k) (sym pushed)

  pub reverse-refused : (n : ℕ) (f : CompileFault) → n ≡ length m.rules → first_of text (reverse_causes text m.sig n d) ≡ Some f → try_reverse text d m ≡ Err f
  reverse-refused n f count some =
      ap (λ o. unless_fault o (with_rule m (reverse_rule text m.sig d))) (subst (λ k. first_of text (reverse_causes text m.sig k d) ≡ Some f) count some)

  pub reverse-tried : (n : ℕ) (r : RuleParts) (next : Model) → n ≡ length m.rules → first_of text (reverse_causes text m.sig n d) ≡ None → r ≡ reverse_rule text m.sig d → next ≡ with_rule m r → try_reverse text d m ≡ Ok next
  reverse-tried n r next count none is pushed =
      ap (λ o. unless_fault o (with_rule m (reverse_rule text m.sig d))) (subst (λ k. first_of text (reverse_causes text m.sig k d) ≡ None) count none)
      ∙ ap (λ (q : RuleParts). Ok (with_rule m q)) (sym is) ∙ ap (λ (k : Model). Ok k) (sym pushed)

  pub rule-behind : (next : Model) (b : Bool) → try_forward text d m ≡ Ok next → is_both d.form ≡ b → try_rules text d m ≡ (if b then try_reverse text d else Ok) next
  rule-behind next b one both = ap (λ r. if_no_fault r (if is_both d.form then try_reverse text d else Ok)) one ∙ ap (λ (b : Bool). (if b then try_reverse text d else Ok) next) both

-- ---- all declarations

-- one declaration and those behind it
pub next_decl : (decls : List Decl) (i : ℕ) (d x : Decl) → i < length decls → d ≡ get_or decls i x → drop i decls ≡ d ∷ drop (i + 1) decls
next_decl decls i d x less is = rw (add-one, is) (drop-cons decls i x less)

pub try_decls-next : (text : List ℕ) (d : Decl) (decls rest : List Decl) (m : Model) (all r : Result Model CompileFault) → rest ≡ d ∷ decls → all ≡ try_decls text rest m → try_decl text d m ≡ r → all ≡ if_no_fault r (try_decls text decls)
unfolding try_decls
try_decls-next text d decls rest m all r split is one = is ∙ ap (λ xs. try_decls text xs m) split ∙ ap (λ o. if_no_fault o (try_decls text decls)) one

pub try_decls-none : (text : List ℕ) (decls : List Decl) (i : ℕ) (m : Model) → length decls ≤ i → try_decls text (drop i decls) m ≡ Ok m
unfolding try_decls
try_decls-none text decls i m whole = ap (λ xs. try_decls text xs m) (drop_all i decls whole)
