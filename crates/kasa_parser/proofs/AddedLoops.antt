-- Reading additions in loops.
use Rattle.std.proofs.Common.{◌≡◌, ◌≤◌, ◌<◌, ℕ, List, [], ◌∷◌, ◌++◌, length, map, true, false, refl, sym, ap, ◌∙◌, append_assoc, append-nil, arith, Err}
use Rattle.std.specs.List.{flat_map}
use Rattle.kasa_syntax.specs.declared.tokens.TokenKind.TheVariants.{Name, Percent, Dollar, Arrow, BothArrow, Symbol}
use Rattle.kasa_syntax.specs.declared.agents.AgentText.{AgentText}
use Rattle.kasa_syntax.specs.declared.decls.InitDecl.{InitDecl}
use Rattle.kasa_syntax.specs.declared.decls.Decl.{Decl}
use Rattle.kasa_parser.specs.declared.additions.EndedAgent.{EndedAgent}
use Rattle.kasa_parser.specs.declared.run.Run.TheVariants.{Mod}
use Rattle.kasa_parser.specs.Words.{Word, only, but, starts, past_comma}
use Rattle.kasa_parser.specs.Rules.{Outcome, got, stuck, behind, read_many, many, as_long_as, behind_comma}
use Rattle.kasa_parser.specs.Decls.{run_of, agent_follows, ended_agent, last_end, added, dollar_part, dollar_parts}
use Rattle.kasa_parser.specs.declared.reader.Stop.{Stop}
use Rattle.kasa_parser.specs.declared.reader.Stop.TheVariants.{NoMemory, Stuck}
use Rattle.kasa_parser.specs.Steps.{Gives, Adds, onto}
use Rattle.kasa_parser.proofs.RuleLaws.{by_kinds, any_most, one_begins, one_more, none_begins}
use Rattle.kasa_parser.proofs.Loops.{shorter, comma-read}
use Rattle.kasa_parser.proofs.DeclLaws.{next_ended-law, agents_follow, dollar_part-law}

-- ---- where a step stops, the one that it is a part of does

pub gives-stuck : {A B : Type 0} (o : Outcome A) (part : Outcome B) (e : Stop) (left : List Word) → ((last : List Word) → part ≡ stuck last → o ≡ stuck last) → Gives part (Err e) left → Gives o (Err e) left
gives-stuck o part NoMemory left stops g = tt
gives-stuck o part Stuck left stops g = stops left g

pub adds-stuck : (o part : Outcome (List Decl)) (before done new : List Decl) (e : Stop) (left : List Word) → ((last : List Word) → onto done part ≡ stuck last → onto before o ≡ stuck last) →
    Adds part done (Err e) new left → Adds o before (Err e) new left
adds-stuck o part before done new NoMemory left stops a = tt
adds-stuck o part before done new Stuck left stops a = stops left a

-- ---- a complex without parentheses

abbrev more_agents : List Word → Outcome (List EndedAgent)
more_agents ws = (as_long_as agent_follows (behind_comma ended_agent) (run_of Mod)).read ws

-- the addition, where some agents of its complex have been read, of which the last ended there, and these words are left
abbrev with_agents : ℕ → List AgentText → ℕ → List EndedAgent → List Word → Outcome InitDecl
with_agents start done end xs left = got (record {
  start = record { start = start; end = last_end end xs };
  agents = done ++ map (λ (y : EndedAgent). y.agent) xs;
}) left

abbrev pub added_from : ℕ → List AgentText → ℕ → List Word → Outcome InitDecl
added_from start done end ws = behind (more_agents ws) (with_agents start done end)

pub added-first : (start : ℕ) (ws left : List Word) (x : EndedAgent) → ended_agent.read ws ≡ got x left → (added start false).read ws ≡ added_from start (x.agent ∷ []) x.end left
added-first start ws left x e = rw e refl

-- what follows the elements, behind one more of them
closed-behind : (o : Outcome (List EndedAgent)) (x : EndedAgent) →
    behind (behind o (λ xs last. got (x ∷ xs) last)) (λ xs left. behind ((run_of Mod).read left) (λ none last. got xs last)) ≡
    behind (behind o (λ xs left. behind ((run_of Mod).read left) (λ none last. got xs last))) (λ xs last. got (x ∷ xs) last)
closed-behind (got xs left) x = by ((run_of Mod).read left)
  where
    by : (o : Outcome (Unit {0})) → behind o (λ none last. got (x ∷ xs) last) ≡ behind (behind o (λ none last. got xs last)) (λ xs last. got (x ∷ xs) last)
    by (got none last) = refl
    by (stuck last) = refl
closed-behind (stuck left) x = refl

more-next : (ws left : List Word) (x : EndedAgent) → agent_follows ws ≡ true → ended_agent.read (past_comma ws) ≡ got x left → more_agents ws ≡ behind (more_agents left) (λ xs last. got (x ∷ xs) last)
more-next ws left x e o =
    let read = comma-read ended_agent ws ∙ o in
    let less = shorter ws left x next_ended-law read in
    let m = one_more agent_follows agents_follow.none ws (length ws) e (omega arith) in
    let most : length left ≤ m.0 = omega (arith, m.1) in
    rw (m.1, one_begins agent_follows (behind_comma ended_agent).read ws left x m.0 e read, any_most (behind_comma ended_agent) (only (Symbol 44 ∷ Name ∷ [])) (only []) agent_follows agents_follow next_ended-law left m.0 most)
    (closed-behind (read_many agent_follows (behind_comma ended_agent).read (length left) left) x)

pub added-next : (start : ℕ) (done : List AgentText) (end : ℕ) (ws left : List Word) (x : EndedAgent) → agent_follows ws ≡ true → ended_agent.read (past_comma ws) ≡ got x left →
    added_from start done end ws ≡ added_from start (done ++ x.agent ∷ []) x.end left
added-next start done end ws left x e o = rw (more-next ws left x e o) (by (more_agents left))
  where
    by : (o : Outcome (List EndedAgent)) →
        behind (behind o (λ xs last. got (x ∷ xs) last)) (with_agents start done end) ≡ behind o (with_agents start (done ++ x.agent ∷ []) x.end)
    by (got xs last) = rw (append_assoc done (x.agent ∷ []) (map (λ (y : EndedAgent). y.agent) xs)) refl
    by (stuck last) = refl

pub added-stuck : (start : ℕ) (done : List AgentText) (end : ℕ) (ws left : List Word) → agent_follows ws ≡ true → ended_agent.read (past_comma ws) ≡ stuck left → added_from start done end ws ≡ stuck left
added-stuck start done end ws left e o =
    let read = comma-read ended_agent ws ∙ o in
    let m = one_more agent_follows agents_follow.none ws (length ws) e (omega arith) in
    rw (m.1, e, read) refl

abbrev pub closed_added : ℕ → List AgentText → ℕ → Unit {0} → List Word → Outcome InitDecl
closed_added start done end none left = got (record { start = record { start = start; end = end }; agents = done }) left

pub added-end : (start : ℕ) (done : List AgentText) (end : ℕ) (ws : List Word) → agent_follows ws ≡ false →
    added_from start done end ws ≡ behind ((run_of Mod).read ws) (closed_added start done end)
added-end start done end ws e = rw (none_begins agent_follows (behind_comma ended_agent).read ws (length ws) e) (by ((run_of Mod).read ws))
  where
    by : (o : Outcome (Unit {0})) →
        behind (behind o (λ none last. got [] last)) (with_agents start done end) ≡ behind o (closed_added start done end)
    by (got none last) = rw (append-nil done) refl
    by (stuck last) = refl

pub run-stuck : {A : Type 0} (ws left : List Word) (next : Unit {0} → List Word → Outcome A) → (run_of Mod).read ws ≡ stuck left → behind ((run_of Mod).read ws) next ≡ stuck left
run-stuck ws left next e = rw e refl

-- an agent that was read had a word
pub fewer-left : (ws left : List Word) (x : EndedAgent) → ended_agent.read (past_comma ws) ≡ got x left → length left < length ws
fewer-left ws left x o = shorter ws left x next_ended-law (comma-read ended_agent ws ∙ o)

-- ---- all parts of a declaration

-- what a part that was read gave
part-got : (done new : List Decl) (o : Outcome (List Decl)) (left : List Word) → onto done o ≡ got new left → (given : List Decl) × (o ≡ got given left) × (new ≡ done ++ given)
part-got done new (got given last) left e =
    let same : last ≡ left = cc in
    let all : done ++ given ≡ new = cc in
    (given, rw same refl, sym all)
part-got done new (stuck last) left e = absurd (let different : ⊥ = cc in different)

pub onto-stuck : (done : List Decl) (o : Outcome (List Decl)) (left : List Word) → onto done o ≡ stuck left → o ≡ stuck left
onto-stuck done (got given last) left e = absurd (let different : ⊥ = cc in different)
onto-stuck done (stuck last) left e = e

onto-onto : (done given : List Decl) (o : Outcome (List Decl)) → onto done (onto given o) ≡ onto (done ++ given) o
onto-onto done given (got more left) = rw (append_assoc done given more) refl
onto-onto done given (stuck left) = refl

parts-read : (given : List Decl) (ws left : List Word) → starts (only (Dollar ∷ [])) ws ≡ true → dollar_part.read ws ≡ got given left → dollar_parts.read ws ≡ onto given (dollar_parts.read left)
parts-read given ws left e o =
    let less = shorter ws left given dollar_part-law o in
    let m = one_more (starts (only (Dollar ∷ []))) refl ws (length ws) e (omega arith) in
    let most : length left ≤ m.0 = omega (arith, m.1) in
    let enough = any_most dollar_part (only (Dollar ∷ [])) (but (Percent ∷ Arrow ∷ BothArrow ∷ Dollar ∷ [])) (starts (only (Dollar ∷ []))) (by_kinds (only (Dollar ∷ [])) refl refl dollar_part-law) dollar_part-law left m.0 most in
    rw (m.1, one_begins (starts (only (Dollar ∷ []))) dollar_part.read ws left given m.0 e o, enough) (by ((many (only (Dollar ∷ [])) dollar_part).read left))
  where
    by : (o : Outcome (List (List Decl))) →
        behind (behind o (λ xs last. got (given ∷ xs) last)) (λ xs last. got (flat_map (λ ds. ds) xs) last) ≡ onto given (behind o (λ xs last. got (flat_map (λ ds. ds) xs) last))
    by (got xs last) = refl
    by (stuck last) = refl

pub parts-next : (done new : List Decl) (ws left : List Word) → starts (only (Dollar ∷ [])) ws ≡ true → onto done (dollar_part.read ws) ≡ got new left →
    (onto done (dollar_parts.read ws) ≡ onto new (dollar_parts.read left)) × (length left < length ws)
parts-next done new ws left e o =
    let (given, read, all) = part-got done new (dollar_part.read ws) left o in
    (ap (onto done) (parts-read given ws left e read) ∙ onto-onto done given (dollar_parts.read left) ∙ ap (λ l. onto l (dollar_parts.read left)) (sym all), shorter ws left given dollar_part-law read)

pub parts-stuck : (done : List Decl) (ws left : List Word) → starts (only (Dollar ∷ [])) ws ≡ true → onto done (dollar_part.read ws) ≡ stuck left → onto done (dollar_parts.read ws) ≡ stuck left
parts-stuck done ws left e o =
    let read = onto-stuck done (dollar_part.read ws) left o in
    let m = one_more (starts (only (Dollar ∷ []))) refl ws (length ws) e (omega arith) in
    rw (m.1, e, read) refl

pub parts-end : (done : List Decl) (ws : List Word) → starts (only (Dollar ∷ [])) ws ≡ false → onto done (dollar_parts.read ws) ≡ got done ws
parts-end done ws e = rw (none_begins (starts (only (Dollar ∷ []))) dollar_part.read ws (length ws) e, append-nil done) refl
