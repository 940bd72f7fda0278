-- What a declaration says, where its span is known.
use Rattle.std.proofs.Common.{◌≡◌, List, [], ◌∷◌, true, false, Some, Err, refl, subst, ◌∙◌}
use Rattle.kasa_syntax.specs.declared.tokens.Span.{Span}
use Rattle.kasa_syntax.specs.declared.tokens.TokenKind.TheVariants.{Percent}
use Rattle.kasa_syntax.specs.declared.decls.RuleText.{RuleText}
use Rattle.kasa_syntax.specs.declared.decls.Decl.{Decl}
use Rattle.kasa_syntax.specs.declared.decls.Decl.TheVariants.{Rule}
use Rattle.kasa_parser.specs.Words.{Word, starts, only, rest, is_of}
use Rattle.kasa_parser.specs.Rules.{Outcome, got, stuck, behind, at_first}
use Rattle.kasa_parser.specs.declared.run.Keyword.{Keyword}
use Rattle.kasa_parser.specs.declared.reader.Stop.{Stop}
use Rattle.kasa_parser.specs.declared.reader.Stop.TheVariants.{NoMemory, Stuck}
use Rattle.kasa_parser.specs.Steps.{Gives, Adds, onto, first}
use Rattle.kasa_parser.specs.Decls.{Said, rule_text, keyword_of, behind_keyword, declaration, read_declaration, all_read, said_of}

rule-by : (start : Span) (o : Outcome (Span → RuleText)) →
    said_of start (behind o (λ text left. got (λ s. Rule (text s) ∷ []) left)) ≡ behind (behind o (λ text left. got (text start) left)) (λ r left. got (Rule r ∷ []) left)
rule-by start (got text left) = refl
rule-by start (stuck left) = refl

-- where no `%` stands first a rule is read
pub rule-said : (start : Span) (ws : List Word) → starts (only (Percent ∷ [])) ws ≡ false →
    said_of start (declaration.read ws) ≡ behind (behind (rule_text.read ws) (λ text left. got (text start) left)) (λ r left. got (Rule r ∷ []) left)
rule-said start ws e = rw e (rule-by start (rule_text.read ws))

pub starts-percent : (ws : List Word) (w : Word) → Some w ≡ first ws → is_of (Percent ∷ []) w.kind ≡ true → starts (only (Percent ∷ [])) ws ≡ true
starts-percent [] w e h = absurd cc
starts-percent (x ∷ ws) w e h = let same : w ≡ x = cc in subst (λ (v : Word). is_of (Percent ∷ []) v.kind ≡ true) same h

-- where a keyword stands first, what is behind it is read
pub keyword-said : (start : Span) (ws : List Word) (k : Keyword) → starts (only (Percent ∷ [])) ws ≡ true → at_first keyword_of ws ≡ Some k → said_of start (declaration.read ws) ≡ said_of start ((behind_keyword k).read (rest ws))
keyword-said start ws k percent e = rw (percent, e) refl

whole-by : (done : List Decl) (start : Span) (o : Outcome Said) → onto done (said_of start (behind o (λ said left. all_read said left))) ≡ behind (onto done (said_of start o)) (λ ds left. all_read ds left)
whole-by done start (got said []) = refl
whole-by done start (got said (w ∷ ws)) = refl
whole-by done start (stuck left) = refl

-- what a declaration says behind others, and nothing is left
pub whole-said : (done : List Decl) (start : Span) (ws : List Word) → onto done (said_of start (read_declaration ws)) ≡ behind (onto done (said_of start (declaration.read ws))) (λ ds left. all_read ds left)
whole-said done start ws = whole-by done start (declaration.read ws)

-- ---- the end behind what a declaration says

pub whole-stuck : (done new : List Decl) (start : Span) (ws : List Word) (e : Stop) (left : List Word) → Adds (said_of start (declaration.read ws)) done (Err e) new left → Adds (said_of start (read_declaration ws)) done (Err e) new left
whole-stuck done new start ws NoMemory left a = tt
whole-stuck done new start ws Stuck left a = whole-said done start ws ∙ rw a refl

end-by : (done new : List Decl) (start : Span) (ws over left : List Word) → onto done (said_of start (declaration.read ws)) ≡ got new over → all_read (tt {0}) over ≡ stuck left → onto done (said_of start (read_declaration ws)) ≡ stuck left
end-by done new start ws [] left a e = absurd (let different : ⊥ = cc in different)
end-by done new start ws (w ∷ over) left a e = let same : w ∷ over ≡ left = cc in whole-said done start ws ∙ rw (a, same) refl

pub end-stuck : (done new : List Decl) (start : Span) (ws over : List Word) (e : Stop) (left : List Word) → onto done (said_of start (declaration.read ws)) ≡ got new over → Gives (all_read (tt {0}) over) (Err e) left → Adds (said_of start (read_declaration ws)) done (Err e) new left
end-stuck done new start ws over NoMemory left a g = tt
end-stuck done new start ws over Stuck left a g = end-by done new start ws over left a g

pub end-got : (done new : List Decl) (start : Span) (ws over left : List Word) → onto done (said_of start (declaration.read ws)) ≡ got new over → all_read (tt {0}) over ≡ got (tt {0}) left → onto done (said_of start (read_declaration ws)) ≡ got new left
end-got done new start ws [] left a e = let same : [] ≡ left = cc in whole-said done start ws ∙ rw (a, same) refl
end-got done new start ws (w ∷ over) left a e = absurd (let different : ⊥ = cc in different)
