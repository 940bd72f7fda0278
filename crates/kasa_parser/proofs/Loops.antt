-- Reading a list in a loop.
use Rattle.std.proofs.Common.{◌≡◌, ◌≤◌, ◌<◌, List, [], ◌∷◌, ◌++◌, length, Bool, true, false, refl, ◌∙◌, append_assoc, append-nil, arith}
use Rattle.kasa_syntax.specs.declared.tokens.TokenKind.TheVariants.{Symbol}
use Rattle.kasa_parser.specs.Words.{Word, Kinds, only, ◌or◌, same_kind, starts, past_comma}
use Rattle.kasa_parser.specs.Rules.{Outcome, got, stuck, behind, Rule, many, behind_comma, listed}
use Rattle.kasa_parser.proofs.KindSets.{disjoint, within}
use Rattle.kasa_parser.proofs.RuleLaws.{IsReader, Reads, by_kinds, longer, any_most, one_begins, one_more, none_begins}

-- the list, where some elements have been read and these words are left
abbrev pub with_more : {A : Type 0} → Kinds → Rule A → List A → List Word → Outcome (List A)
with_more kinds r done ws = behind ((many (only (Symbol 44 ∷ []) or kinds) (behind_comma r)).read ws) (λ xs left. got (done ++ xs) left)

-- an element that was read had a word
pub shorter : {A : Type 0} {r : Rule A} {b g : Kinds} (ws left : List Word) (x : A) → IsReader r false b g → r.read ws ≡ got x left → length left < length ws
shorter {A} {r} {b} ws left x one e = by (r.read ws) (one.reads ws) e
  where
    by : (o : Outcome A) → Reads r ws o → o ≡ got x left → length left < length ws
    by (got y last) i e =
        let same : last ≡ left = cc in
        rw (i.cut, ← same) (longer b i.used last (one.begun i.used y i.is))
    by (stuck last) i e = absurd (let different : ⊥ = cc in different)

pub list-first : {A : Type 0} (kinds : Kinds) (r : Rule A) (ws left : List Word) (x : A) → starts kinds ws ≡ true → r.read ws ≡ got x left → (listed kinds r).read ws ≡ with_more kinds r (x ∷ []) left
list-first {A} kinds r ws left x e o = rw (e, o) (by ((many (only (Symbol 44 ∷ []) or kinds) (behind_comma r)).read left))
  where
    by : (o : Outcome (List A)) → behind o (λ xs last. got (x ∷ xs) last) ≡ behind o (λ xs last. got ((x ∷ []) ++ xs) last)
    by (got xs last) = refl
    by (stuck last) = refl

pub list-end : {A : Type 0} (kinds : Kinds) (r : Rule A) (done : List A) (ws : List Word) → starts (only (Symbol 44 ∷ []) or kinds) ws ≡ false → with_more kinds r done ws ≡ got done ws
list-end kinds r done ws e = rw (none_begins (starts (only (Symbol 44 ∷ []) or kinds)) (behind_comma r).read ws (length ws) e, append-nil done) refl

pub comma-read : {A : Type 0} (r : Rule A) (ws : List Word) → (behind_comma r).read ws ≡ r.read (past_comma ws)
comma-read r [] = refl
comma-read {A} r (w ∷ ws) = by (same_kind (Symbol 44) w.kind) refl
  where
    by : (t : Bool) → same_kind (Symbol 44) w.kind ≡ t → (behind_comma r).read (w ∷ ws) ≡ r.read (past_comma (w ∷ ws))
    by true e = rw e refl
    by false e = rw e refl

list-next : {A : Type 0} (o : Outcome (List A)) (done : List A) (x : A) →
    behind (behind o (λ xs last. got (x ∷ xs) last)) (λ xs last. got (done ++ xs) last) ≡ behind o (λ xs last. got ((done ++ x ∷ []) ++ xs) last)
list-next (got xs last) done x = rw (append_assoc done (x ∷ []) xs) refl
list-next (stuck last) done x = refl

pub list-step : {A : Type 0} (r : Rule A) (b g kinds : Kinds) (done : List A) (ws left : List Word) (x : A) →
    within b (only (Symbol 44 ∷ []) or kinds) ≡ true → disjoint g (only (Symbol 44 ∷ []) or kinds) ≡ true → IsReader (behind_comma r) false b g → starts (only (Symbol 44 ∷ []) or kinds) ws ≡ true →
    r.read (past_comma ws) ≡ got x left → with_more kinds r done ws ≡ with_more kinds r (done ++ x ∷ []) left
list-step r b g kinds done ws left x w d next e o =
    let read = comma-read r ws ∙ o in
    let less = shorter ws left x next read in
    let m = one_more (starts (only (Symbol 44 ∷ []) or kinds)) refl ws (length ws) e (omega arith) in
    let most : length left ≤ m.0 = omega (arith, m.1) in
    rw (m.1, one_begins (starts (only (Symbol 44 ∷ []) or kinds)) (behind_comma r).read ws left x m.0 e read, any_most (behind_comma r) b g (starts (only (Symbol 44 ∷ []) or kinds)) (by_kinds _ w d next) next left m.0 most)
    (list-next ((many (only (Symbol 44 ∷ []) or kinds) (behind_comma r)).read left) done x)

pub list-stuck : {A : Type 0} (r : Rule A) (kinds : Kinds) (done : List A) (ws left : List Word) → starts (only (Symbol 44 ∷ []) or kinds) ws ≡ true →
    r.read (past_comma ws) ≡ stuck left → with_more kinds r done ws ≡ stuck left
list-stuck r kinds done ws left e o =
    let read = comma-read r ws ∙ o in
    let m = one_more (starts (only (Symbol 44 ∷ []) or kinds)) refl ws (length ws) e (omega arith) in
    rw (m.1, e, read) refl
