-- Declarations are parts of their text.
use Rattle.std.proofs.Common.{◌≡◌, ◌⊎◌, inl, inr, ℕ, List, [], ◌∷◌, ◌++◌, Bool, true, false, not, ◌&&◌, ◌==◌, if◌then◌else◌, Option, Some, None, refl, sym, ap, subst, ◌∙◌, append_assoc, append-nil, arith}
use Rattle.std.specs.List.{AllByRecursion, flat_map}
use Rattle.std.proofs.lemmas.Bool.Decides.{nat_tests}
use Rattle.std.proofs.lemmas.List.Elements.{filter-append}
use Rattle.kasa_syntax.specs.declared.tokens.TokenKind.{TokenKind}
use Rattle.kasa_parser.specs.Words.{Word}
use Rattle.kasa_parser.specs.Declarations.{Declaration, is_break, begins_declaration, goes_on, deeper, last_kind, next_kind, ends_at, ended, declarations_from, declarations_of}
use Rattle.kasa_parser.specs.Parts.{is_said, said_in, depth_behind, Ends, AreParts}
use Rattle.kasa_parser.proofs.KindSets.{both}

abbrev joined : List Declaration → List Word
joined ds = flat_map (λ (d : Declaration). d.words) ds

-- ---- the words

joined-ended : (read : List Word) (ending : ℕ) (ds : List Declaration) → joined (ended read ending ++ ds) ≡ read ++ joined ds
joined-ended [] ending ds = refl
joined-ended (w ∷ read) ending ds = refl

joined-from : (size depth : ℕ) (read ws : List Word) → joined (declarations_from size depth read ws) ≡ read ++ said_in ws
joined-from size depth [] [] = refl
joined-from size depth (w ∷ read) [] = refl
joined-from size depth read (w ∷ ws) =
    by (is_break w.kind) refl (ends_at depth (last_kind read) (next_kind ws)) refl (joined-from size 0 [] ws) (joined-from size depth read ws) (joined-from size (deeper w.kind depth) (read ++ w ∷ []) ws)
  where
    by : (b : Bool) → is_break w.kind ≡ b → (t : Bool) → ends_at depth (last_kind read) (next_kind ws) ≡ t → joined (declarations_from size 0 [] ws) ≡ [] ++ said_in ws →
        joined (declarations_from size depth read ws) ≡ read ++ said_in ws → joined (declarations_from size (deeper w.kind depth) (read ++ w ∷ []) ws) ≡ (read ++ w ∷ []) ++ said_in ws →
        joined (declarations_from size depth read (w ∷ ws)) ≡ read ++ said_in (w ∷ ws)
    by true b true t fresh same taken = rw (b, t) (joined-ended read w.span.start (declarations_from size 0 [] ws) ∙ ap (λ l. read ++ l) fresh)
    by true b false t fresh same taken = rw (b, t) same
    by false b t i fresh same taken = rw b (taken ∙ append_assoc read (w ∷ []) (said_in ws))

-- ---- where they end

depth-append : (depth : ℕ) (ws : List Word) (w : Word) → depth_behind depth (ws ++ w ∷ []) ≡ deeper w.kind (depth_behind depth ws)
depth-append depth [] w = refl
depth-append depth (v ∷ ws) w = depth-append (deeper v.kind depth) ws w

no_next : (ws : List Word) → next_kind ws ≡ None → said_in ws ≡ []
no_next [] e = refl
no_next (w ∷ ws) e = by (is_break w.kind) refl e (no_next ws)
  where
    by : (b : Bool) → is_break w.kind ≡ b → (if b then next_kind ws else Some w.kind) ≡ None → (next_kind ws ≡ None → said_in ws ≡ []) → said_in (w ∷ ws) ≡ []
    by true b e more = rw b (more e)
    by false b e more = absurd (let different : ⊥ = cc in different)

-- a break that ends a declaration before another one stands outside of brackets
outside : (depth : ℕ) (last : Option TokenKind) (next : TokenKind) → ends_at depth last (Some next) ≡ true → depth ≡ 0
outside depth None next e = let zero_depth = (both (depth == 0) (begins_declaration next) e).0 in grind (arith, nat_tests)
outside depth (Some last) next e =
    let zero_depth = (both (depth == 0) (begins_declaration next) (both ((depth == 0) && begins_declaration next) (not (goes_on last)) e).0).0 in
    grind (arith, nat_tests)

said-break : (prior : List Word) (w : Word) → is_break w.kind ≡ true → said_in (prior ++ w ∷ []) ≡ said_in prior
said-break prior w b = filter-append is_said prior (w ∷ []) ∙ rw b (append-nil (said_in prior))

said-word : (prior : List Word) (w : Word) → is_break w.kind ≡ false → said_in (prior ++ w ∷ []) ≡ said_in prior ++ w ∷ []
said-word prior w b = filter-append is_said prior (w ∷ []) ∙ rw b refl

all_append : (P : Declaration → Type 0) (read : List Word) (ending : ℕ) (ds : List Declaration) → ((w : Word) (more : List Word) → read ≡ w ∷ more → P (record { words = w ∷ more; ending = ending })) → AllByRecursion P ds →
    AllByRecursion P (ended read ending ++ ds)
all_append P [] ending ds one more = more
all_append P (w ∷ read) ending ds one more = (one w read refl, more)

module _ (size : ℕ) (all : List Word) where
  end-from : (depth : ℕ) (read prior ws others : List Word) → all ≡ prior ++ ws → depth ≡ depth_behind 0 read → said_in prior ≡ others ++ read → AllByRecursion (Ends size all) (declarations_from size depth read ws)
  end-from depth [] prior [] others cut deep last = tt
  end-from depth (x ∷ read) prior [] others cut deep last = (inr (refl, (others, ap said_in (cut ∙ append-nil prior) ∙ last)), tt)
  end-from depth read prior (w ∷ ws) others cut deep last = by (is_break w.kind) refl (next_kind ws) refl (ends_at depth (last_kind read) (next_kind ws)) refl (λ depth read prior others. end-from depth read prior ws others)
    where
      behind : all ≡ (prior ++ w ∷ []) ++ ws
      behind = cut ∙ sym (append_assoc prior (w ∷ []) ws)

      ends_outside : (next : Option TokenKind) → next_kind ws ≡ next → ends_at depth (last_kind read) (next_kind ws) ≡ true → (depth_behind 0 read ≡ 0) ⊎ (said_in ws ≡ [])
      ends_outside None n e = inr (no_next ws n)
      ends_outside (Some next) n e = inl (sym deep ∙ outside depth (last_kind read) next (rw n at e))

      by : (b : Bool) → is_break w.kind ≡ b → (next : Option TokenKind) → next_kind ws ≡ next → (t : Bool) → ends_at depth (last_kind read) (next_kind ws) ≡ t →
          ((depth : ℕ) (read prior others : List Word) → all ≡ prior ++ ws → depth ≡ depth_behind 0 read → said_in prior ≡ others ++ read → AllByRecursion (Ends size all) (declarations_from size depth read ws)) →
          AllByRecursion (Ends size all) (declarations_from size depth read (w ∷ ws))
      by true b next n true t more =
          rw (b, t) (all_append (Ends size all) read w.span.start (declarations_from size 0 [] ws)
          (λ x others_read is. inl (record {
            before = prior;
            break_word = w;
            after = ws;
            cut = cut;
            is = b;
            ending = refl;
            last = (others, last ∙ ap (λ l. others ++ l) is);
            outside = subst (λ l. (depth_behind 0 l ≡ 0) ⊎ (said_in ws ≡ [])) is (ends_outside next n t);
          }))
          (more 0 [] (prior ++ w ∷ []) (others ++ read) behind refl (said-break prior w b ∙ last ∙ sym (append-nil (others ++ read)))))
      by true b next n false t more = rw (b, t) (more depth read (prior ++ w ∷ []) others behind deep (said-break prior w b ∙ last))
      by false b next n t i more =
          rw b (more (deeper w.kind depth) (read ++ w ∷ []) (prior ++ w ∷ []) others behind (ap (deeper w.kind) deep ∙ sym (depth-append 0 read w))
          (said-word prior w b ∙ ap (λ l. l ++ w ∷ []) last ∙ append_assoc others read (w ∷ [])))

pub are_parts : (size : ℕ) (ws : List Word) → AreParts size ws (declarations_of size ws)
are_parts size ws = record { all = joined-from size 0 [] ws; end = end-from size ws 0 [] [] ws [] refl refl refl }
