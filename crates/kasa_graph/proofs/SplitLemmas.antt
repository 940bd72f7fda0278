-- A text is split in one way where bytes of one kind end.
use Rattle.std.proofs.Common.{◌≡◌, ◌≢◌, ℕ, List, [], ◌∷◌, ◌++◌, refl, ap, sym, ◌∙◌, append_assoc, arith}
use Rattle.std.specs.List.{AllByRecursion}
pub use Rattle.kasa_lists.proofs.Every.{AllByRecursion-append, AllByRecursion-weaker}
use Rattle.kasa_graph.specs.PatternText.{comma_joined}

-- bytes of one kind, up to the first other byte
pub split-same : (P : ℕ → Type 0) (xs ys : List ℕ) (s t : ℕ) (rest others : List ℕ) → AllByRecursion P xs → AllByRecursion P ys → ¬ P s → ¬ P t → xs ++ s ∷ rest ≡ ys ++ t ∷ others → (xs ≡ ys) × (s ≡ t) × (rest ≡ others)
split-same P [] [] s t rest others all more not_first not_second e = (refl, cc, cc)
split-same P [] (y ∷ ys) s t rest others all more not_first not_second e = let same : s ≡ y = cc in absurd (not_first (rw same more.0))
split-same P (x ∷ xs) [] s t rest others all more not_first not_second e = let same : x ≡ t = cc in absurd (not_second (rw (← same) all.0))
split-same P (x ∷ xs) (y ∷ ys) s t rest others all more not_first not_second e =
    let here : x ≡ y = cc in
    let later : xs ++ s ∷ rest ≡ ys ++ t ∷ others = cc in
    let next = split-same P xs ys s t rest others all.1 more.1 not_first not_second later in
    (rw here (ap (λ zs. y ∷ zs) next.0), next.1, next.2)

-- ---- texts joined by commas, up to a closing bracket

-- no comma and no closing bracket
abbrev pub IsInside : ℕ → Type 0
IsInside b = (b ≢ 44) × (b ≢ 41)

-- some such bytes
pub record IsPart (text : List ℕ) : Type 0 where
  pub some : text ≢ []
  pub bytes : AllByRecursion IsInside text

no_comma : ¬ IsInside 44
no_comma p = p.0 refl

no_bracket : ¬ IsInside 41
no_bracket p = p.1 refl

-- texts end where they are joined no more
abbrev separator : List (List ℕ) → ℕ
separator [] = 41
separator (text ∷ texts) = 44

abbrev behind : List (List ℕ) → List ℕ → List ℕ
behind [] rest = rest
behind (text ∷ texts) rest = comma_joined (text ∷ texts) ++ 41 ∷ rest

comma_joined-behind : (text : List ℕ) (texts : List (List ℕ)) (rest : List ℕ) → comma_joined (text ∷ texts) ++ 41 ∷ rest ≡ text ++ separator texts ∷ behind texts rest
comma_joined-behind text [] rest = refl
comma_joined-behind text (next ∷ texts) rest = append_assoc text (44 ∷ comma_joined (next ∷ texts)) (41 ∷ rest)

no_separator : (texts : List (List ℕ)) → ¬ IsInside (separator texts)
no_separator [] = no_bracket
no_separator (text ∷ texts) = no_comma

-- where the list ends, the closing bracket stands
no_texts : (text : List ℕ) (texts : List (List ℕ)) (rest others : List ℕ) → IsPart text → ¬ (41 ∷ rest ≡ comma_joined (text ∷ texts) ++ 41 ∷ others)
no_texts text texts rest others part e =
    let split = split-same IsInside [] text 41 (separator texts) rest (behind texts others) tt part.bytes no_bracket (no_separator texts) (e ∙ comma_joined-behind text texts others) in
    part.some (sym split.0)

pub joined-same : (texts others : List (List ℕ)) (rest more : List ℕ) → AllByRecursion IsPart texts → AllByRecursion IsPart others → comma_joined texts ++ 41 ∷ rest ≡ comma_joined others ++ 41 ∷ more →
    (texts ≡ others) × (rest ≡ more)
joined-same [] [] rest more parts pieces e = (refl, cc)
joined-same [] (other ∷ others) rest more parts pieces e = absurd (no_texts other others rest more pieces.0 e)
joined-same (text ∷ texts) [] rest more parts pieces e = absurd (no_texts text texts more rest parts.0 (sym e))
joined-same (text ∷ texts) (other ∷ others) rest more parts pieces e =
    let split = split-same IsInside text other (separator texts) (separator others) (behind texts rest) (behind others more) parts.0.bytes pieces.0.bytes (no_separator texts) (no_separator others)
    (sym (comma_joined-behind text texts rest) ∙ e ∙ comma_joined-behind other others more) in
    let next = by texts others split.1 split.2 (joined-same texts others rest more parts.1 pieces.1) in
    (rw split.0 (ap (λ all. other ∷ all) next.0), next.1)
  where
    by : (ts os : List (List ℕ)) → separator ts ≡ separator os → behind ts rest ≡ behind os more → (comma_joined ts ++ 41 ∷ rest ≡ comma_joined os ++ 41 ∷ more → (ts ≡ os) × (rest ≡ more)) → (ts ≡ os) × (rest ≡ more)
    by [] [] s b again = (refl, b)
    by [] (o ∷ os) s b again = absurd (omega arith)
    by (t ∷ ts) [] s b again = absurd (omega arith)
    by (t ∷ ts) (o ∷ os) s b again = again b
