-- Names that were looked up in a signature.
use Rattle.std.proofs.Common.{◌≡◌, ℕ, zero, suc, Bool, true, false, List, [], ◌∷◌, Some, None, refl, ap, subst, ◌∙◌}
use Rattle.std.specs.Prelude.{slice_get, unwrap_or, is_some, ◌||◌}
use Rattle.std.specs.List.{list_any}
use Rattle.std.specs.Str.{bytes_eq}
use Rattle.std.proofs.lemmas.Slice.Eq.{bytes_eq-Decides}
use Rattle.kasa_syntax.specs.declared.agents.SiteText.{SiteText}
use Rattle.kasa_graph.specs.Lists.{Has}
use Rattle.kasa_syntax.specs.declared.tokens.Span.{Span}
use Rattle.kasa_sig.specs.Mentions.{word}
use Rattle.kasa_sig.specs.Outcome.{number_of}
use Rattle.kasa_sig.proofs.NumberLemmas.{number_of-none, has_number}
use Rattle.kasa_compile.specs.Names.{if_unknown, names_of}

module _ (text : List ℕ) (names : List (List ℕ)) (s : Span) (looked : List ℕ) (same : looked ≡ word text s) where
  pub if_unknown-found : (k : ℕ) → slice_get names k ≡ Some looked → None ≡ slice_get (if_unknown text names s) 0
  if_unknown-found k at =
      let known : is_some (number_of names (word text s)) ≡ true = has_number names (word text s) k (at ∙ ap (λ w. Some w) same) in
      rw known refl

  pub if_unknown-absent : ¬ Has names looked → Some s.start ≡ slice_get (if_unknown text names s) 0
  if_unknown-absent absent = rw (number_of-none names (word text s) (subst (λ w. ¬ Has names w) same absent)) refl

-- ---- names among some, by a look at each

same_of : (a b : List ℕ) → Some a ≡ Some b → a ≡ b
same_of a b e = ap (λ o. unwrap_or o a) e

module _ (text : List ℕ) (name : List ℕ) where
  abbrev pub is_named : SiteText → Bool
  is_named s = bytes_eq (word text s.name) name

  named : (sites : List SiteText) (s : SiteText) → bytes_eq (word text s.name) name ≡ true → slice_get (names_of text (s ∷ sites)) 0 ≡ Some name
  named sites s e = ap (λ w. Some w) ((bytes_eq-Decides (word text s.name) name).0 e)

  some_named : (sites : List SiteText) → list_any is_named sites ≡ true → Has (names_of text sites) name
  some_named [] e = absurd cc
  some_named (s ∷ sites) e = by (some_named sites) (is_named s) refl e
    where
      by : (list_any is_named sites ≡ true → Has (names_of text sites) name) → (b : Bool) → is_named s ≡ b → (b || list_any is_named sites) ≡ true → Has (names_of text (s ∷ sites)) name
      by later true d e = (0, named sites s d)
      by later false d e = let h = later e in (suc h.0, h.1)

  none_named : (sites : List SiteText) → list_any is_named sites ≡ false → ¬ Has (names_of text sites) name
  none_named [] e (k, at) = absurd cc
  none_named (s ∷ sites) e (zero, at) = let same = (bytes_eq-Decides (word text s.name) name).1 (same_of (word text s.name) name at) in absurd cc
  none_named (s ∷ sites) e (suc k, at) = by (none_named sites) (is_named s) e
    where
      by : (list_any is_named sites ≡ false → ¬ Has (names_of text sites) name) → (b : Bool) → (b || list_any is_named sites) ≡ false → ⊥
      by later true e = absurd cc
      by later false e = later e (k, at)

  -- whether one of the sites has the name
  pub is_some-named : (sites : List SiteText) → is_some (number_of (names_of text sites) name) ≡ list_any is_named sites
  is_some-named sites = by (list_any is_named sites) refl
    where
      by : (b : Bool) → list_any is_named sites ≡ b → is_some (number_of (names_of text sites) name) ≡ b
      by true e = let h = some_named sites e in has_number (names_of text sites) name h.0 h.1
      by false e = rw (number_of-none (names_of text sites) name (none_named sites e)) refl
