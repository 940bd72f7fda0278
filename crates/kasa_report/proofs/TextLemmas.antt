-- Texts that are written piece by piece.
use Rattle.std.proofs.Common.{◌≡◌, ◌≢◌, ℕ, suc, ◌+◌, ◌<◌, ◌≤◌, List, [], ◌∷◌, ◌++◌, length, map, take, get_or, codes, refl, sym, ap, ◌∙◌, append_assoc, add-one, arith}
use Rattle.std.specs.Prelude.{nat_lt, if◌then◌else◌, true}
use Rattle.std.specs.List.{flat_map}
use Rattle.std.proofs.lemmas.Bool.Decides.{Decides-ltb}
use Rattle.std.proofs.lemmas.List.{append-nil, length-append, take_more, take_all, length-take}
use Rattle.std.proofs.lemmas.Grind.{flat_map-append}
use Rattle.kasa_lists.proofs.Maps.{length-map, map-push}
use Rattle.kasa_report.specs.Section.{line, all_lines, below_heading, section, joined}
use Rattle.kasa_report.specs.ContactText.{numbers}

-- ---- sections

long_line : (text : List ℕ) → 0 < length (line text)
unfolding line
long_line text = let e = length-append text (10 ∷ []) in omega arith

-- no line was written where nothing was
pub below_none : (before : ℕ) (first old new : List ℕ) (lines : List (List ℕ)) → before ≡ length first → old ≡ first ++ all_lines lines → length old ≡ before → new ≡ old ++ line (codes " none") → new ≡ first ++ below_heading lines
below_none before first old new [] size is same more = more ∙ rw is (append_assoc first [] (line (codes " none")))
below_none before first old new (l ∷ lines) size is same more =
    let e = ap length is in
    let whole = length-append first (all_lines (l ∷ lines)) in
    let parts = length-append (line l) (all_lines lines) in
    let long = long_line l in absurd (omega arith)

pub below_some : (before : ℕ) (first old : List ℕ) (lines : List (List ℕ)) → before ≡ length first → old ≡ first ++ all_lines lines → length old ≢ before → old ≡ first ++ below_heading lines
below_some before first old [] size is differ = absurd (differ (ap length is ∙ ap length (append-nil first) ∙ sym size))
below_some before first old (l ∷ lines) size is differ = is

-- a heading, and what is below it
pub section_is : (heading : List ℕ) (lines : List (List ℕ)) (old headed new : List ℕ) → headed ≡ old ++ line heading → new ≡ headed ++ below_heading lines → new ≡ old ++ section heading lines
unfolding section
section_is heading lines old headed new h n = n ∙ rw h (append_assoc old (line heading) (below_heading lines))

-- ---- lines, one list after another

pub all_lines-append : (first second : List (List ℕ)) → all_lines (first ++ second) ≡ all_lines first ++ all_lines second
all_lines-append first second = flat_map-append line first second

pub numbers-next : (k : ℕ) → numbers (k + 1) ≡ numbers k ++ k ∷ []
numbers-next k = ap numbers (add-one k)

pub lines_more : (f : ℕ → List (List ℕ)) (k : ℕ) (first before after : List ℕ) → before ≡ first ++ all_lines (flat_map f (numbers k)) → after ≡ before ++ all_lines (f k) → after ≡ first ++ all_lines (flat_map f (numbers (k + 1)))
lines_more f k first before after b a =
    a ∙ rw (b, numbers-next k, flat_map-append f (numbers k) (k ∷ []), append-nil (f k), all_lines-append (flat_map f (numbers k)) (f k)) (append_assoc first (all_lines (flat_map f (numbers k))) (all_lines (f k)))

-- ---- texts with separators

regrouped : (a b c d : List ℕ) → a ++ ((b ++ c) ++ d) ≡ ((a ++ b) ++ c) ++ d
regrouped a b c d = sym (append_assoc a (b ++ c) d) ∙ ap (λ x. x ++ d) (sym (append_assoc a b c))

joined-last : (separator u : List ℕ) (texts : List (List ℕ)) (t : List ℕ) → joined separator ((u ∷ texts) ++ t ∷ []) ≡ (joined separator (u ∷ texts) ++ separator) ++ t
joined-last separator u [] t = refl
joined-last separator u (v ∷ texts) t =
    ap (λ text. (u ++ separator) ++ text) (joined-last separator v texts t) ∙ regrouped (u ++ separator) (joined separator (v ∷ texts)) separator t

positive : (n : ℕ) → nat_lt 0 (suc n) ≡ true
positive n = (Decides-ltb 0 (suc n)).1 (omega arith)

joined-push : (separator : List ℕ) (texts : List (List ℕ)) (t : List ℕ) → joined separator (texts ++ t ∷ []) ≡ joined separator texts ++ (if nat_lt 0 (length texts) then separator else []) ++ t
joined-push separator [] t = refl
joined-push separator (u ∷ texts) t = rw (positive (length texts)) (joined-last separator u texts t)

module _ {X : Type 0} (separator : List ℕ) (f : X → List ℕ) (xs : List X) where
  pub joined_more : (k : ℕ) (x : X) (first before spaced after : List ℕ) → k < length xs → x ≡ get_or xs k x → before ≡ first ++ joined separator (map f (take k xs)) →
      spaced ≡ before ++ (if nat_lt 0 k then separator else []) → after ≡ spaced ++ f x → after ≡ first ++ joined separator (map f (take (k + 1) xs))
  joined_more k x first before spaced after within at b s a =
      let size : length (map f (take k xs)) ≡ k = length-map f (take k xs) ∙ (let e = length-take k xs in omega arith) in
      let more : map f (take (k + 1) xs) ≡ map f (take k xs) ++ f x ∷ [] = rw (take_more xs k x within, ← at) (map-push f (take k xs) x) in
      let whole : joined separator (map f (take (k + 1) xs)) ≡ joined separator (map f (take k xs)) ++ (if nat_lt 0 k then separator else []) ++ f x =
      ap (joined separator) more ∙ joined-push separator (map f (take k xs)) (f x) ∙ ap (λ n. joined separator (map f (take k xs)) ++ (if nat_lt 0 n then separator else []) ++ f x) size in
      a ∙ rw (s, b, whole) (simp append_assoc)

-- all of them
pub joined_all : {X : Type 0} (separator : List ℕ) (f : X → List ℕ) (xs : List X) (k : ℕ) (first now : List ℕ) → length xs ≤ k → now ≡ first ++ joined separator (map f (take k xs)) → now ≡ first ++ joined separator (map f xs)
joined_all separator f xs k first now end is = is ∙ ap (λ ys. first ++ joined separator (map f ys)) (take_all k xs end)

-- ---- lines of the elements of a list

module _ {X : Type 0} (f : X → List ℕ) (xs : List X) where
  pub text_more : (k : ℕ) (x : X) (first before after : List ℕ) → k < length xs → x ≡ get_or xs k x → before ≡ first ++ all_lines (map f (take k xs)) → after ≡ before ++ line (f x) → after ≡ first ++ all_lines (map f (take (k + 1) xs))
  text_more k x first before after within at b a =
      let more : map f (take (k + 1) xs) ≡ map f (take k xs) ++ f x ∷ [] = rw (take_more xs k x within, ← at) (map-push f (take k xs) x) in
      a ∙ rw (b, more, all_lines-append (map f (take k xs)) (f x ∷ []), append-nil (line (f x))) (append_assoc first (all_lines (map f (take k xs))) (line (f x)))

  pub text_all : (k : ℕ) (first now : List ℕ) → length xs ≤ k → now ≡ first ++ all_lines (map f (take k xs)) → now ≡ first ++ all_lines (map f xs)
  text_all k first now end is = is ∙ ap (λ ys. first ++ all_lines (map f ys)) (take_all k xs end)
