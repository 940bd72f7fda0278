-- The first site that stands behind another of its name.
use Rattle.std.proofs.Common.{◌≡◌, ℕ, zero, suc, ◌+◌, ◌<◌, true, false, List, [], ◌∷◌, ◌++◌, length, take, get_or, Some, None, refl, ap, ◌∙◌, append_assoc, arith, add-one}
use Rattle.std.specs.Prelude.{slice_get}
use Rattle.std.specs.List.{list_any}
use Rattle.std.proofs.lemmas.List.{append-nil}
use Rattle.kasa_syntax.specs.declared.agents.SiteText.{SiteText}
use Rattle.kasa_sig.specs.Mentions.{word}
use Rattle.kasa_compile.specs.Names.{if_known, names_of, twice_behind}
use Rattle.kasa_compile.proofs.PairLemmas.{no_left, no_right}
use Rattle.kasa_compile.proofs.FirstLemmas.{first_of_left}
use Rattle.kasa_compile.proofs.KnownLemmas.{is_named, is_some-named}

-- what stands where no site is
abbrev pub blank_site : SiteText
blank_site = record { name = record { start = 0; «end» = 0 }; state = None; link = None }

module _ (text : List ℕ) where
  -- what is to be said of a site behind some others
  abbrev pub behind : List SiteText → SiteText → List ℕ
  behind before s = if_known text (names_of text before) s.name

  more : (before sites : List SiteText) (i : ℕ) (s d : SiteText) → twice_behind text before (take i sites) ≡ [] → i < length sites → s ≡ get_or sites i d → behind (before ++ take i sites) s ≡ [] → twice_behind text before (take (suc i) sites) ≡ []
  more before [] i s d none within at here = absurd (omega arith)
  more before (y ∷ sites) zero s d none within at here =
      let this : behind before y ≡ [] = rw (append-nil before, at) at here in
      rw this refl
  more before (y ∷ sites) (suc i) s d none within at here =
      let this : behind before y ≡ [] = no_left (behind before y) (twice_behind text (before ++ y ∷ []) (take i sites)) none in
      let there = rw (← append_assoc before (y ∷ []) (take i sites)) at here in
      let later = more (before ++ y ∷ []) sites i s d (no_right (behind before y) (twice_behind text (before ++ y ∷ []) (take i sites)) none) (omega arith) at there in
      rw (this, later) refl

  first : (before sites : List SiteText) (i : ℕ) (s d : SiteText) → twice_behind text before (take i sites) ≡ [] → i < length sites → s ≡ get_or sites i d → Some s.name.start ≡ slice_get (behind (before ++ take i sites) s) 0 → Some s.name.start ≡ slice_get (twice_behind text before sites) 0
  first before [] i s d none within at here = absurd (omega arith)
  first before (y ∷ sites) zero s d none within at here =
      let this : Some s.name.start ≡ slice_get (behind before y) 0 = rw (append-nil before) at here ∙ ap (λ z. slice_get (behind before z) 0) at in
      first_of_left (behind before y) (twice_behind text (before ++ y ∷ []) sites) s.name.start this
  first before (y ∷ sites) (suc i) s d none within at here =
      let this : behind before y ≡ [] = no_left (behind before y) (twice_behind text (before ++ y ∷ []) (take i sites)) none in
      let there = rw (← append_assoc before (y ∷ []) (take i sites)) at here in
      let later = first (before ++ y ∷ []) sites i s d (no_right (behind before y) (twice_behind text (before ++ y ∷ []) (take i sites)) none) (omega arith) at there in
      rw this later

  -- a site without one of its name before it, and one with it
  module _ (sites : List SiteText) (i : ℕ) (s d : SiteText) (none : twice_behind text [] (take i sites) ≡ []) (within : i < length sites) (at : s ≡ get_or sites i d) where
    pub twice_none : list_any (is_named text (word text s.name)) (take i sites) ≡ false → twice_behind text [] (take (i + 1) sites) ≡ []
    twice_none e = rw add-one (more [] sites i s d none within at (let known = is_some-named text (word text s.name) (take i sites) ∙ e in rw known refl))

    pub twice_first : list_any (is_named text (word text s.name)) (take i sites) ≡ true → Some s.name.start ≡ slice_get (twice_behind text [] sites) 0
    twice_first e = first [] sites i s d none within at (let known = is_some-named text (word text s.name) (take i sites) ∙ e in rw known refl)
