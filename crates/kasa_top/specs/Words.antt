-- The words of a call: which command they are.
use Rattle.std.specs.Prelude.{◌≡◌, ◌≢◌, ℕ, List, [], ◌∷◌, ◌++◌, map, codes}
use Rattle.kasa_lists.specs.Lists.{AllDifferent}
use Rattle.kasa_choose.specs.declared.kind.Kind.{Kind}
use Rattle.kasa_choose.specs.declared.kind.Kind.TheVariants.{Views, Across, Parallel, Chains}

-- the name of a text: not empty, and beginning with no `-`
abbrev pub IsTextName : List ℕ → Type 0
IsTextName [] = ⊥
IsTextName (b ∷ bytes) = b ≢ 45

-- the flag that leaves out a kind of families
abbrev pub flag : Kind → List ℕ
flag Views = codes "--no-views"
flag Across = codes "--no-across"
flag Parallel = codes "--no-parallel"
flag Chains = codes "--no-chains"

-- the words are the flags of these kinds, each at most once
abbrev pub AreFlags : List (List ℕ) → List Kind → Type 0
AreFlags words kinds = (words ≡ map flag kinds) × AllDifferent kinds

-- `analyse`, further words, and the name of a model's text
pub record IsAnalyseWith (words between : List (List ℕ)) (name : List ℕ) : Type 0 where
  pub words_are : words ≡ codes "analyse" ∷ between ++ name ∷ []
  pub is_name : IsTextName name

-- `analyse`, the flags of the kinds that are left out, and the name of a model's text
pub record IsAnalyse (words : List (List ℕ)) (without : List Kind) (name : List ℕ) : Type 0 where
  pub flags : List (List ℕ)
  pub command : IsAnalyseWith words flags name
  pub are_flags : AreFlags flags without
