-- Planned families, each once.
use Rattle.std.specs.Prelude.{ℕ, Bool, cond, ◌||◌, List, [], ◌∷◌, ◌++◌, length, nat_eq, nat_lt}
use Rattle.std.specs.Cmp.Lexicographic.{pointwise}
use Rattle.std.specs.List.{list_any}
use Rattle.kasa_families.specs.declared.family.Family.{Family}
use Rattle.kasa_families.specs.declared.family.Family.TheVariants.{View, Across, Parallel, Chain}

-- a family as a list of numbers that no other family has
abbrev pub key : Family → List ℕ
key (View a sites) = 0 ∷ a ∷ sites
key (Across a x p b y q) = 1 ∷ a ∷ x ∷ p ∷ b ∷ y ∷ q ∷ []
key (Parallel a x u b y w) = 2 ∷ a ∷ x ∷ u ∷ b ∷ y ∷ w ∷ []
key (Chain a x p b y z c w q) = 3 ∷ a ∷ x ∷ p ∷ b ∷ y ∷ z ∷ c ∷ w ∷ q ∷ []

-- the family is one of these
abbrev pub is_among : List Family → Family → Bool
is_among families f = list_any (λ g. pointwise nat_eq (key f) (key g)) families

-- there is one family more than there may be
abbrev pub is_full : List Family → Bool
is_full families = nat_lt 8000 (length families)

-- the families, and behind them this one, where it is none of them and they aren't full
abbrev pub keep : List Family → Family → List Family
keep families f = cond (is_full families || is_among families f) families (families ++ f ∷ [])

abbrev pub keep_all : List Family → List Family → List Family
keep_all families [] = families
keep_all families (f ∷ more) = keep_all (keep families f) more

-- each of the families once, where it stands first; cut after the 8,001st, which is one too many
abbrev pub each_once : List Family → List Family
each_once families = keep_all [] families
