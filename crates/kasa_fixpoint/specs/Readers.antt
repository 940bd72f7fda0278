-- Of each type the pairs that read families whose root begins with it.
use Rattle.std.specs.Prelude.{◌≡◌, ℕ, ◌<◌, ◌≤◌, ◌⊎◌, ◌↔◌, List, [], ◌∷◌, ◌++◌, Some, length, slice_get}
use Rattle.std.specs.Option.{option_map_or}
use Rattle.kasa_lists.specs.Lists.{Has, AllDifferent}
use Rattle.kasa_families.specs.declared.family.Family.{Family}
use Rattle.kasa_rules.specs.declared.model.Model.{Model}
use Rattle.kasa_rules.specs.Rule.{RuleParts}
use Rattle.kasa_fixpoint.specs.declared.pairs.Pair.{Pair}
use Rattle.kasa_fixpoint.specs.Pairs.{IsPairOf}
use Rattle.kasa_fixpoint.specs.Reads.{ReadsType}

-- different numbers up to p, which comes last if it is there
pub record AreUpTo (p : ℕ) (numbers : List ℕ) : Type 0 where
  pub different : AllDifferent numbers
  pub few : (k : ℕ) → Has numbers k → k ≤ p
  pub last : Has numbers p → (others : List ℕ) × (numbers ≡ others ++ p ∷ [])

-- p is put where it isn't there
pub record PutsNumber (p : ℕ) (old new : List ℕ) : Type 0 where
  pub up_to : AreUpTo p new
  pub exact : (k : ℕ) → Has new k ↔ (Has old k ⊎ (k ≡ p))

-- the numbers of a type, none where there is no list for it
unfoldable pub of_type : List (List ℕ) → ℕ → List ℕ
of_type lists a = option_map_or (λ numbers. numbers) (slice_get lists a) []

-- p is put into the lists of some types, into each where it isn't there
pub record PutsOfTypes (p : ℕ) (types : List ℕ) (old new : List (List ℕ)) : Type 0 where
  pub size : length new ≡ length old
  pub up_to : (a : ℕ) → AreUpTo p (of_type new a)
  pub exact : (a k : ℕ) → Has (of_type new a) k ↔ (Has (of_type old a) k ⊎ ((k ≡ p) × Has types a))

-- the pair of a number reads families that begin with the type
pub record PairReadsType (model : Model) (families : List Family) (pairs : List Pair) (k a : ℕ) : Type 0 where
  pub pair : Pair
  pub numbered : slice_get pairs k ≡ Some pair
  pub r : RuleParts
  pub family : Family
  pub is : IsPairOf model families pair r family
  pub reads : ReadsType r family a

-- of each type those of the first n pairs that read families which begin with it
pub record AreReadersBelow (model : Model) (families : List Family) (pairs : List Pair) (n : ℕ) (lists : List (List ℕ)) : Type 0 where
  pub size : length lists ≡ length model.sig
  pub different : (a : ℕ) → AllDifferent (of_type lists a)
  pub exact : (a k : ℕ) → Has (of_type lists a) k ↔ ((k < n) × PairReadsType model families pairs k a)
