-- Numbers below a size that are still to be taken, each at most once.
use Rattle.std.specs.Prelude.{◌≡◌, ℕ, ◌+◌, ◌<◌, ◌≤◌, Bool, true, List, ◌∷◌, length, Some, slice_get}
use Rattle.kasa_lists.specs.Lists.{Has, AllDifferent}

pub record Waiting : Type 0 where
  pub numbers : List ℕ
  pub size : ℕ

-- just the numbers of a queue are marked, and none stands there twice
pub record MarksAgree (queue : List ℕ) (on : List Bool) : Type 0 where
  pub listed : (k : ℕ) → slice_get on k ≡ Some true → Has queue k
  pub marked : (k : ℕ) → Has queue k → slice_get on k ≡ Some true
  pub different : AllDifferent queue

-- the first number is taken
pub record Takes (k : ℕ) (old new : Waiting) : Type 0 where
  pub size : new.size ≡ old.size
  pub within : k < old.size
  pub first : old.numbers ≡ k ∷ new.numbers

-- numbers are put, each where it isn't there
pub record Puts (numbers : List ℕ) (old new : Waiting) : Type 0 where
  pub size : new.size ≡ old.size
  pub kept : (j : ℕ) → Has old.numbers j → Has new.numbers j
  pub held : (j : ℕ) → Has numbers j → Has new.numbers j
  pub low : length old.numbers ≤ length new.numbers
  pub high : length new.numbers ≤ length old.numbers + length numbers
