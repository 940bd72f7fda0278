-- Grids: lists of elements with a list inside each.
use Rattle.std.specs.Prelude.{ℕ, List, Option, slice_get, option_and_then}
use Rattle.kasa_lists.specs.Lists.{update}

-- the inner element of two numbers, where `inner` is the list inside an element
abbrev pub at_both : {A X : Type 0} → (A → List X) → List A → ℕ → ℕ → Option X
at_both inner xs n s = option_and_then (λ a. slice_get (inner a) s) (slice_get xs n)

-- the grid with f applied to that element, where `put` gives an element another list
abbrev pub change : {A X : Type 0} → (A → List X) → (A → List X → A) → List A → ℕ → ℕ → (X → X) → List A
change inner put xs n s f = update xs n (λ a. put a (update (inner a) s f))
