-- Updates of lists and of the lists inside a list, which stand in kasa_lists. Here each element keeps any list that it is given.
use Rattle.std.proofs.Common.{◌≡◌, ◌≢◌, ℕ, List}
use Rattle.std.specs.Prelude.{Option, option_map, option_and_then}
use Rattle.kasa_lists.specs.Lists.{update}
use Rattle.kasa_lists.specs.Grid.{at_both, change}
use Rattle.kasa_lists.proofs.Grid as grid
pub use Rattle.kasa_lists.proofs.Options.{some_same}
pub use Rattle.kasa_lists.proofs.Elements.{some_beside, then_bound}
pub use Rattle.kasa_lists.proofs.Updates.{map-update, option_map-update, option_then-update, all-update, slice_set-read, slice_set-at}

module _ {A X : Type 0} (inner : A → List X) (put : A → List X → A) (law : (a : A) (xs : List X) → inner (put a xs) ≡ xs) where
  pub at_both-change_same : (xs : List A) (n s : ℕ) (f : X → X) → at_both inner (change inner put xs n s f) n s ≡ option_map f (at_both inner xs n s)
  at_both-change_same = grid.at_both-change_same inner put (λ a s f. law a (update (inner a) s f))

  pub at_both-change_other : (xs : List A) (n s k u : ℕ) (f : X → X) → (n ≡ k → s ≢ u) → at_both inner (change inner put xs n s f) k u ≡ at_both inner xs k u
  at_both-change_other = grid.at_both-change_other inner put (λ a s f. law a (update (inner a) s f))

  pub then-change : {Y : Type 0} (h : X → Option Y) (f : X → X) → ((x : X) → h (f x) ≡ h x) → (xs : List A) (n s k u : ℕ) → option_and_then h (at_both inner (change inner put xs n s f) k u) ≡ option_and_then h (at_both inner xs k u)
  then-change = grid.then-change inner put (λ a s f. law a (update (inner a) s f))
