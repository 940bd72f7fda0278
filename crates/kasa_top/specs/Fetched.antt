-- What a fetch of a model's text gave.
use Rattle.std.specs.Prelude.{◌≡◌, ℕ, List, take}
use Rattle.kasa_edge.specs.Shelf.{Held}
use Rattle.kasa_top.specs.Outcome.{IsHeldAs}

-- the bytes are the first ones of a text that is held under the name: all of them, or one more than is read
pub record Fetched (held : Held) (name bytes : List ℕ) : Type 0 where
  pub text : List ℕ
  pub is_held : IsHeldAs held name text
  pub first : bytes ≡ take 4194305 text
