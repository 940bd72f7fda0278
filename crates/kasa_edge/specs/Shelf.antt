use Rattle.std.specs.Prelude.{ℕ, List, Option, option_map}

-- what is held under each name, where the shelf tells it
abbrev pub Held : Type 0
Held = Option (List ℕ → Option (List ℕ))

-- what is held under a name: None where the shelf doesn't tell, Some None where nothing is
abbrev pub held_at : Held → List ℕ → Option (Option (List ℕ))
held_at held name = option_map (λ texts. texts name) held
