-- How the tokens of a text lie in it.
use Rattle.std.specs.Prelude.{◌≡◌, ℕ, ◌+◌, ◌-◌, ◌<◌, List, [], ◌∷◌, drop}
use Rattle.kasa_syntax.specs.declared.tokens.Token.{Token}
use Rattle.kasa_lexer.specs.Tokens.{StandsBlank, IsLongestToken}

-- all is blank from an offset up to another one
pub data BlankRun (text : List ℕ) : ℕ → ℕ → Type 0 where
  none : {at : ℕ} → BlankRun text at at
  some : {at to : ℕ} (n : ℕ) → StandsBlank at (drop at text) n → BlankRun text (at + n) to → BlankRun text at to

-- From an offset on all is blank up to a token, which is the longest one that stands there; so it goes on behind that token,
-- and behind the last token all is blank up to the end.
abbrev pub Covers : List ℕ → ℕ → List Token → Type 0
Covers text at [] = (to : ℕ) × BlankRun text at to × (drop to text ≡ [])
Covers text at (t ∷ ts) =
    BlankRun text at t.start × (t.start < t.end) × IsLongestToken (drop t.start text) t.kind (t.end - t.start) × Covers text t.end ts
