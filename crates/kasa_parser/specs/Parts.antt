-- Declarations as parts of their text.
use Rattle.std.specs.Prelude.{◌≡◌, ◌⊎◌, ℕ, List, [], ◌∷◌, ◌++◌, Bool, true, not}
use Rattle.std.specs.List.{AllByRecursion, filter, flat_map}
use Rattle.kasa_parser.specs.Words.{Word}
use Rattle.kasa_parser.specs.Declarations.{Declaration, is_break, deeper}

abbrev pub is_said : Word → Bool
is_said w = not (is_break w.kind)

-- the words but breaks
abbrev pub said_in : List Word → List Word
said_in ws = filter is_said ws

-- how deep the brackets are behind words, where they were so deep before
abbrev pub depth_behind : ℕ → List Word → ℕ
depth_behind depth [] = depth
depth_behind depth (w ∷ ws) = depth_behind (deeper w.kind depth) ws

-- these are the last words
abbrev pub AreLast : List Word → List Word → Type 0
AreLast last ws = (others : List Word) × (ws ≡ others ++ last)

-- a declaration ends at a break behind its words, outside of all brackets or where no words but breaks follow
pub record EndsAtBreak (ws : List Word) (d : Declaration) : Type 0 where
  pub before : List Word
  pub break_word : Word
  pub after : List Word
  pub cut : ws ≡ before ++ break_word ∷ after
  pub is : is_break break_word.kind ≡ true
  pub ending : d.ending ≡ break_word.span.start
  pub last : AreLast d.words (said_in before)
  pub outside : (depth_behind 0 d.words ≡ 0) ⊎ (said_in after ≡ [])

-- or it ends behind the last byte, and its words are the last of all
abbrev pub Ends : ℕ → List Word → Declaration → Type 0
Ends size ws d = EndsAtBreak ws d ⊎ ((d.ending ≡ size) × AreLast d.words (said_in ws))

-- the declarations of the words of a text of so many bytes hold all of them but breaks, and each ends where it may
pub record AreParts (size : ℕ) (ws : List Word) (ds : List Declaration) : Type 0 where
  pub all : flat_map (λ (d : Declaration). d.words) ds ≡ said_in ws
  pub end : AllByRecursion (Ends size ws) ds
