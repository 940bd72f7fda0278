-- Kinds of bytes.
use Rattle.std.specs.Prelude.{◌≡◌, ℕ, List, Bool, true, ◌==◌, ◌&&◌, ◌||◌, nat_le, codes}
use Rattle.std.specs.List.{AllByRecursion, list_any}

abbrev pub is_digit : ℕ → Bool
is_digit b = nat_le 48 b && nat_le b 57

abbrev pub is_letter : ℕ → Bool
is_letter b = (nat_le 65 b && nat_le b 90) || (nat_le 97 b && nat_le b 122)

abbrev pub is_letter_or_digit : ℕ → Bool
is_letter_or_digit b = is_letter b || is_digit b

-- a byte that a name may hold
abbrev pub is_word_byte : ℕ → Bool
is_word_byte b = is_letter_or_digit b || (b == 95)

-- space, tab and CR
abbrev pub is_space : ℕ → Bool
is_space b = (b == 32) || (b == 9) || (b == 13)

abbrev pub is_symbol : ℕ → Bool
is_symbol b = list_any (λ c. c == b) (codes "()[]{},.:;/+-*^@#=<>&|?")

-- each byte passes
abbrev pub Are : (ℕ → Bool) → List ℕ → Type 0
Are test bytes = AllByRecursion (λ b. test b ≡ true) bytes
