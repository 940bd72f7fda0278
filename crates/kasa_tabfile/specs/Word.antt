-- What a word of a line says.
use Rattle.std.specs.Prelude.{ℕ, ◌+◌, ◌-◌, ◌*◌, List, [], ◌∷◌, Option, Some, None, Bool, ◌&&◌, ◌||◌, not, if◌then◌else◌, ◌==◌, nat_le, nat_eq, length, codes, option_map, option_and_then}
use Rattle.std.specs.Cmp.Lexicographic.{pointwise}
use Rattle.kasa_families.specs.declared.row.LocalLink.{LocalLink}
use Rattle.kasa_families.specs.declared.row.LocalLink.TheVariants.{Free, Partner}
use Rattle.kasa_families.specs.declared.row.Local.{Local}

-- two words are the same
abbrev pub is : List ℕ → List ℕ → Bool
is w v = pointwise nat_eq w v

abbrev pub is_digit : ℕ → Bool
is_digit b = nat_le 48 b && nat_le b 57

-- the value of decimal digits, behind others
abbrev pub value_from : ℕ → List ℕ → Option ℕ
value_from n [] = Some n
value_from n (b ∷ bs) = if is_digit b then value_from (10 * n + (b - 48)) bs else None

abbrev pub value : List ℕ → Option ℕ
value bs = value_from 0 bs

abbrev pub at_most : ℕ → ℕ → Option ℕ
at_most most n = if nat_le n most then Some n else None

-- a number: decimal, without leading zeros, at most 65,535 (and so at most five digits)
abbrev pub number : List ℕ → Option ℕ
number [] = None
number (b ∷ bs) =
    if nat_le (length bs) 4 && (not (b == 48) || (length bs == 0)) then option_and_then (at_most 65535) (value (b ∷ bs)) else None

-- the parts before and after the first byte `at`
abbrev pub cut : ℕ → List ℕ → Option (List ℕ × List ℕ)
cut at [] = None
cut at (b ∷ bs) = if b == at then Some ([], bs) else option_map (λ p. (b ∷ p.0, p.1)) (cut at bs)

-- a state, `-` where the site has none
abbrev pub state : List ℕ → Option (Option ℕ)
state w = if is w (codes "-") then Some None else option_map (λ s. Some s) (number w)

-- a link: `.`, or the partner's `T.Y`
abbrev pub link : List ℕ → Option LocalLink
link w =
    if is w (codes ".") then Some Free
    else option_and_then (λ p. option_and_then (λ t. option_map (λ y. Partner t y) (number p.1)) (number p.0)) (cut 46 w)

-- the local state of a site: a state, `,`, and a link
abbrev pub group : List ℕ → Option Local
group w =
    option_and_then (λ p. option_and_then (λ s. option_map (λ l. record { state = s; link = l }) (link p.1)) (state p.0)) (cut 44 w)
