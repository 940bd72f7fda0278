-- The order of sites.
use Rattle.std.specs.Prelude.{ℕ, ◌&&◌, ◌||◌, Bool, nat_eq, nat_lt}

-- by type, then by site
abbrev pub comes_before : ℕ → ℕ → ℕ → ℕ → Bool
comes_before a x b y = nat_lt a b || (nat_eq a b && nat_lt x y)
