use Rattle.std.specs.Prelude.{ℕ, ◌+◌, List, take, count_by, ◌==◌, not}
use Rattle.std.specs.List.{suffix_len}
use Rattle.kasa_num.specs.declared.Place.{Place}

-- the line and the column of an offset, from 1: how many LFs stand before it, and how many bytes behind the last of them
abbrev pub place_at : List ℕ → ℕ → Place
place_at text offset = record {
  line = 1 + count_by (λ b. b == 10) (take offset text);
  column = 1 + suffix_len (λ b. not (b == 10)) (take offset text);
}
