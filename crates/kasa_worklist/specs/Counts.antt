-- How many pairs read a family, and rows weighed by their families.
use Rattle.std.specs.Prelude.{ℕ, ◌*◌, if◌then◌else◌, length}
use Rattle.kasa_worklist.specs.Sums.{sum_below}
use Rattle.kasa_worklist.specs.System.{Relations}

-- how many pairs read a family
abbrev pub reader_count : {T X : Type 0} → Relations T X → ℕ → ℕ
reader_count s g = sum_below s.pairs (λ p. if s.reads p g then 1 else 0)

-- how many rows there are, where a row counts as much as its family weighs
abbrev pub weigh : {T X : Type 0} → Relations T X → (ℕ → ℕ) → T → ℕ
weigh s weight tables = sum_below s.families (λ k. weight k * length (s.rows tables k))

-- for each row of the tables, how many pairs read its family
abbrev pub read_count : {T X : Type 0} → Relations T X → T → ℕ
read_count s tables = weigh s (reader_count s) tables
