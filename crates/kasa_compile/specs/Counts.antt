-- How often each label stands among some, up to twice.
use Rattle.std.specs.Prelude.{◌≡◌, ℕ, zero, suc, Bool, true, false, List, [], ◌∷◌, Option, Some, None, count_by, nat_eq, ◌==◌, if◌then◌else◌}
use Rattle.std.specs.Map.{lookup}
use Rattle.kasa_compile.specs.declared.label_counts.Label.{Label}
use Rattle.kasa_compile.specs.declared.label_counts.Times.{Times}
use Rattle.kasa_compile.specs.declared.label_counts.Times.TheVariants.{Once, Twice, More}

-- None for no time
abbrev pub times : ℕ → Option Times
times zero = None
times (suc zero) = Some Once
times (suc (suc zero)) = Some Twice
times (suc (suc (suc n))) = Some More

abbrev pub once_more : Option Times → Times
once_more None = Once
once_more (Some Once) = Twice
once_more (Some Twice) = More
once_more (Some More) = More

abbrev pub times_at : List (ℕ × Times) → ℕ → Option Times
times_at counts number = lookup (nat_eq number) counts

-- the counts of some labels
abbrev pub AreCountsOf : List Label → List (ℕ × Times) → Type 0
AreCountsOf labels counts = (number : ℕ) → times_at counts number ≡ times (count_by (λ (l : Label). l.number == number) labels)

abbrev pub are_two : Option Times → Bool
are_two (Some Twice) = true
are_two _ = false

abbrev pub is_twice : List (ℕ × Times) → ℕ → Bool
is_twice counts number = are_two (times_at counts number)

-- the offset of a label that doesn't stand twice by the counts
abbrev pub odd_by : List (ℕ × Times) → Label → List ℕ
odd_by counts l = if is_twice counts l.number then [] else l.«at» ∷ []
