-- Lines behind what stood before.
use Rattle.std.specs.Prelude.{◌≡◌, ℕ, ◌++◌, List, length}
use Rattle.kasa_graph.specs.Signature.{TypeEntry}
use Rattle.kasa_rules.specs.Rule.{RuleParts}
use Rattle.kasa_families.specs.Table.{Table}
use Rattle.kasa_report.specs.Section.{all_lines, below_heading}
use Rattle.kasa_report.specs.DeadText.{AreDeadLines}

-- whatever lines were written behind so many bytes: they are, or ` none` is, what is below a heading
abbrev pub EndsLines : ℕ → List ℕ → List ℕ → Type 0
EndsLines before old new =
    (first : List ℕ) (lines : List (List ℕ)) → before ≡ length first → old ≡ first ++ all_lines lines → new ≡ first ++ below_heading lines

-- the lines of the dead rules stand behind what stood before, written as `put` says
abbrev pub AddsDead : List TypeEntry → List Table → List RuleParts → (List (List ℕ) → List ℕ) → List ℕ → List ℕ → Type 0
AddsDead sig tables rules put old new = (lines : List (List ℕ)) × AreDeadLines sig tables 1 rules lines × (new ≡ old ++ put lines)
