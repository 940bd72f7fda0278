-- The report on the sample model: how much there is of what.
use Rattle.std.specs.Prelude.{◌≡◌, ℕ, List, ◌++◌, length, codes, decimal}
use Rattle.std.specs.List.{sum_by}
use Rattle.kasa_rules.specs.declared.model.Model.{Model}
use Rattle.kasa_families.specs.Table.{Table}
use Rattle.kasa_polymers.specs.declared.map.Polymers.{Polymers}
use Rattle.kasa_polymers.specs.Verdict.{IsVerdict}
use Rattle.kasa_report.specs.Section.{line}
use Rattle.kasa_report.specs.DeadText.{AreDeadLines}
use Rattle.kasa_report.specs.PolymersText.{verdict_text}

-- a line with a number
abbrev pub count_line : List ℕ → ℕ → List ℕ
count_line what number = line (what ++ decimal number)

-- the size, the numbers of types, rules, families, rows and dead rules, and the verdict on polymers
pub record IsSampleReport (size : ℕ) (model : Model) (tables : List Table) (text : List ℕ) : Type 0 where
  pub dead : List (List ℕ)
  pub are_dead : AreDeadLines model.sig tables 1 model.rules dead
  pub verdict : Polymers
  pub is_verdict : IsVerdict model tables verdict
  pub printed : text ≡
      count_line (codes "sample ") size ++ count_line (codes "types ") (length model.sig) ++
      count_line (codes "rules ") (length model.rules) ++ count_line (codes "families ") (length tables) ++
      count_line (codes "rows ") (sum_by (λ t. length t.rows) tables) ++ count_line (codes "dead rules ") (length dead) ++
      line (codes "polymers" ++ verdict_text model.sig verdict)
