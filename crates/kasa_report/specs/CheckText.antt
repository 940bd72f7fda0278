-- What is printed of tables that were tried for closure.
use Rattle.std.specs.Prelude.{◌≡◌, ℕ, List, ◌++◌, codes, decimal}
use Rattle.kasa_graph.specs.Signature.{TypeEntry}
use Rattle.kasa_graph.specs.PatternText.{pattern_text}
use Rattle.kasa_rules.specs.declared.model.Model.{Model}
use Rattle.kasa_families.specs.declared.family.Family.{Family}
use Rattle.kasa_families.specs.declared.row.Row.{Row}
use Rattle.kasa_families.specs.declared.rows.Origin.{Origin}
use Rattle.kasa_families.specs.declared.rows.Origin.TheVariants as origin
use Rattle.kasa_families.specs.Pattern.{row_pattern}
use Rattle.kasa_families.specs.Table.{Table}
use Rattle.kasa_report.specs.Section.{line, section}
use Rattle.kasa_report.specs.LemmasText.{AreShown, lemma_lines}
use Rattle.kasa_report.specs.DeadText.{AreDeadLines}

-- the report on closed tables: the word, the lemmas and the dead rules
pub record IsCheckReport (model : Model) (tables : List Table) (text : List ℕ) : Type 0 where
  pub shown : List Table
  pub are_shown : AreShown tables shown
  pub dead : List (List ℕ)
  pub are_dead : AreDeadLines model.sig tables 1 model.rules dead
  pub printed : text ≡ line (codes "closed") ++ section (codes "lemmas") (lemma_lines model.sig shown) ++ section (codes "dead rules") dead

-- where a lacked row comes from, by its number, which counts from 1
unfoldable pub origin_text : Origin → List ℕ
origin_text (origin.Init n) = codes "init " ++ decimal n
origin_text (origin.Rule n) = codes "rule " ++ decimal n

-- the line of a row that tables lack
unfoldable pub missing_text : List TypeEntry → Family → Origin → Row → List ℕ
missing_text sig family from row = line (codes "not closed: " ++ origin_text from ++ codes ": " ++ pattern_text sig (row_pattern sig family row))
