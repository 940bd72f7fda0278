-- What a report says of every mixture that its model reaches.
use Rattle.std.specs.Prelude.{ℕ, List, Option}
use Rattle.kasa_graph.specs.declared.mixture.Agent.{Agent}
use Rattle.kasa_rules.specs.declared.model.Model.{Model}
use Rattle.kasa_rules.specs.Reached.{Reached}
use Rattle.kasa_families.specs.Table.{Table}
use Rattle.kasa_polymers.specs.Contact.{IsMapped}
use Rattle.kasa_polymers.specs.Verdict.{BoundsReached}
use Rattle.kasa_report.specs.Report.{IsReport}

-- the printed contact map has each bond and each state of the mixture, and no species has more agents than is printed
pub record IsSoundReport (model : Model) (tables : List Table) (text : List ℕ) (report : IsReport model tables text) : Type 0 where
  pub mapped : (m : List (Option Agent)) → Reached model m → IsMapped report.map m
  pub bounded : BoundsReached model report.verdict
