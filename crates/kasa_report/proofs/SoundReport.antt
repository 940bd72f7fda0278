-- The report of closed tables says what holds in every mixture that the model reaches.
use Rattle.std.proofs.Common.{ℕ, List}
use Rattle.kasa_rules.specs.declared.model.Model.{Model}
use Rattle.kasa_rules.specs.Reached.{IsModel}
use Rattle.kasa_families.specs.Table.{Table, AreTables}
use Rattle.kasa_pre.specs.Closed.{IsClosed}
use Rattle.kasa_polymers.proofs.ContactLemmas.{IsContactBond-reached, IsContactState-reached}
use Rattle.kasa_polymers.proofs.GraphLemmas.{BoundsSpecies-verdict}
use Rattle.kasa_report.specs.Report.{IsReport}
use Rattle.kasa_report.specs.Sound.{IsSoundReport}

pub sound : (model : Model) (tables : List Table) (text : List ℕ) → IsModel model → AreTables model.sig tables → IsClosed model tables →
    (report : IsReport model tables text) → IsSoundReport model tables text report
sound model tables text valid ok closed report = record {
  mapped = λ m reached. record {
    bonds = λ bond has. (report.is_map.bonds bond).1 (IsContactBond-reached model valid tables ok closed m reached bond has);
    states = λ seen has. (report.is_map.states seen).1 (IsContactState-reached model valid tables ok closed m reached seen has);
  };
  bounded = BoundsSpecies-verdict model tables ok valid report.verdict report.is_verdict closed;
}
