-- The report of a model over tables: four sections.
use Rattle.std.specs.Prelude.{◌≡◌, ◌↔◌, ℕ, List, [], ◌∷◌, ◌++◌, codes}
use Rattle.std.specs.List.{AllPairs}
use Rattle.kasa_graph.specs.Lists.{Has}
use Rattle.kasa_rules.specs.declared.model.Model.{Model}
use Rattle.kasa_families.specs.Table.{Table}
use Rattle.kasa_polymers.specs.declared.map.Bond.{Bond}
use Rattle.kasa_polymers.specs.declared.map.StateSeen.{StateSeen}
use Rattle.kasa_polymers.specs.declared.map.ContactMap.{ContactMap}
use Rattle.kasa_polymers.specs.declared.map.Polymers.{Polymers}
use Rattle.kasa_polymers.specs.Contact.{IsContactBond, IsContactState}
use Rattle.kasa_polymers.specs.Order.{IsBondBelow, IsStateBelow}
use Rattle.kasa_polymers.specs.Verdict.{IsVerdict}
use Rattle.kasa_report.specs.Section.{section}
use Rattle.kasa_report.specs.ContactText.{contact_lines}
use Rattle.kasa_report.specs.LemmasText.{AreShown, lemma_lines}
use Rattle.kasa_report.specs.DeadText.{AreDeadLines}
use Rattle.kasa_report.specs.PolymersText.{verdict_text}

-- the bonds and the states of the contact map, both in order
pub record IsContactMap (model : Model) (tables : List Table) (m : ContactMap) : Type 0 where
  pub bonds : (bond : Bond) → Has m.bonds bond ↔ IsContactBond model tables bond
  pub states : (seen : StateSeen) → Has m.states seen ↔ IsContactState model tables seen
  pub bonds_ascend : AllPairs IsBondBelow m.bonds
  pub states_ascend : AllPairs IsStateBelow m.states

pub record IsReport (model : Model) (tables : List Table) (text : List ℕ) : Type 0 where
  pub map : ContactMap
  pub is_map : IsContactMap model tables map
  pub shown : List Table
  pub are_shown : AreShown tables shown
  pub dead : List (List ℕ)
  pub are_dead : AreDeadLines model.sig tables 1 model.rules dead
  pub verdict : Polymers
  pub is_verdict : IsVerdict model tables verdict
  pub printed : text ≡
      section (codes "contact map") (contact_lines model.sig map) ++ section (codes "lemmas") (lemma_lines model.sig shown) ++
      section (codes "dead rules") dead ++ section (codes "polymers") (verdict_text model.sig verdict ∷ [])
