-- The report, from its sections.
use Rattle.std.proofs.Common.{◌≡◌, ℕ, List, [], ◌∷◌, ◌++◌, codes, ◌∙◌, append_assoc}
use Rattle.kasa_graph.specs.Signature.{TypeEntry}
use Rattle.kasa_rules.specs.declared.model.Model.{Model}
use Rattle.kasa_rules.specs.Rule.{RuleParts}
use Rattle.kasa_families.specs.Table.{Table}
use Rattle.kasa_polymers.specs.declared.map.ContactMap.{ContactMap}
use Rattle.kasa_polymers.specs.declared.map.Polymers.{Polymers}
use Rattle.kasa_polymers.specs.Verdict.{IsVerdict}
use Rattle.kasa_report.specs.Section.{line, section}
use Rattle.kasa_report.specs.ContactText.{contact_lines}
use Rattle.kasa_report.specs.LemmasText.{AreShown, lemma_lines}
use Rattle.kasa_report.specs.DeadText.{AreDeadLines}
use Rattle.kasa_report.specs.PolymersText.{verdict_text}
use Rattle.kasa_report.specs.Report.{IsContactMap, IsReport}
use Rattle.kasa_report.specs.CheckText.{IsCheckReport}

-- over the signature and the rules as the calls read them
pub report_is : (model : Model) (tables : List Table) (sig : List TypeEntry) (rules : List RuleParts) → sig ≡ model.sig → rules ≡ model.rules → (m : ContactMap) → IsContactMap model tables m → (verdict : Polymers) → IsVerdict model tables verdict →
    (none first second third fourth : List ℕ) → none ≡ [] → first ≡ none ++ section (codes "contact map") (contact_lines sig m) →
    ((shown : List Table) × AreShown tables shown × (second ≡ first ++ section (codes "lemmas") (lemma_lines sig shown))) →
    ((lines : List (List ℕ)) × AreDeadLines sig tables 1 rules lines × (third ≡ second ++ section (codes "dead rules") lines)) →
    fourth ≡ third ++ section (codes "polymers") (verdict_text sig verdict ∷ []) → IsReport model tables fourth
report_is model tables sig rules same same_rules m is_map verdict is_verdict none first second third fourth empty one two three four = record {
  map = m;
  is_map = is_map;
  shown = two.0;
  are_shown = two.1;
  dead = three.0;
  are_dead = rw (same, same_rules) at three.1;
  verdict = verdict;
  is_verdict = is_verdict;
  printed = four ∙ rw (three.2, two.2, one, empty, ← same) (simp append_assoc);
}

-- the report on closed tables, from its sections
pub check_is : (model : Model) (tables : List Table) (sig : List TypeEntry) (rules : List RuleParts) → sig ≡ model.sig → rules ≡ model.rules → (none first second third : List ℕ) → none ≡ [] → first ≡ none ++ line (codes "closed") →
    ((shown : List Table) × AreShown tables shown × (second ≡ first ++ section (codes "lemmas") (lemma_lines sig shown))) →
    ((lines : List (List ℕ)) × AreDeadLines sig tables 1 rules lines × (third ≡ second ++ section (codes "dead rules") lines)) → IsCheckReport model tables third
check_is model tables sig rules same same_rules none first second third empty one two three = record {
  shown = two.0;
  are_shown = two.1;
  dead = three.0;
  are_dead = rw (same, same_rules) at three.1;
  printed = three.2 ∙ rw (two.2, one, empty, ← same) (simp append_assoc);
}
