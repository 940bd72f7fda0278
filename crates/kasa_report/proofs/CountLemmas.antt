-- Rows counted family by family, and lines behind lines.
use Rattle.std.proofs.Common.{◌≡◌, ℕ, ◌+◌, ◌<◌, ◌≤◌, List, [], ◌++◌, length, take, codes, refl, ap, subst, ◌∙◌, append_assoc}
use Rattle.std.specs.List.{sum_by}
use Rattle.std.proofs.lemmas.List.Sums.{sum_by_push, sum_by-take-le}
use Rattle.kasa_lists.proofs.Elements.{some_at, take-one_more}
use Rattle.kasa_graph.specs.Signature.{TypeEntry}
use Rattle.kasa_rules.specs.declared.model.Model.{Model}
use Rattle.kasa_rules.specs.Rule.{RuleParts}
use Rattle.kasa_families.specs.Table.{Table, rows_of}
use Rattle.kasa_polymers.specs.declared.map.Polymers.{Polymers}
use Rattle.kasa_polymers.specs.Verdict.{IsVerdict}
use Rattle.kasa_report.specs.Section.{line}
use Rattle.kasa_report.specs.DeadText.{AreDeadLines}
use Rattle.kasa_report.specs.PolymersText.{verdict_text}
use Rattle.kasa_report.specs.SampleReport.{count_line, IsSampleReport}

abbrev size : Table → ℕ
size t = length t.rows

pub rows_more : (tables : List Table) (f : ℕ) → f < length tables → sum_by (λ (t : Table). length t.rows) (take (f + 1) tables) ≡ sum_by (λ (t : Table). length t.rows) (take f tables) + length (rows_of tables f)
unfolding rows_of
rows_more tables f within =
    let (t, at) = some_at tables f within in
    ap (sum_by size) (take-one_more tables f t at) ∙ sum_by_push size (take f tables) t ∙ rw at refl

pub rows_so_far : (tables : List Table) (f : ℕ) → sum_by (λ (t : Table). length t.rows) (take f tables) ≤ sum_by (λ (t : Table). length t.rows) tables
rows_so_far tables f = sum_by-take-le size tables f

-- ---- lines behind what stands

-- two pieces behind a text
pub two_behind : (before a b one two : List ℕ) → one ≡ before ++ a → two ≡ one ++ b → two ≡ before ++ (a ++ b)
two_behind before a b one two first second = second ∙ ap (λ t. t ++ b) first ∙ append_assoc before a b

-- three pieces behind a text
pub behind : (before a b c one two three : List ℕ) → one ≡ before ++ a → two ≡ one ++ b → three ≡ two ++ c → three ≡ before ++ ((a ++ b) ++ c)
behind before a b c one two three first second third =
    third ∙ ap (λ t. t ++ c) (second ∙ ap (λ t. t ++ b) first ∙ append_assoc before a b) ∙ append_assoc before (a ++ b) c

-- the sample report, line by line
pub sample_is : (size : ℕ) (model : Model) (tables : List Table) (sig : List TypeEntry) (rules : List RuleParts) → sig ≡ model.sig → rules ≡ model.rules →
    (verdict : Polymers) → IsVerdict model tables verdict → (types rule_count families row_count dead : ℕ) → types ≡ length sig → rule_count ≡ length rules → families ≡ length tables → row_count ≡ sum_by (λ (t : Table). length t.rows) tables →
    (lines : List (List ℕ)) × AreDeadLines sig tables 1 rules lines × (dead ≡ length lines) →
    (t0 t1 t2 t3 t4 t5 t6 text : List ℕ) → t0 ≡ [] → t1 ≡ t0 ++ count_line (codes "sample ") size → t2 ≡ t1 ++ count_line (codes "types ") types → t3 ≡ t2 ++ count_line (codes "rules ") rule_count →
    t4 ≡ t3 ++ count_line (codes "families ") families → t5 ≡ t4 ++ count_line (codes "rows ") row_count → t6 ≡ t5 ++ count_line (codes "dead rules ") dead → text ≡ t6 ++ line (codes "polymers" ++ verdict_text sig verdict) →
    IsSampleReport size model tables text
sample_is size model tables sig rules sig_is rules_is verdict is_verdict types rule_count families row_count dead types_are rules_are families_are rows_are (lines, are, dead_are) t0 t1 t2 t3 t4 t5 t6 text e0 e1 e2 e3 e4 e5 e6 e7 = record {
  dead = lines;
  are_dead = subst (λ s. AreDeadLines s tables 1 model.rules lines) sig_is (subst (λ rs. AreDeadLines sig tables 1 rs lines) rules_is are);
  verdict = verdict;
  is_verdict = is_verdict;
  printed = rw (← sig_is, ← rules_is, ← types_are, ← rules_are, ← families_are, ← rows_are, ← dead_are) (e7 ∙ rw (e6, e5, e4, e3, e2, e1, e0) refl);
}
