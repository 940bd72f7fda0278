-- What a printed report says of every mixture that its model reaches.
use Rattle.std.specs.Prelude.{◌≡◌, ℕ, List, ◌++◌, Option, option_map}
use Rattle.kasa_edge.specs.Shelf.{Held}
use Rattle.kasa_graph.specs.declared.mixture.Agent.{Agent}
use Rattle.kasa_graph.specs.Lists.{Has}
use Rattle.kasa_families.specs.declared.family.Family.{Family}
use Rattle.kasa_families.specs.Table.{families_of}
use Rattle.kasa_pre.specs.Closed.{LemmaHolds}
use Rattle.kasa_rules.specs.declared.model.Model.{Model}
use Rattle.kasa_rules.specs.Rule.{RuleParts}
use Rattle.kasa_rules.specs.Reached.{Reached}
use Rattle.kasa_graph.specs.Embedding.{IsEmbedding}
use Rattle.kasa_pre.specs.Allowed.{IsDead}
use Rattle.kasa_report.specs.Sound.{IsSoundReport}
use Rattle.kasa_choose.specs.declared.kind.Kind.{Kind}
use Rattle.kasa_top.specs.Outcome.{IsHeldAs, IsReportOf}
use Rattle.kasa_top.specs.Words.{IsAnalyse}

-- in each mixture that the report's model reaches, the lemma of each family of the report's tables holds, printed or not,
-- no rule fires whose left pattern the tables don't allow, the printed contact map has each bond and each state, and no
-- species has more agents than the printed verdict says
pub record IsSound (IsPlan : Model → List Family → Type 0) (text printed : List ℕ) (report : IsReportOf IsPlan text printed) : Type 0 where
  pub lemmas : (m : List (Option Agent)) → Reached report.model m → (family : Family) → Has (families_of report.tables) family → LemmaHolds report.model.sig report.tables family m
  pub dead : (m : List (Option Agent)) → Reached report.model m → (r : RuleParts) → IsDead report.model.sig report.tables r → (cells : List ℕ) → ¬ IsEmbedding r.left m cells
  pub told : IsSoundReport report.model report.tables printed report.printed

-- the sink took a sound report of the text that is held under the name that the words give
pub record TakesSoundReport (IsPlan : List Kind → Model → List Family → Type 0) (words : List (List ℕ)) (held : Held) (old new : Option (List ℕ)) : Type 0 where
  pub without : List Kind
  pub name : List ℕ
  pub text : List ℕ
  pub printed : List ℕ
  pub command : IsAnalyse words without name
  pub is_held : IsHeldAs held name text
  pub report : IsReportOf (IsPlan without) text printed
  pub taken : new ≡ option_map (λ t. t ++ printed) old
  pub sound : IsSound (IsPlan without) text printed report
