-- What tables promise of every mixture that a model reaches, by firings and additions.
use Rattle.std.specs.Prelude.{ℕ, List, Option}
use Rattle.kasa_graph.specs.declared.mixture.Agent.{Agent}
use Rattle.kasa_graph.specs.Lists.{Has}
use Rattle.kasa_graph.specs.Embedding.{IsEmbedding}
use Rattle.kasa_families.specs.declared.family.Family.{Family}
use Rattle.kasa_families.specs.Table.{Table, families_of}
use Rattle.kasa_rules.specs.declared.model.Model.{Model}
use Rattle.kasa_rules.specs.Reached.{Reached}
use Rattle.kasa_rules.specs.Rule.{RuleParts}
use Rattle.kasa_pre.specs.Allowed.{IsDead}
use Rattle.kasa_pre.specs.Closed.{Cover, LemmaHolds}

-- the family's lemma holds in every reached mixture
abbrev pub AlwaysHolds : Model → List Table → Family → Type 0
AlwaysHolds model tables family = (m : List (Option Agent)) → Reached model m → LemmaHolds model.sig tables family m

-- the rule's left pattern stands in no reached mixture
abbrev pub NeverFires : Model → RuleParts → Type 0
NeverFires model r = (m : List (Option Agent)) → Reached model m → (cells : List ℕ) → ¬ IsEmbedding r.left m cells

-- the tables hold all rows that ever occur, each of their lemmas always holds, and no dead rule ever fires
pub record IsSoundFor (model : Model) (tables : List Table) : Type 0 where
  pub rows : (m : List (Option Agent)) → Reached model m → Cover model.sig tables m
  pub lemmas : (family : Family) → Has (families_of tables) family → AlwaysHolds model tables family
  pub dead : (r : RuleParts) → IsDead model.sig tables r → NeverFires model r
