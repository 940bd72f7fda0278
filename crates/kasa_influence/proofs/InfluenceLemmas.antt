-- Gains and losses of rules of a model, at the mixtures that it reaches.
use Rattle.std.proofs.Common.{ℕ, ◌⊎◌, inl, inr, List}
use Rattle.std.specs.Prelude.{Option}
use Rattle.kasa_graph.specs.declared.mixture.Agent.{Agent}
use Rattle.kasa_graph.specs.Lists.{Has}
use Rattle.kasa_graph.specs.Mixture.{IsMixtureOver}
use Rattle.kasa_graph.specs.Embedding.{IsEmbedding}
use Rattle.kasa_families.specs.Table.{Table, AreTables}
use Rattle.kasa_rules.specs.declared.model.Model.{Model}
use Rattle.kasa_rules.specs.Rule.{RuleParts, IsRuleOver}
use Rattle.kasa_rules.specs.Firing.{fire}
use Rattle.kasa_rules.specs.Reached.{Reached, IsModel}
use Rattle.kasa_rules.proofs.ReachedLemmas.{IsMixtureOver-reached}
use Rattle.kasa_pre.specs.Closed.{Cover, IsClosed}
use Rattle.kasa_pre.proofs.SoundLemmas.{Cover-reached}
use Rattle.kasa_influence.specs.Gain.{Gains}
use Rattle.kasa_influence.specs.Loss.{Loses}
use Rattle.kasa_influence.specs.declared.map.Arrow.{Arrow}
use Rattle.kasa_influence.specs.Arrows.{IsGain, IsLoss, MakesNone, StopsNone, OthersMakeNone, OthersStopNone}
use Rattle.kasa_influence.proofs.GainLemmas.{before_or_gains}
use Rattle.kasa_influence.proofs.LossLemmas.{after_or_loses}

module _ (model : Model) (tables : List Table) (ok : AreTables model.sig tables) (valid : IsModel model) (closed : IsClosed model tables) (r r2 : RuleParts) (first : Has model.rules r) (second : Has model.rules r2) where
  over : (m : List (Option Agent)) → Reached model m → IsMixtureOver model.sig m
  over m reached = IsMixtureOver-reached model valid m reached

  cover : (m : List (Option Agent)) → Reached model m → Cover model.sig tables m
  cover m reached = Cover-reached model valid tables ok closed m reached

  rule : IsRuleOver model.sig r
  rule = valid.rules first.0 r first.1

  other : IsRuleOver model.sig r2
  other = valid.rules second.0 r2 second.1

  pub gains-reached : (m : List (Option Agent)) (cells others : List ℕ) → Reached model m → IsEmbedding r.left m cells → IsEmbedding r2.left (fire r cells m) others → IsEmbedding r2.left m others ⊎ Gains model.sig tables r r2
  gains-reached m cells others reached at later =
      before_or_gains model.sig tables r r2 cells m ok (over m reached) (cover m reached) rule at other.left.sites others later

  pub MakesNone-reached : ¬ Gains model.sig tables r r2 → MakesNone model r r2
  MakesNone-reached none m cells others reached at later =
      elim (gains-reached m cells others reached at later) [
        | inl before ↦ before
        | inr found ↦ absurd (none found)
      ]

  pub losses-reached : (m : List (Option Agent)) (cells others : List ℕ) → Reached model m → IsEmbedding r.left m cells → IsEmbedding r2.left m others → IsEmbedding r2.left (fire r cells m) others ⊎ Loses model.sig tables r r2
  losses-reached m cells others reached at before =
      after_or_loses model.sig tables r r2 cells m ok (over m reached) (cover m reached) rule at other.left.sites others before

  pub StopsNone-reached : ¬ Loses model.sig tables r r2 → StopsNone model r r2
  StopsNone-reached none m cells others reached at before =
      elim (losses-reached m cells others reached at before) [
        | inl later ↦ later
        | inr found ↦ absurd (none found)
      ]

-- ---- arrows that are left out

module _ (model : Model) (tables : List Table) (ok : AreTables model.sig tables) (valid : IsModel model) (arrows : List Arrow) where
  pub OthersMakeNone-all : ((arrow : Arrow) → IsGain model tables arrow → Has arrows arrow) → IsClosed model tables → OthersMakeNone model arrows
  OthersMakeNone-all all closed arrow r r2 leads none =
      MakesNone-reached model tables ok valid closed r r2 (arrow.from, leads.0) (arrow.to, leads.1) (λ gains. none (all arrow (r, r2, leads, gains)))

  pub OthersStopNone-all : ((arrow : Arrow) → IsLoss model tables arrow → Has arrows arrow) → IsClosed model tables → OthersStopNone model arrows
  OthersStopNone-all all closed arrow r r2 leads none =
      StopsNone-reached model tables ok valid closed r r2 (arrow.from, leads.0) (arrow.to, leads.1) (λ loses. none (all arrow (r, r2, leads, loses)))
