-- The most general pattern before is the most general one that implies the left pattern, with nodes outside, and has what is asked.
use Rattle.std.proofs.Common.{◌≡◌, ℕ, List, ◌↔◌, refl, sym, ◌∙◌, length}
use Rattle.std.specs.Prelude.{Option, Some, None, MatchOption}
use Rattle.kasa_graph.specs.declared.pattern.Node.{Node}
use Rattle.kasa_graph.specs.declared.mixture.Agent.{Agent}
use Rattle.kasa_graph.specs.Signature.{TypeEntry}
use Rattle.kasa_graph.specs.Pattern.{IsPatternOver, Implies}
use Rattle.kasa_graph.specs.Mixture.{IsMixtureOver}
use Rattle.kasa_graph.specs.Embedding.{IsEmbedding}
use Rattle.kasa_rules.specs.Rule.{RuleParts, IsRuleOver}
use Rattle.kasa_rules.specs.Firing.{fire}
use Rattle.kasa_pre.specs.declared.Stand.{Stand}
use Rattle.kasa_pre.specs.declared.FreedBy.{FreedBy}
use Rattle.kasa_pre.specs.Before.{AreStands, IsBefore, IsMostGeneralBefore}
use Rattle.kasa_pre.specs.LiesOn.{AllLieOn, AreJustFreed, cells_before}
use Rattle.kasa_families.specs.Table.{Table}
use Rattle.kasa_pre.specs.Allowed.{IsAllowed}
use Rattle.kasa_pre.proofs.AllowedLemmas.{IsAllowed-general}
use Rattle.kasa_pre.specs.Narrow.{IsNarrowed, HasNone}
use Rattle.kasa_pre.specs.Asked.{HasNodes, SameTests, SourcesBefore, NodesBefore}
use Rattle.kasa_pre.proofs.StepLemmas.{answer-stood}
use Rattle.kasa_pre.proofs.StoodBefore.{StoodBefore-given}

module _ (sig : List TypeEntry) (r : RuleParts) (v : List Node) (stands : List Stand) (freed : List FreedBy) where
  -- all that is asked of a pattern
  abbrev pub Asks : List Node → Type 0
  Asks h = SourcesBefore r stands freed h × NodesBefore r v stands freed h

  -- a pattern before has what is asked
  pub Asks-before : (h : List Node) → IsBefore sig r v stands freed h → Asks h
  Asks-before h before = (
    λ f has p at. before.sources f has p at,
    λ i stand at s. (before.states i s stand at, λ against. before.links i s stand at against),
  )

  -- where the left pattern and the nodes outside are g, which tests as the left pattern
  module _ (g : List Node) (stand : AreStands r v stands) (nodes : HasNodes sig r v stands g) (tests : SameTests g r.left) where
    pub Implies-before : (h : List Node) → IsBefore sig r v stands freed h → Implies h g
    Implies-before h before = record {
      types = before.types ∙ sym nodes.types;
      states = λ n s. rw (tests.states n s) (before.left_states n s);
      links = λ n s. rw (tests.links n s) (before.left_links n s);
    }

    IsBefore-asks : (h : List Node) → IsPatternOver sig h → Implies h g → Asks h → IsBefore sig r v stands freed h
    IsBefore-asks h valid implied asks = record {
      stand = stand;
      valid = valid;
      types = implied.types ∙ nodes.types;
      left_states = λ n s. rw (tests.states n s) at (implied.states n s);
      left_links = λ n s. rw (tests.links n s) at (implied.links n s);
      states = λ i s stand at. (asks.1 i stand at s).0;
      links = λ i s stand at against. (asks.1 i stand at s).1 against;
      sources = λ f has p at. asks.0 f has p at;
    }

    pub IsMostGeneralBefore-narrowed : (new : List Node) → IsNarrowed sig g Asks new → IsMostGeneralBefore sig r v stands freed new
    IsMostGeneralBefore-narrowed new is = record {
      before = IsBefore-asks new is.valid is.implies is.meets;
      most_general = λ h before. is.general h before.valid (Implies-before h before) (Asks-before h before);
    }

    pub none-before : HasNone sig g Asks → (h : List Node) → ¬ IsBefore sig r v stands freed h
    none-before none h before = none h before.valid (Implies-before h before) (Asks-before h before)

  -- an answer of this kind stood before a firing
  pub stood-before : IsRuleOver sig r → IsPatternOver sig v → (answer : Option (List Node)) → MatchOption answer ((g : List Node) → ¬ IsBefore sig r v stands freed g) (λ g. IsMostGeneralBefore sig r v stands freed g) →
      (cells : List ℕ) (m : List (Option Agent)) (after : List ℕ) → IsMixtureOver sig m → IsEmbedding r.left m cells → IsEmbedding v (fire r cells m) after → AllLieOn cells (length m) stands after → AreJustFreed r cells m v after freed →
      (g : List Node) × (answer ≡ Some g) × IsEmbedding g m (cells_before cells stands after)
  stood-before rule over answer is cells m after mixture at later lie just =
      answer-stood sig r cells m v after stands freed answer is (StoodBefore-given sig r cells m mixture rule at v over.sites after later stands freed lie just)

  -- tables allow some pattern before exactly where they allow an answer of this kind
  pub allowed-answer : (answer : Option (List Node)) → MatchOption answer ((g : List Node) → ¬ IsBefore sig r v stands freed g) (λ g. IsMostGeneralBefore sig r v stands freed g) →
      (tables : List Table) → ((h : List Node) × IsBefore sig r v stands freed h × IsAllowed sig tables h) ↔ ((g : List Node) × (answer ≡ Some g) × IsAllowed sig tables g)
  allowed-answer None none tables = (λ (h, before, allowed). absurd (none h before), λ (g, is, allowed). absurd cc)
  allowed-answer (Some g) most tables = (
    λ (h, before, allowed). (g, refl, IsAllowed-general g h (most.most_general h before) sig tables allowed),
    λ (k, is, allowed). let same : k ≡ g = cc in (g, most.before, rw same at allowed),
  )
