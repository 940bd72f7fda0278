use Rattle.std.proofs.Common.{◌≡◌, ℕ, List}
use Rattle.std.specs.Prelude.{Option}
use Rattle.std.proofs.lemmas.Result.{IfOk-weaker}
use Rattle.kasa_graph.specs.declared.pattern.Node.{Node}
use Rattle.kasa_graph.specs.declared.mixture.Agent.{Agent}
use Rattle.kasa_graph.specs.Mixture.{IsMixtureOver}
use Rattle.kasa_graph.specs.Embedding.{IsEmbedding}
use Rattle.kasa_families.specs.Family.{root}
use Rattle.kasa_families.proofs.Orthogonal.{root_extends_once}
use Rattle.kasa_families.proofs.OverLemmas.{IsPatternOver-root}
use Rattle.kasa_families.proofs.patterns.root.Goals as goal

pub returns-clause-over : goal.returns-clause-over
returns-clause-over c = IfOk-weaker c.rooted.result _ _ (λ (g : List Node) (e : g ≡ root c.args.sig.now c.args.family.now). rw e (IsPatternOver-root _ _ c.requires)) c.rooted.ensures

pub returns-clause-orthogonal : goal.returns-clause-orthogonal
returns-clause-orthogonal c =
    IfOk-weaker c.rooted.result _ _
    (λ (g : List Node) (e : g ≡ root c.args.sig.now c.args.family.now) (m : List (Option Agent)) (cells : List ℕ) (over : IsMixtureOver c.args.sig.now m) (emb : IsEmbedding g m cells). root_extends_once _ _ m cells c.requires over (rw e at emb))
    c.rooted.ensures
