use Rattle.std.proofs.Common.{◌≡◌, List}
use Rattle.std.proofs.lemmas.Result.{IfOk-weaker}
use Rattle.kasa_graph.specs.declared.pattern.Node.{Node}
use Rattle.kasa_families.specs.Pattern.{row_pattern}
use Rattle.kasa_families.proofs.OverLemmas.{IsPatternOver-row_pattern}
use Rattle.kasa_families.proofs.patterns.pattern.Goals as goal

pub returns-clause-over : goal.returns-clause-over
returns-clause-over c = IfOk-weaker c.refined.result _ _ (λ (g : List Node) (e : g ≡ row_pattern c.args.sig.now c.args.family.now c.args.row.now). rw e (IsPatternOver-row_pattern _ _ _ c.requires.family c.requires.row)) c.refined.ensures
