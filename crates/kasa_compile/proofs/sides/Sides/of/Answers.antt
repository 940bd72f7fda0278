use Rattle.std.proofs.Common.{ap, sym, ◌∙◌}
use Rattle.kasa_compile.specs.Sides.{with_pair, no_sides}
use Rattle.kasa_compile.proofs.SidesLemmas.{with_pairs-push}
use Rattle.kasa_compile.proofs.sides.Sides.of.Goals as goal

pub loop-pair-preserved : goal.loop-pair-preserved
loop-pair-preserved c = c.in_ok-add.ensures ∙ ap (λ x. with_pair x c.in-Some.pair.left c.in-Some.pair.right) c.loop-pair.invariant ∙ sym (with_pairs-push no_sides c.loop-pair.yielded c.in-Some.pair)
