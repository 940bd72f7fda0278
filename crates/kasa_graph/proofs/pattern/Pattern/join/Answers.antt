use Rattle.std.proofs.Common.{arith}
use Rattle.std.proofs.lemmas.Grind.{common_steps}
use Rattle.kasa_graph.specs.Pattern.{with_bond}
use Rattle.kasa_graph.proofs.PatternLemmas.{IsPattern-with_bond}
use Rattle.kasa_graph.proofs.TestLemmas.{types_of-with_bond}
use Rattle.kasa_graph.proofs.KeptLemmas.{kept-of}
use Rattle.kasa_graph.proofs.pattern.Pattern.join.Goals as goal

pub invariant_of-self : goal.invariant_of-self
invariant_of-self c =
    let old = rw c.self.view_is at c.self.invariant in
    kept-of c.args.self.now _ (with_bond c.args.self.now c.args.n c.args.s c.args.m c.args.t) (grind (arith, common_steps))
    (IsPattern-with_bond _ _ _ _ _ c.requires.first c.requires.second c.requires.differ old.0 c.requires.first_open c.requires.second_open)
    (types_of-with_bond _ _ _ _ _) old.1
