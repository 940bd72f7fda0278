use Rattle.std.proofs.Common.{arith}
use Rattle.std.proofs.lemmas.Grind.{common_steps}
use Rattle.kasa_graph.specs.Pattern.{with_link}
use Rattle.kasa_graph.proofs.PatternLemmas.{IsPattern-with_link}
use Rattle.kasa_graph.proofs.TestLemmas.{types_of-with_link}
use Rattle.kasa_graph.proofs.KeptLemmas.{kept-of}
use Rattle.kasa_graph.proofs.pattern.Pattern.set_link.Goals as goal

pub invariant_of-self : goal.invariant_of-self
invariant_of-self c =
    let old = rw c.self.view_is at c.self.invariant in
    kept-of c.args.self.now _ (with_link c.args.self.now c.args.node c.args.site c.args.test) (grind (arith, common_steps))
    (IsPattern-with_link _ _ _ _ old.0 c.requires.exists c.requires.old c.requires.new)
    (types_of-with_link _ _ _ _) old.1
