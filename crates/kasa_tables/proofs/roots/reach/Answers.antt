use Rattle.std.proofs.Common.{◌∷◌, [], ◌∙◌, arith, length-append}
use Rattle.kasa_tables.proofs.RootLemmas.{listed_in-more}
use Rattle.kasa_tables.proofs.roots.reach.Goals as goal

pub loop-preserved : goal.loop-preserved
loop-preserved c =
    rw c.in_ok-push.ensures.items record {
      long = omega (arith, length-append c.loop.lists.items (c.new.result ∷ []), c.loop.invariant.long);
      same = λ a. listed_in-more c.loop.lists.items c.new.result c.new.ensures.items a ∙ c.loop.invariant.same a;
    }
