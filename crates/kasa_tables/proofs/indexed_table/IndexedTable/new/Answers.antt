use Rattle.std.proofs.Common.{◌∙◌, arith}
use Rattle.kasa_tables.proofs.indexed_table.IndexedTable.new.Goals as goal

pub invariant_of-result : goal.invariant_of-result
invariant_of-result c =
    rw c.new.ensures.empty record {
      narrow = let width = c.in_ok-columns.ensures.width in let count = c.columns.ensures in let few = c.requires in omega arith;
      width = c.in_ok-columns.ensures.width ∙ c.columns.ensures;
      different = λ i j row at_i at_j. absurd cc;
      shapes = λ row there. absurd cc;
      posts = λ column q within. c.in_ok-columns.ensures.empty column q;
    }
