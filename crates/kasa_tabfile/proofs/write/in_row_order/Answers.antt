use Rattle.kasa_tabfile.proofs.SortedRows.{in_row_order}
use Rattle.kasa_tabfile.proofs.write.in_row_order.Goals as goal

pub returns : goal.returns
returns c = in_row_order _ _ c.requires c.sort_unstable.ensures.permutation c.sort_unstable.ensures.sorted
