use Rattle.kasa_families.proofs.RowOrder.{by_row, IsRowBelow-trans, IsRowBelow-strict, AreAscending-sorted}
use Rattle.kasa_families.proofs.laws.rows_are_ordered.Goals as goal

pub returns-clause-compares : goal.returns-clause-compares
returns-clause-compares c = by_row

pub returns-clause-transitive : goal.returns-clause-transitive
returns-clause-transitive c = IsRowBelow-trans

pub returns-clause-strict : goal.returns-clause-strict
returns-clause-strict c = IsRowBelow-strict

pub returns-clause-sorted : goal.returns-clause-sorted
returns-clause-sorted c = AreAscending-sorted
