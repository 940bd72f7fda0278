use Rattle.kasa_families.specs.declared.row.Local.{Local}
use Rattle.kasa_report.proofs.KeyLemmas.{AreKeys}
use Rattle.kasa_report.proofs.product.count_links.Given as goal

abbrev pub invariant-loop-row : goal.invariant-loop-row
invariant-loop-row l = AreKeys l.rows l.k (λ (o : Local). o.link) l.row-index l.links.keys
