use Rattle.std.proofs.Common.{◌≡◌, map, take, get_or}
use Rattle.kasa_families.specs.declared.shape.NodeSite.{NodeSite}
use Rattle.kasa_families.specs.Seen.{local_in}
use Rattle.kasa_columns.proofs.seen.seen_row.Given as goal

abbrev pub invariant-loop-column : goal.invariant-loop-column
invariant-loop-column l = l.locals.items ≡ map (λ (c : NodeSite). local_in l.init (get_or l.cells c.node 0) c.site) (take l.column-index l.columns)
