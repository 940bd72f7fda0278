use Rattle.kasa_families.proofs.ListedLemmas.{IsLeastFrom-rows}
use Rattle.kasa_tables.proofs.indexed.IndexedTablesRows.first_compatible.Goals as goal

pub returns : goal.returns
returns c =
    IsLeastFrom-rows c.args.self.now c.args.f c.in_ok-table.field-0.now c.in_ok-table.ensures c.args.g.now c.args.spot c.args.from c.first_compatible.result c.first_compatible.ensures
