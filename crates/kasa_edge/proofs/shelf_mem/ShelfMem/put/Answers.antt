use Rattle.std.proofs.Common.{◌≢◌}
use Rattle.kasa_edge.proofs.TextLemmas.{text_at-insert_other}
use Rattle.kasa_edge.proofs.shelf_mem.ShelfMem.put.Goals as goal

pub returns-clause-elsewhere : goal.returns-clause-elsewhere
returns-clause-elsewhere c n other =
    let differs : n ≢ c.in_ok-key.key.items = rw (c.in_ok-key.ensures.items, c.as_bytes.ensures.value) other in
    rw (c.in_ok-insert.ensures.entries) (text_at-insert_other c.args.self.now.texts.entries c.in_ok-key.key c.in_ok-value.value n differs)
