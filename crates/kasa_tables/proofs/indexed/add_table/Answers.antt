use Rattle.std.proofs.Common.{◌≡◌, length, arith}
use Rattle.kasa_tables.proofs.RootLemmas.{AreRoots-push}
use Rattle.kasa_tables.proofs.indexed.add_table.Goals as goal

pub returns-clause-roots : goal.returns-clause-roots
returns-clause-roots c =
    let number : c.len-number.result ≡ length c.args.tables.now.items = omega (arith, c.len-number.ensures, c.args.tables.now.ok.0) in
    rw (c.push_reserved.ensures.items, c.reserve.ensures.items, c.in_ok-table.ensures)
    (AreRoots-push c.args.tables.now.items c.args.roots.now c.requires.roots c.push.new.self c.args.family c.first_type-agent.result c.first_type-agent.ensures (rw number at c.in_ok-push.ensures.ok))
