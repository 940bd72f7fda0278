use Rattle.std.proofs.Common.{◌∙◌, arith, length}
use Rattle.kasa_graph.proofs.BondLemmas.{place_absent, insert_site-new, nat_lt-self}
use Rattle.kasa_graph.proofs.text.number_bond.Goals as goal

pub returns-clause-number : goal.returns-clause-number
returns-clause-number c =
    let absent = place_absent c.args.there c.args.firsts.now.keys c.in_default.ensures.index in
    omega (arith, absent, c.len-seen.ensures.len)

pub returns-clause-seen : goal.returns-clause-seen
returns-clause-seen c =
    let absent = place_absent c.args.there c.args.firsts.now.keys c.in_default.ensures.index in
    rw (absent, nat_lt-self (length c.args.firsts.now.keys)) (c.in_ok-insert.ensures.keys ∙ insert_site-new c.args.firsts.now.keys c.args.here c.requires)
