use Rattle.kasa_polymers.proofs.BondPatterns.{ArePair, pair_made, first_site, second_site, pair_open, IsPatternOver-bond}
use Rattle.kasa_polymers.proofs.steps.pattern_of_bond.Goals as goal
use Rattle.kasa_polymers.proofs.steps.pattern_of_bond.Goals.{In_ok-second}

made : (c : In_ok-second) → ArePair c.args.sig.now c.args.bond.now.a c.args.bond.now.b c.add_node-2.new.self c.in_ok-first.first c.in_ok-second.second
made c = pair_made c.args.sig.now c.args.bond.now.a c.args.bond.now.b c.new-g.result c.add_node.new.self c.add_node-2.new.self c.in_ok-first.first c.in_ok-second.second c.new-g.ensures c.in_ok-first.ensures.ok c.in_ok-second.ensures.ok

pub join-requires-clause-first : goal.join-requires-clause-first
join-requires-clause-first c = let m = made (goal.at.join-requires-clause-first c).In_ok-second in rw (m.nodes, m.first) (first_site c.args.sig.now c.args.bond.now c.requires.over)

pub join-requires-clause-second : goal.join-requires-clause-second
join-requires-clause-second c = let m = made (goal.at.join-requires-clause-second c).In_ok-second in rw (m.nodes, m.second) (second_site c.args.sig.now c.args.bond.now c.requires.over)

pub join-requires-clause-first_open : goal.join-requires-clause-first_open
join-requires-clause-first_open c = let m = made (goal.at.join-requires-clause-first_open c).In_ok-second in rw m.nodes (pair_open c.args.sig.now c.args.bond.now c.requires.over c.in_ok-first.first c.args.bond.now.x)

pub join-requires-clause-second_open : goal.join-requires-clause-second_open
join-requires-clause-second_open c = let m = made (goal.at.join-requires-clause-second_open c).In_ok-second in rw m.nodes (pair_open c.args.sig.now c.args.bond.now c.requires.over c.in_ok-second.second c.args.bond.now.y)

pub returns-clause-over : goal.returns-clause-over
returns-clause-over c = let m = made (goal.at.returns-clause-over c).In_ok-second in rw (c.join.ensures, m.nodes, m.first, m.second) (IsPatternOver-bond c.args.sig.now c.args.bond.now c.requires.over)
