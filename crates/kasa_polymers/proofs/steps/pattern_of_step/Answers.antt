use Rattle.std.proofs.Common.{◌≡◌, refl, ◌∙◌}
use Rattle.kasa_polymers.proofs.BondPatterns.{AreThree, few_nodes, three_made, HasNodeSite-second, HasNodeSite-third, second_open, third_open, IsPatternOver-step}
use Rattle.kasa_polymers.proofs.steps.pattern_of_step.Goals as goal
use Rattle.kasa_polymers.proofs.steps.pattern_of_step.Goals.{In_ok-third}

made : (c : In_ok-third) → AreThree c.args.sig.now c.args.bond.now c.requires.over c.args.next.now.b c.add_node.new.self c.in_ok-third.third
made c = three_made c.args.sig.now c.args.bond.now c.requires.over c.args.next.now.b c.in_ok-g.g c.add_node.new.self c.in_ok-third.third c.in_ok-g.ensures.pattern c.in_ok-third.ensures.ok

pub add_node-requires-clause-room : goal.add_node-requires-clause-room
add_node-requires-clause-room c = few_nodes c.args.sig.now c.args.bond.now c.requires.over c.in_ok-g.g c.in_ok-g.ensures.pattern

pub join-requires-clause-first : goal.join-requires-clause-first
join-requires-clause-first c = let m = made (goal.at.join-requires-clause-first c).In_ok-third in rw m.nodes (HasNodeSite-second c.args.sig.now c.args.bond.now c.requires.over c.args.next.now c.requires.next_over c.requires.goes_on c.requires.other_site)

pub join-requires-clause-second : goal.join-requires-clause-second
join-requires-clause-second c = let m = made (goal.at.join-requires-clause-second c).In_ok-third in rw (m.nodes, m.third) (HasNodeSite-third c.args.sig.now c.args.bond.now c.requires.over c.args.next.now c.requires.next_over c.requires.goes_on c.requires.other_site)

pub join-requires-clause-differ : goal.join-requires-clause-differ
join-requires-clause-differ c = let m = made (goal.at.join-requires-clause-differ c).In_ok-third in λ e same. absurd (let clash : 1 ≡ 2 = e ∙ m.third in cc)

pub join-requires-clause-first_open : goal.join-requires-clause-first_open
join-requires-clause-first_open c = let m = made (goal.at.join-requires-clause-first_open c).In_ok-third in rw m.nodes (second_open c.args.sig.now c.args.bond.now c.requires.over c.args.next.now c.requires.next_over c.requires.goes_on c.requires.other_site)

pub join-requires-clause-second_open : goal.join-requires-clause-second_open
join-requires-clause-second_open c = let m = made (goal.at.join-requires-clause-second_open c).In_ok-third in rw (m.nodes, m.third) (third_open c.args.sig.now c.args.bond.now c.requires.over c.args.next.now c.requires.next_over c.requires.goes_on c.requires.other_site)

pub returns-clause-pattern : goal.returns-clause-pattern
returns-clause-pattern c = let m = made (goal.at.returns-clause-pattern c).In_ok-third in rw (c.join.ensures, m.nodes, m.third) refl

pub returns-clause-over : goal.returns-clause-over
returns-clause-over c = let m = made (goal.at.returns-clause-over c).In_ok-third in rw (c.join.ensures, m.nodes, m.third) (IsPatternOver-step c.args.sig.now c.args.bond.now c.requires.over c.args.next.now c.requires.next_over c.requires.goes_on c.requires.other_site)
