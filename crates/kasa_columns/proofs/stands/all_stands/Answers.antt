use Rattle.std.proofs.Common.{◌≡◌, sym, ◌∙◌, arith}
use Rattle.std.specs.Prelude.{Some, slice_get}
use Rattle.kasa_families.specs.Family.{shape_of}
use Rattle.kasa_columns.proofs.StandLemmas.{no_nodes, next_node, all_nodes, StandsExist-fit, StandExists-fits}
use Rattle.kasa_columns.proofs.stands.all_stands.Goals as goal

pub loop-n-init : goal.loop-n-init
loop-n-init c = rw (c.in_ok-push.ensures.items, c.new-all.ensures.items, c.new.ensures.items) (no_nodes c.args.rule.now (shape_of c.args.family.now))

pub with_node-requires-clause-next : goal.with_node-requires-clause-next
with_node-requires-clause-next c = λ stand has. StandExists-fits c.args.rule.now stand c.in-Some.agent ((c.in_ok-next-in-Some.ensures stand).0 (rw c.as_slice.ensures.value at has))

pub with_node-requires-clause-firsts : goal.with_node-requires-clause-firsts
with_node-requires-clause-firsts c = λ first has. StandsExist-fit c.args.rule.now first _ (c.loop-n.invariant.fit first (rw c.as_slice-in-Some.ensures.value at has))

pub loop-n-preserved : goal.loop-n-preserved
loop-n-preserved c =
    let typed : slice_get (shape_of c.args.family.now).types c.loop-n.n ≡ Some c.in-Some.agent = sym c.node_type.ensures ∙ c.in-Some.is in
    next_node c.args.rule.now (shape_of c.args.family.now) c.loop-n.n c.in-Some.agent typed c.in_ok-next-in-Some.next.items c.in_ok-next-in-Some.ensures c.loop-n.all.items c.in_ok-all-in-Some.all.items c.loop-n.invariant (rw (c.as_slice.ensures.value, c.as_slice-in-Some.ensures.value) at c.in_ok-all-in-Some.ensures)

pub returns-clause-fit : goal.returns-clause-fit
returns-clause-fit c = (all_nodes c.args.rule.now (shape_of c.args.family.now) c.loop-n.n c.loop-n.all.items (let count = c.nodes-n-end.ensures in let past = c.loop-n-test.false in omega arith) c.loop-n.invariant).1

pub returns-clause-complete : goal.returns-clause-complete
returns-clause-complete c = (all_nodes c.args.rule.now (shape_of c.args.family.now) c.loop-n.n c.loop-n.all.items (let count = c.nodes-n-end.ensures in let past = c.loop-n-test.false in omega arith) c.loop-n.invariant).2
