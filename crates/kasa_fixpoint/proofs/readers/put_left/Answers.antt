use Rattle.std.proofs.Common.{◌≡◌, length, refl, sym, ◌∙◌, arith}
use Rattle.std.specs.Prelude.{Some, slice_get}
use Rattle.std.proofs.lemmas.List.{take_all}
use Rattle.kasa_graph.specs.Pattern.{types_of}
use Rattle.kasa_graph.proofs.TestLemmas.{agent_at-types, length-types}
use Rattle.kasa_fixpoint.proofs.ReaderLemmas.{PutsOfTypes-none, PutsOfTypes-next}
use Rattle.kasa_fixpoint.proofs.readers.put_left.Goals as goal

pub loop-n-init : goal.loop-n-init
loop-n-init c = PutsOfTypes-none c.args.p c.args.lists.now.items c.requires.up_to

pub put_at-requires-clause-within : goal.put_at-requires-clause-within
put_at-requires-clause-within c =
    let typed : slice_get (types_of c.args.rule.now.left) c.loop-n.n ≡ Some c.agent.result = sym (agent_at-types c.args.rule.now.left c.loop-n.n) ∙ rw c.left-in-loop-n.ensures.pattern at c.agent.ensures in
    rw c.loop-n.invariant.size (c.requires.within c.agent.result (c.loop-n.n, typed))

pub loop-n-preserved : goal.loop-n-preserved
loop-n-preserved c =
    let typed : slice_get (types_of c.args.rule.now.left) c.loop-n.n ≡ Some c.agent.result = sym (agent_at-types c.args.rule.now.left c.loop-n.n) ∙ rw c.left-in-loop-n.ensures.pattern at c.agent.ensures in
    PutsOfTypes-next c.args.p (types_of c.args.rule.now.left) c.loop-n.n c.agent.result c.args.lists.now.items c.loop-n.lists.items c.put_at.new.lists.items typed c.loop-n.invariant c.in_ok-put_at.ensures

pub returns : goal.returns
returns c =
    let count = c.nodes-n-end.ensures.count in
    let size : length c.args.rule.now.left ≡ length (types_of c.args.rule.now.left) = length-types c.args.rule.now.left in
    let all = take_all c.loop-n.n (types_of c.args.rule.now.left) (let e = c.left.ensures.pattern in let t = c.loop-n-test.false in let l : length c.left.result.now ≡ length c.args.rule.now.left = rw e refl in omega arith) in
    rw all at c.loop-n.invariant
