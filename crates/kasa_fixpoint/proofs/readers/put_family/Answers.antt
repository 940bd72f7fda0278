use Rattle.std.proofs.Common.{sym, arith}
use Rattle.std.proofs.lemmas.List.{take_all}
use Rattle.kasa_lists.proofs.Elements.{some_at}
use Rattle.kasa_families.specs.Family.{family_types}
use Rattle.kasa_fixpoint.proofs.ReaderLemmas.{PutsOfTypes-none, PutsOfTypes-next}
use Rattle.kasa_fixpoint.proofs.readers.put_family.Goals as goal
use Rattle.kasa_fixpoint.proofs.readers.put_family.Goals.{in-Some+in_ok-put_at, in_default}

pub loop-n-init : goal.loop-n-init
loop-n-init c = PutsOfTypes-none c.args.p c.args.lists.now.items c.requires.up_to

pub put_at-requires-clause-within : goal.put_at-requires-clause-within
put_at-requires-clause-within c =
    rw c.loop-n.invariant.size (c.requires.within c.in-Some.agent (c.loop-n.n, sym c.in-Some.ensures))

pub loop-n-preserved : goal.loop-n-preserved
loop-n-preserved c = elim c.match-node_type.branch [
  | in-Some+in_ok-put_at w ↦ rw w.lists-is (PutsOfTypes-next c.args.p (family_types c.args.family.now) c.loop-n.n w.in-Some.agent c.args.lists.now.items c.loop-n.lists.items w.put_at.new.lists.items (sym w.in-Some.ensures) c.loop-n.invariant w.in_ok-put_at.ensures)
  | in_default w ↦ absurd (let there = some_at (family_types c.args.family.now) c.loop-n.n (let e = c.nodes-n-end.ensures in let t = c.loop-n-test.true in omega arith) in let is = there.1 in let got = c.node_type.ensures in let none = w.in_default.is in cc)
]

pub returns : goal.returns
returns c =
    let all = take_all c.loop-n.n (family_types c.args.family.now) (let e = c.nodes-n-end.ensures in let t = c.loop-n-test.false in omega arith) in
    rw all at c.loop-n.invariant
