use Rattle.std.proofs.Common.{◌≡◌, length, arith, ap}
use Rattle.kasa_rules.specs.declared.model.Model.{Model}
use Rattle.kasa_fixpoint.proofs.ReaderLemmas.{AreReadersBelow-none}
use Rattle.kasa_fixpoint.proofs.readers.readers.Goals as goal

pub loop-p-init : goal.loop-p-init
loop-p-init c =
    AreReadersBelow-none c.args.model.now c.args.families.now c.args.pairs.now c.in_ok-lists.lists.items
    (let size = c.in_ok-lists.ensures.size in let count = c.types.ensures.count in let same = ap (λ (m : Model). length m.sig) c.model.view_is in omega arith)
    c.in_ok-lists.ensures.empty

pub returns : goal.returns
returns c =
    let first = c.loop-p.auto.p-end in
    let last = c.loop-p-test.false in
    let all : c.loop-p.p ≡ length c.args.pairs.now = omega arith in
    rw all at c.loop-p.invariant
