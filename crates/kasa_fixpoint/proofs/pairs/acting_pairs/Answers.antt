use Rattle.std.proofs.Common.{◌≡◌, length, ap, ◌∙◌, arith}
use Rattle.kasa_rules.specs.declared.model.Model.{Model}
use Rattle.kasa_fixpoint.proofs.PairLemmas.{AreActingBefore-none, AreActingPairs-all}
use Rattle.kasa_fixpoint.proofs.pairs.acting_pairs.Goals as goal

pub loop-k-init : goal.loop-k-init
loop-k-init c = rw c.new-pairs.ensures.items (AreActingBefore-none c.args.model.now c.args.families.now)

pub returns-clause-acting : goal.returns-clause-acting
returns-clause-acting c =
    let items = ap length (c.as_slice-k-end.ensures ∙ ap (λ (m : Model). m.rules) c.model.view_is) in
    let first = c.loop-k.auto.k-end in
    let last = c.loop-k-test.false in
    let all : c.loop-k.k ≡ length c.args.model.now.rules = omega arith in
    AreActingPairs-all c.args.model.now c.args.families.now c.loop-k.pairs.items (rw all at c.loop-k.invariant)
