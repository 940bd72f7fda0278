use Rattle.std.proofs.Common.{◌≤◌, length, ◌∙◌, sym, arith}
use Rattle.kasa_compile.specs.declared.resolved.Side.TheVariants.{Left, Right}
use Rattle.kasa_compile.specs.Said.{item_on}
use Rattle.kasa_compile.proofs.PairLemmas.{across_next, across_all}
use Rattle.kasa_compile.proofs.pairs.item_pairs.Goals as goal

pub loop-number-preserved : goal.loop-number-preserved
loop-number-preserved c =
    c.in_ok-push.ensures.items ∙ rw (c.loop-number.invariant, c.in_ok-left.ensures, c.in_ok-right.ensures)
    (sym (across_next (item_on Left c.args.text.now c.args.sig.now) (item_on Right c.args.text.now c.args.sig.now) c.args.lefts.now c.args.rights.now c.loop-number.number (λ h. omega (arith, c.max-count.ensures))))

pub returns : goal.returns
returns c =
    let left : length c.args.lefts.now ≤ c.loop-number.number = omega (arith, c.max-count.ensures) in
    let right : length c.args.rights.now ≤ c.loop-number.number = omega (arith, c.max-count.ensures) in
    c.loop-number.invariant ∙ across_all (item_on Left c.args.text.now c.args.sig.now) (item_on Right c.args.text.now c.args.sig.now) c.args.lefts.now c.args.rights.now c.loop-number.number left right
