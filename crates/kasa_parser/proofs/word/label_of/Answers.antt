use Rattle.std.proofs.Common.{◌≡◌, ◌+◌, true, arith, rules, take_all, sym}
use Rattle.kasa_parser.specs.Words.{are_digits}
use Rattle.kasa_parser.proofs.CodeWords.{next_value, no_label, a_label}
use Rattle.kasa_parser.proofs.word.label_of.Goals as goal

pub returns-then-number-gt-LONGEST_LABEL : goal.returns-then-number-gt-LONGEST_LABEL
returns-then-number-gt-LONGEST_LABEL c =
    let digits : are_digits c.args.bytes.now ≡ true = search rules in
    let next = next_value c.args.bytes.now c.loop-b.b-index c.loop-b.number digits c.loop-b-test.true c.loop-b.invariant.0 in
    no_label c.args.bytes.now (c.loop-b.b-index + 1) _ digits (sym next) c.if-number-gt-LONGEST_LABEL.true

pub loop-b-preserved : goal.loop-b-preserved
loop-b-preserved c =
    let digits : are_digits c.args.bytes.now ≡ true = search rules in
    let next = next_value c.args.bytes.now c.loop-b.b-index c.loop-b.number digits c.loop-b-test.true c.loop-b.invariant.0 in
    (sym next, c.if-number-gt-LONGEST_LABEL.false)

pub returns : goal.returns
returns c =
    let digits : are_digits c.args.bytes.now ≡ true = search rules in
    let whole = take_all c.loop-b.b-index c.args.bytes.now (omega arith) in
    a_label c.args.bytes.now c.loop-b.number digits (rw whole at c.loop-b.invariant.0) c.loop-b.invariant.1
