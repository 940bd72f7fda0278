use Rattle.std.proofs.Common.{◌≡◌, false, refl}
use Rattle.std.specs.Prelude.{slice_index_or}
use Rattle.kasa_compile.specs.declared.label_counts.Label.{Label}
use Rattle.kasa_compile.specs.Counts.{is_twice, odd_by}
use Rattle.kasa_compile.proofs.PairLemmas.{first_here}
use Rattle.kasa_compile.proofs.CountLemmas.{no_label}
use Rattle.kasa_compile.proofs.label_counts.first_odd_by.Goals as goal

pub returns-then-not-is_twice : goal.returns-then-not-is_twice
returns-then-not-is_twice c =
    let label : Label = slice_index_or c.args.labels.now c.loop-label.label-index no_label in
    let odd : is_twice c.args.counts.now label.number ≡ false = (let told = c.is_twice.ensures in let no = c.if-not-is_twice.true in cc) in
    first_here (odd_by c.args.counts.now) c.args.labels.now c.loop-label.label-index label no_label label.«at» c.loop-label.invariant c.loop-label-test.true refl (rw odd refl)
