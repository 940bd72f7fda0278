use Rattle.kasa_compile.specs.Labels.{agents_of}
use Rattle.kasa_compile.specs.Passes.{name_faults}
use Rattle.kasa_compile.proofs.FirstLemmas.{first_on_left, first_on_right}
use Rattle.kasa_compile.proofs.names.first_in_form.Goals as goal

pub returns-in-Some : goal.returns-in-Some
returns-in-Some c =
    let found = rw c.as_slice-in-Arrow.ensures at c.in-Some.ensures in
    rw c.in-Arrow.is (first_on_left (name_faults c.args.pass c.args.text.now c.args.sig.now) (agents_of c.in-Arrow.left) (agents_of c.in-Arrow.right) c.in-Some.at found)

pub returns-in_default : goal.returns-in_default
returns-in_default c =
    let none = rw c.as_slice-in-Arrow.ensures at c.in_default.ensures in
    let found = rw c.as_slice-in-Arrow-2.ensures at c.first_in_items-in-Arrow-2.ensures in
    rw c.in-Arrow.is (first_on_right (name_faults c.args.pass c.args.text.now c.args.sig.now) (agents_of c.in-Arrow.left) (agents_of c.in-Arrow.right) c.first_in_items-in-Arrow-2.result none found)
