use Rattle.std.proofs.Common.{refl, arith}
use Rattle.std.proofs.lemmas.Option.{slice_get_within}
use Rattle.kasa_families.specs.Family.{shape_of}
use Rattle.kasa_columns.proofs.StandLemmas.{LeavesBonds-each}
use Rattle.kasa_columns.proofs.stands.leaves_bonds.Goals as goal

pub returns : goal.returns
returns c = (
  λ yes. (LeavesBonds-each c.args.rule.now (shape_of c.args.family.now).bonds c.args.stands.now).1 (λ b has.
      let within = slice_get_within (shape_of c.args.family.now).bonds has.0 b has.1 in
      let count = c.bonds-k-end.ensures in
      let past = c.loop-k-test.false in
      c.loop-k.invariant has.0 (omega arith) b has.1),
  λ leaves. refl,
)
