use Rattle.std.proofs.Common.{◌≡◌, take, arith}
use Rattle.std.proofs.lemmas.List.{take_all}
use Rattle.kasa_families.specs.Family.{shape_of}
use Rattle.kasa_families.proofs.OverLemmas.{BondsLeft-root}
use Rattle.kasa_families.proofs.patterns.shape_root.Goals as goal

pub put_bonds-requires-clause-unbound : goal.put_bonds-requires-clause-unbound
put_bonds-requires-clause-unbound c =
    let all : take c.loop-n.n (shape_of c.args.family.now).types ≡ (shape_of c.args.family.now).types = take_all _ _ (omega arith) in
    rw (c.loop-n.invariant, all) (BondsLeft-root c.args.sig.now (shape_of c.args.family.now) c.requires).unbound
