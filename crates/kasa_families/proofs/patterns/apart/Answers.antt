use Rattle.kasa_families.specs.Family.{different}
use Rattle.kasa_families.proofs.LeftLemmas.{CanJoin-next, BondsLeft-next}
use Rattle.kasa_families.proofs.OverLemmas.{BondsLeft-root}
use Rattle.kasa_families.proofs.patterns.apart.Goals as goal

pub put_bond-requires : goal.put_bond-requires
put_bond-requires c =
    let left = BondsLeft-root c.args.sig.now (different c.args.a c.args.x c.args.u c.args.b c.args.y c.args.w) c.requires in
    rw (c.in_ok-g.ensures, c.bond_between.ensures) (CanJoin-next _ _ _ _ _ left)

pub put_bond-requires-2 : goal.put_bond-requires-2
put_bond-requires-2 c =
    let left = BondsLeft-root c.args.sig.now (different c.args.a c.args.x c.args.u c.args.b c.args.y c.args.w) c.requires in
    rw (c.put_bond.ensures, c.bond_between-2.ensures, c.bond_between.ensures, c.in_ok-g.ensures) (CanJoin-next _ _ _ _ _ (BondsLeft-next _ _ _ _ _ left))
