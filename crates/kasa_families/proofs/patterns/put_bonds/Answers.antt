use Rattle.std.proofs.Common.{sym, ◌∙◌}
use Rattle.kasa_families.proofs.LeftLemmas.{CanJoin-at, BondsLeft-at, BondsLeft-past}
use Rattle.kasa_families.proofs.patterns.put_bonds.Goals as goal
use Rattle.kasa_families.proofs.patterns.put_bonds.Goals.{in-Some, in_default}

pub put_bond-requires : goal.put_bond-requires
put_bond-requires c = CanJoin-at _ _ _ _ c.loop-k.invariant c.in-Some.bond (sym c.bond.ensures ∙ c.in-Some.is)

pub loop-k-preserved : goal.loop-k-preserved
loop-k-preserved c =
    elim c.match-bond.branch [
      | in-Some w ↦ rw (w.g-is, w.put_bond.ensures) (BondsLeft-at _ _ _ _ c.loop-k.invariant w.in-Some.bond (sym c.bond.ensures ∙ w.in-Some.is))
      | in_default w ↦ rw w.g-is (BondsLeft-past _ _ _ _ c.loop-k.invariant (sym c.bond.ensures ∙ w.in_default.is))
    ]
