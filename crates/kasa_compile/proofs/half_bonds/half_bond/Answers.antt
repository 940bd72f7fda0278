use Rattle.std.proofs.Common.{◌∙◌, refl, sym, ap}
use Rattle.std.specs.Prelude.{slice_get}
use Rattle.std.proofs.lemmas.Option.{slice_get_read}
use Rattle.kasa_compile.specs.Sides.{SidesParts}
use Rattle.kasa_compile.proofs.TouchedLemmas.{half_bonds-is, half_bonds-found, half_bonds-later}
use Rattle.kasa_compile.proofs.half_bonds.half_bond.Goals as goal

pub loop-n-init : goal.loop-n-init
loop-n-init c = ap (λ os. slice_get os 0) (sym (half_bonds-is c.args.sides.now))

pub half_bond_of-at-requires-clause-stands : goal.half_bond_of-at-requires-clause-stands
half_bond_of-at-requires-clause-stands c =
    rw (← (c.deref-agent-items.ensures.value ∙ ap (λ (x : SidesParts). x.left) c.sides.view_is)) (slice_get_read c.deref-agent-items.result.now _ c.loop-n.n c.agent-item.result refl c.loop-n-test.true c.agent-item.is)

pub returns-then-is_some : goal.returns-then-is_some
returns-then-is_some c =
    half_bonds-found c.args.sides.now c.loop-n.n c.agent-item.result c.deref-agent-items.result.now c.half_bond_of-at.result (c.deref-agent-items.ensures.value ∙ ap (λ (x : SidesParts). x.left) c.sides.view_is)
    c.loop-n-test.true c.agent-item.is c.half_bond_of-at.ensures c.loop-n.invariant c.if-is_some.ensures

pub loop-n-preserved : goal.loop-n-preserved
loop-n-preserved c =
    half_bonds-later c.args.sides.now c.loop-n.n c.agent-item.result c.deref-agent-items.result.now c.half_bond_of-at.result (c.deref-agent-items.ensures.value ∙ ap (λ (x : SidesParts). x.left) c.sides.view_is)
    c.loop-n-test.true c.agent-item.is c.half_bond_of-at.ensures c.loop-n.invariant c.if-is_some.ensures
