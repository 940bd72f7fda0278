use Rattle.std.proofs.Common.{◌≡◌, List, sym, ◌∙◌, ap, subst, slice_get}
use Rattle.kasa_compile.specs.declared.said.AgentSaid.{AgentSaid}
use Rattle.kasa_compile.specs.declared.said.Pair.{Pair}
use Rattle.kasa_compile.specs.declared.fault.CompileFault.TheVariants.{HalfBond, BadRight}
use Rattle.kasa_compile.specs.Sides.{SidesParts, sides_of}
use Rattle.kasa_compile.specs.BondIndex.{AreBondsOf}
use Rattle.kasa_compile.specs.Valid.{AreSides}
use Rattle.kasa_compile.specs.Causes.{half_bonds, bad_rights}
use Rattle.kasa_compile.proofs.CauseLemmas.{none_found, passed, stopped}
use Rattle.kasa_compile.proofs.causes.try_sides.Goals as goal

pub half_bond-requires-clause-known : goal.half_bond-requires-clause-known
half_bond-requires-clause-known c = let known = c.requires.known in (known.0, subst (λ (x : SidesParts). AreSides known.0 x) (sym c.in_ok-sides.ensures) known.1)

pub returns-in-Some-clause-fault : goal.returns-in-Some-clause-fault
returns-in-Some-clause-fault c different =
    sym (stopped c.args.text.now HalfBond (slice_get (half_bonds (sides_of c.args.pairs.items)) 0) _ c.half_bond.result c.in-Some.at _ c.in-Some.is (subst (λ (x : SidesParts). c.half_bond.result ≡ slice_get (half_bonds x) 0) c.in_ok-sides.ensures c.half_bond.ensures) (ap HalfBond c.place.ensures))

pub returns-in-Some-bad-clause-fault : goal.returns-in-Some-bad-clause-fault
returns-in-Some-bad-clause-fault c different =
    sym (passed c.args.text.now HalfBond (slice_get (half_bonds (sides_of c.args.pairs.items)) 0) _ c.half_bond.result _ c.in_default.is (subst (λ (x : SidesParts). c.half_bond.result ≡ slice_get (half_bonds x) 0) c.in_ok-sides.ensures c.half_bond.ensures)
    (stopped c.args.text.now BadRight (slice_get (bad_rights c.args.pairs.items) 0) _ c.bad_right-bad.result c.in-Some-bad.at _ c.in-Some-bad.is (subst (λ (pairs : List Pair). c.bad_right-bad.result ≡ slice_get (bad_rights pairs) 0) c.as_slice.ensures.value c.bad_right-bad.ensures) (ap BadRight c.place-in-Some-bad.ensures)))

pub returns-clause-tried : goal.returns-clause-tried
returns-clause-tried c = record {
  sides = c.in_ok-sides.ensures;
  left = subst (λ (agents : List AgentSaid). AreBondsOf agents c.in_ok-left.left) (c.as_slice-2.ensures.value ∙ ap (λ (x : SidesParts). x.left) c.sides.view_is) c.in_ok-left.ensures;
  right = subst (λ (agents : List AgentSaid). AreBondsOf agents c.in_ok-right.right) (c.as_slice-3.ensures.value ∙ ap (λ (x : SidesParts). x.right) c.sides.view_is) c.in_ok-right.ensures;
  whole = none_found (half_bonds c.in_ok-sides.sides) (sym c.in_default.is ∙ c.half_bond.ensures);
  good = none_found (bad_rights c.args.pairs.items) (sym c.in_default-bad.is ∙ subst (λ (pairs : List Pair). c.bad_right-bad.result ≡ slice_get (bad_rights pairs) 0) c.as_slice.ensures.value c.bad_right-bad.ensures);
}

pub returns-clause-sides : goal.returns-clause-sides
returns-clause-sides c = λ sig are. subst (λ (x : SidesParts). AreSides sig x) (sym c.in_ok-sides.ensures) are
