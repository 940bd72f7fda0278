use Rattle.std.proofs.Common.{◌≡◌, ◌≤◌, length, sym, ◌∙◌, arith}
use Rattle.kasa_families.specs.Spot.{root_bonds}
use Rattle.kasa_families.proofs.LeftLemmas.{length-past}
use Rattle.kasa_pre.proofs.SpotPlaces.{HasNodeSite-bond_over}
use Rattle.kasa_pre.proofs.spots.follow.Goals as goal

pub returns-in-None : goal.returns-in-None
returns-in-None c =
    let past : length (root_bonds c.args.family.now) ≤ c.args.k = length-past (root_bonds c.args.family.now) c.args.k (sym c.root_bond.ensures ∙ c.in-None.is) in
    absurd (let within = c.requires.within in omega arith)

pub next_node-requires : goal.next_node-requires
next_node-requires c = λ p on. HasNodeSite-bond_over c.args.sig.now c.args.g.now c.args.family.now c.requires.over c.requires.family c.args.k c.in-Some.bond (sym c.root_bond.ensures ∙ c.in-Some.is) _ c.requires.typed p on
