use Rattle.std.proofs.Common.{codes, arith}
use Rattle.kasa_report.specs.PolymersText.{bond_text}
use Rattle.kasa_report.proofs.TextLemmas.{joined_more, joined_all}
use Rattle.kasa_report.proofs.polymers.write_bonds.Goals as goal

pub loop-k-preserved : goal.loop-k-preserved
loop-k-preserved c = joined_more (codes ", ") (bond_text c.args.sig.now) c.args.bonds.now c.loop-k.k c.index-bonds-k.result _ _ _ _ c.loop-k-test.true c.index-bonds-k.is c.loop-k.invariant c.in_ok-write_between.ensures c.in_ok-write_bond.ensures

pub returns : goal.returns
returns c = joined_all (codes ", ") (bond_text c.args.sig.now) c.args.bonds.now c.loop-k.k _ _ (omega arith) c.loop-k.invariant
