use Rattle.std.proofs.Common.{refl, arith}
use Rattle.std.proofs.lemmas.Option.{slice_get_read}
use Rattle.kasa_graph.specs.Signature.{TypeEntry}
use Rattle.kasa_pre.specs.Allowed.{IsAllowed}
use Rattle.kasa_polymers.specs.StepGraph.{bond_pattern}
use Rattle.kasa_polymers.proofs.PointLemmas.{filtered_none, filtered_push, filtered_skip, filtered_all}
use Rattle.kasa_polymers.proofs.steps.points_of.Goals as goal
use Rattle.kasa_polymers.proofs.steps.points_of.Goals.{then-branch+in_ok-push, else-branch}

pub is_point-requires-clause-over : goal.is_point-requires-clause-over
is_point-requires-clause-over g c =
    let at = slice_get_read c.args.bonds.now _ c.loop-bond.bond-index c.bond-item.result refl c.loop-bond-test.true c.bond-item.is in
    c.requires.over c.bond-item.result (c.loop-bond.bond-index, at)

pub loop-bond-preserved : goal.loop-bond-preserved
loop-bond-preserved g c =
    let bonds = c.args.bonds.now in
    let k = c.loop-bond.bond-index in
    let p = c.bond-item.result in
    let at = slice_get_read bonds _ k p refl c.loop-bond-test.true c.bond-item.is in
    record {
      filtered = elim c.if-branch.branch [
        | then-branch+in_ok-push w ↦ rw (w.points-is, w.in_ok-push.ensures.items)
            (filtered_push bonds (λ q. IsAllowed c.args.sig.now (g.R.Rows.tables c.args.rows.now) (bond_pattern c.args.sig.now q)) c.requires.ascend k c.loop-bond.points.items p at (c.in_ok-is_point.ensures.0 w.if-branch.true) c.loop-bond.invariant.filtered)
        | else-branch w ↦ rw w.points-is
            (filtered_skip bonds (λ q. IsAllowed c.args.sig.now (g.R.Rows.tables c.args.rows.now) (bond_pattern c.args.sig.now q)) k c.loop-bond.points.items p at
            (λ holds. absurd (let met = c.in_ok-is_point.ensures.1 holds in let unmet = w.if-branch.false in cc)) c.loop-bond.invariant.filtered)
      ];
    }

pub returns-clause-listed : goal.returns-clause-listed
returns-clause-listed g c = filtered_all c.args.bonds.now (λ q. IsAllowed c.args.sig.now (g.R.Rows.tables c.args.rows.now) (bond_pattern c.args.sig.now q)) c.loop-bond.bond-index c.loop-bond.points.items (omega arith) c.loop-bond.invariant.filtered
