use Rattle.std.proofs.Common.{refl, arith}
use Rattle.std.proofs.lemmas.Option.{slice_get_read}
use Rattle.kasa_families.specs.declared.row.Local.{Local}
use Rattle.kasa_report.proofs.KeyLemmas.{keys_skip, keys_more, same_state, states_found}
use Rattle.kasa_report.proofs.product.count_states.Goals as goal
use Rattle.kasa_report.proofs.product.count_states.Goals.{in-Some+in_ok-insert, in_default}

pub loop-row-preserved : goal.loop-row-preserved
loop-row-preserved c =
    let rows = c.args.rows.now in
    let at = slice_get_read rows _ c.loop-row.row-index c.row-item.result refl c.loop-row-test.true c.row-item.is in
    elim c.match-local_at.branch [
      | in-Some+in_ok-insert w ↦ rw w.states-is (keys_more rows c.args.k (λ (o : Local). o.state) _ same_state c.loop-row.row-index c.row-item.result _ c.loop-row.states.keys _ at w.in-Some.ensures w.in_ok-insert.ensures.keys c.loop-row.invariant)
      | in_default w ↦ rw w.states-is (keys_skip rows c.args.k (λ (o : Local). o.state) c.loop-row.row-index c.row-item.result c.loop-row.states.keys at w.in_default.ensures c.loop-row.invariant)
    ]

pub returns-clause-counted : goal.returns-clause-counted
returns-clause-counted c = states_found c.args.rows.now c.args.k c.loop-row.row-index c.loop-row.states.keys _ (omega arith) c.loop-row.invariant c.len.ensures.len
