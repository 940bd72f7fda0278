use Rattle.kasa_tabfile.proofs.WrittenLemmas.{row_copied, row_there}
use Rattle.kasa_tabfile.proofs.write.copied_rows.Goals.{in-Some+in_ok-push, in_default}
use Rattle.kasa_tabfile.proofs.write.copied_rows.Goals as goal

pub loop-k-preserved : goal.loop-k-preserved
loop-k-preserved g c = elim c.match-row.branch [
  | in-Some+in_ok-push w ↦ rw w.copied-is (row_copied _ _ _ _ _ _ c.loop-k.invariant w.in-Some.ensures w.copy.ensures w.in_ok-push.ensures.items)
  | in_default w ↦ absurd (row_there _ _ _ c.rows-k-end.ensures c.loop-k-test.true w.in_default.ensures)
]
